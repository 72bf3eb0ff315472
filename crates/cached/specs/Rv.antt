-- The cores of this chip, with the words of memory that an instruction of RV32I needs.
-- Assumes nothing: these are definitions.
use Rattle.rv32.specs.Decode.{decode}
use Rattle.rv32.specs.Execute.{fetch, need}
use Rattle.cores.specs.Rv32.{rv32}
use Rattle.cached.specs.Kind.{Kind}

-- RV32I: what is fetched is the word at pc, and what is needed besides depends on the instruction that it is
abbrev pub rv : Kind
rv = record { isa = rv32; looks = fetch; touch = λ n c word. need n c (decode word) }
