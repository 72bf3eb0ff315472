-- The cores of this chip, with the words of memory that an instruction of RV32I looks at.
-- Assumes nothing: these are definitions.
use Rattle.std.specs.Prelude.{ℕ, Some, None, Option}
use Rattle.rv32.specs.Decode.{decode}
use Rattle.rv32.specs.Execute.{fetch, need}
use Rattle.rv32.specs.declared.core_state.Need.{Need}
use Rattle.rv32.specs.declared.core_state.Need.TheVariants.{Nothing, Read, Write}
use Rattle.cores.specs.Rv32.{rv32}
use Rattle.soc.specs.Kind.{Kind}

-- the word that a need is for, to read or to write
abbrev pub word_of : Need → Option ℕ
word_of Nothing = None
word_of (Read a) = Some a
word_of (Write a) = Some a

-- RV32I: what is fetched is the word at pc, and what is needed depends on the instruction that it is
abbrev pub rv : Kind
rv = record { isa = rv32; looks = fetch; touch = λ n c word. word_of (need n c (decode word)) }
