-- The registers by their names.
-- Assumes nothing: these are definitions.
use Rattle.std.specs.Prelude.{ℕ, Bool, cond, not, ◌&&◌, List, codes, drop, length, Some, None, Option, ◌==◌, nat_le, nat_lt, slice_index}
use Rattle.std.specs.Option.{option_or}
use Rattle.std.specs.Str.{bytes_eq}
use Rattle.lexicon.specs.Literal.{number_of}

abbrev pub below_32 : Option ℕ → Option ℕ
below_32 None = None
below_32 (Some n) = cond (nat_lt n 32) (Some n) None

-- x0 to x31: an x and a number that has no zero before it
abbrev pub is_numbered : List ℕ → Bool
is_numbered name = nat_le 1 (length name) && (slice_index name 0 == 120 && not (nat_le 3 (length name) && slice_index name 1 == 48))

abbrev pub numbered : List ℕ → Option ℕ
numbered name = cond (is_numbered name) (below_32 (number_of (drop 1 name))) None

-- the number of a register: fp is 8; else where its name stands among those of the calling convention; else x0 to x31
abbrev pub register_number : Option ℕ → List ℕ → Option ℕ
register_number place name = cond (bytes_eq name (codes "fp")) (Some 8) (option_or place (numbered name))
