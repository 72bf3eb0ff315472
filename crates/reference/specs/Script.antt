-- Events as letters of a text.
-- Assumes nothing: these are definitions.
use Rattle.std.specs.Prelude.{ℕ, ◌+◌, ◌-◌, cond, ◌&&◌, Some, None, Option, nat_le, nat_lt}
use Rattle.cores.specs.declared.port.Event.{Event}
use Rattle.cores.specs.declared.port.Event.TheVariants.{Step, Interrupt}

-- `0` to `3` is an instruction of that core, `a` to `d` an interrupt taken by core 0 to 3
abbrev pub letter_event : ℕ → Option Event
letter_event letter =
    cond (nat_le 48 letter && nat_lt letter 52) (Some (Step (letter - 48))) (cond (nat_le 97 letter && nat_lt letter 101) (Some (Interrupt (letter - 97))) None)

-- the letter of an event of one of four cores
abbrev pub event_letter : Event → Option ℕ
event_letter (Step k) = cond (nat_lt k 4) (Some (48 + k)) None
event_letter (Interrupt k) = cond (nat_lt k 4) (Some (97 + k)) None
