-- When a memory can be written out, and what the bytes then are.
-- Assumes nothing: these are definitions.
use Rattle.std.specs.Prelude.{◌≡◌, ℕ, ◌+◌, ◌*◌, ◌/◌, ◌%◌, ◌≤◌, cond, not, ◌||◌, List, ◌++◌, length, drop, Ok, Err, Result, ◌==◌, nat_lt}
use Rattle.image.specs.Memory.{outside, bytes_of, image}
use Rattle.image.specs.declared.write.StoreFault.{StoreFault}
use Rattle.image.specs.declared.write.StoreFault.TheVariants.{NoSuchCores, NoWholeLines, NoRoom}

-- how many bytes so many words for so many cores take, if there is room: 1 to 4 cores, 1 to 65,536 lines of eight words
abbrev pub store_rule : ℕ → ℕ → ℕ → Result ℕ StoreFault
store_rule cores words room =
    cond (outside 1 4 cores) (Err NoSuchCores)
    (cond (not (words % 8 == 0) || outside 8 524288 words) (Err NoWholeLines)
    (cond (nat_lt room (9 + 4 * words)) (Err NoRoom)
    (Ok (9 + 4 * words))))

-- what is known where nothing is refused
pub record Room (cores words room n : ℕ) : Type 0 where
  pub some_core : 1 ≤ cores
  pub few_cores : cores ≤ 4
  pub lines : words ≡ 8 * (words / 8)
  pub some_word : 8 ≤ words
  pub few_words : words ≤ 524288
  pub takes : n ≡ 9 + 4 * words
  pub enough : n ≤ room

-- the memory comes first, and bytes past it stay; a refusal changes none
abbrev pub stored : Result ℕ StoreFault → ℕ → List ℕ → List ℕ → List ℕ
stored (Ok n) cores memory was = image cores (length memory / 8) (bytes_of memory) ++ drop n was
stored (Err e) cores memory was = was

-- the same for a memory that is given as bytes, four to a word
abbrev pub store_bytes_rule : ℕ → ℕ → ℕ → Result ℕ StoreFault
store_bytes_rule cores bytes room = cond (not (bytes % 4 == 0)) (Err NoWholeLines) (store_rule cores (bytes / 4) room)

abbrev pub stored_bytes : Result ℕ StoreFault → ℕ → List ℕ → List ℕ → List ℕ
stored_bytes (Ok n) cores memory was = image cores (length memory / 32) memory ++ drop n was
stored_bytes (Err e) cores memory was = was
