-- The words said lie in the first eight of the lent words for them.
use Rattle.std.proofs.Common.{◌≡◌, ℕ, ◌+◌, ◌*◌, ◌<◌, ◌≤◌, cond, eqb, List, [], ◌∷◌, ◌++◌, length, get_or, sym, ap, ◌∙◌, arith}
use borrow.Rule.Slice.PartMut.{put_mid}
use Rattle.words.specs.Parts.{part}
use Rattle.words.proofs.Parts.{part_here, part_word}
use Rattle.cores.specs.Ports.{out_of, said_at, said_of}
use Rattle.cores.specs.declared.port.Out as port-out

said_front_at : (w : List ℕ) (k : ℕ) → k < 4 → said_at (part 0 8 w) k ≡ said_at w k
said_front_at w k h =
    let at : (j : ℕ) → j < 8 → get_or (part 0 8 w) j 0 ≡ get_or w j 0 = λ j l. part_word 0 8 w j 0 l ∙ ap (λ i. get_or w i 0) (omega arith) in
    λ i. cond (eqb (at (2 * k) (omega arith) i) 0) [] ((k, at (2 * k + 1) (omega arith) i) ∷ [])

said_front : (w : List ℕ) → said_of (part 0 8 w) ≡ said_of w
said_front w =
    λ i. said_front_at w 0 (omega arith) i ++ said_front_at w 1 (omega arith) i ++ said_front_at w 2 (omega arith) i ++ said_front_at w 3 (omega arith) i

pub wrote_said : (o : port-out.Out) (w ys : List ℕ) → length ys ≡ 8 → 8 ≤ length w → out_of o (put_mid 0 8 w ys) ≡ out_of o ys
wrote_said o w ys e h = λ i. record {
  asks = (out_of o ys).asks;
  writes = (out_of o ys).writes;
  says = (sym (said_front (put_mid 0 8 w ys)) ∙ ap said_of (part_here 0 8 8 w ys e h)) i;
  did = (out_of o ys).did;
}
