-- One byte of the choices read, by places.
use Rattle.std.proofs.Common.{◌≡◌, ℕ, ◌+◌, ◌<◌, ◌≤◌, List, length, get_or, drop, Ok, Err, Result, sym, ap, ◌∙◌, arith}
use Rattle.std.proofs.lemmas.List.{at_drop_more, at_drop_all}
use Rattle.image.specs.Refusals.{then}
use Rattle.image.specs.Choices.{read, ended, scan}
use Rattle.image.specs.declared.choices.Reader.{Reader}
use Rattle.image.specs.declared.refusal.Refusal.{Refusal}

module _ (cores : ℕ) (s : Reader) (at : ℕ) (bytes : List ℕ) where
  scan_byte : at < length bytes → scan cores s at (drop at bytes) ≡ then (read cores s.expected s.begun at (get_or bytes at 0)) (λ t. scan cores t (at + 1) (drop (at + 1) bytes))
  unfolding scan
  scan_byte h = at_drop_more (scan cores s at) bytes at 0 h

  pub scan_more : (t : Reader) → at < length bytes → Ok t ≡ read cores s.expected s.begun at (get_or bytes at 0) → scan cores t (at + 1) (drop (at + 1) bytes) ≡ scan cores s at (drop at bytes)
  scan_more t h e = sym (scan_byte h ∙ ap (λ (r : Result Reader Refusal). then r (λ u. scan cores u (at + 1) (drop (at + 1) bytes))) (sym e))

  pub scan_refused : (e : Refusal) → at < length bytes → Err e ≡ read cores s.expected s.begun at (get_or bytes at 0) → Err e ≡ scan cores s at (drop at bytes)
  scan_refused e h is = sym (scan_byte h ∙ ap (λ (r : Result Reader Refusal). then r (λ u. scan cores u (at + 1) (drop (at + 1) bytes))) (sym is))

  pub scan_ended : at ≡ length bytes → ended s.expected s.begun (length bytes) ≡ scan cores s at (drop at bytes)
  unfolding scan
  scan_ended e = rw (← e) (let h : length bytes ≤ at = omega arith in sym (at_drop_all (scan cores s at) bytes at h))
