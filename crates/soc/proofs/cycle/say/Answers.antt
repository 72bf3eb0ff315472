-- Two words are another, or none.
use Rattle.std.proofs.Common.{[], ◌∷◌, sym, ap, ◌∙◌, arith}
use Rattle.cores.specs.Ports.{said_of, somes}
use Rattle.soc.proofs.Outs.{said_one}
use Rattle.soc.proofs.cycle.say.Goals.{in-Some, in_default}
use Rattle.soc.proofs.cycle.say.Goals as goal

pub returns : goal.returns
returns c =
    ap said_of c.copy_from_slice.ensures.after
    ∙ elim c.match-word.branch [
      | in-Some w ↦ ap said_of w.words-is ∙ said_one c.args.k w.in-Some.word (omega arith) ∙ ap (λ o. somes (λ x. (c.args.k, x)) (o ∷ [])) (sym w.in-Some.is)
      | in_default w ↦ ap said_of w.words-is ∙ ap (λ o. somes (λ x. (c.args.k, x)) (o ∷ [])) (sym w.in_default.is)
    ]
