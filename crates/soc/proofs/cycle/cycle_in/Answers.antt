-- The words that are used are the first.
use Rattle.std.proofs.Common.{false, map, get_or, ap, ◌∙◌, arith}
use Rattle.std.proofs.lemmas.Slice.{drop-put_mid}
use Rattle.cores.specs.Ports.{line_of}
use Rattle.soc.specs.Layout.{state_of}
use Rattle.soc.specs.Rv.{rv}
use Rattle.soc.specs.Soc.{cycle}
use Rattle.soc.proofs.Outs.{wrote_said}
use Rattle.soc.proofs.Regions.{read_front, wrote_front}
use Rattle.soc.proofs.cycle.cycle_in.Goals as goal

pub returns : goal.returns
returns c =
    let w = c.args.chip.now in
    let v = c.args.said.now in
    let ys = c.steps.new.chip in
    let zs = c.steps.new.said in
    let first = rw c.unwrap-used.ensures at c.first_chunk_mut.ensures.cases in
    record {
      done =
          (λ i. (wrote_front w ys (omega arith) (omega arith) i, wrote_said c.steps.result v zs (omega arith) (omega arith) i))
          ∙ c.steps.ensures.value
          ∙ ap (λ h. cycle rv h (map line_of c.args.given.now) (λ k. get_or c.args.up k false)) (ap state_of first.same ∙ read_front w);
      unused = drop-put_mid 0 169 w ys 169 (omega arith) (omega arith) (omega arith);
      unsaid = drop-put_mid 0 8 v zs 8 (omega arith) (omega arith) (omega arith);
    }
