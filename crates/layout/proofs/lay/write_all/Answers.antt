-- One statement more, and none is left.
use Rattle.std.proofs.Common.{vec_items, sym, ◌∙◌}
use Rattle.layout.proofs.Steps.{faults_end, faults_step, laid_none, laid_step}
use Rattle.layout.proofs.lay.write_all.Goals as goal

pub loop-index-preserved : goal.loop-index-preserved
loop-index-preserved c =
    let i = c.loop-index.index in
    let here = c.loop-index.here in
    record {
      faults = faults_step c.args.size c.args.statements.now i here c.args.values.now (vec_items c.loop-index.faults) (vec_items c.note.new.faults) _ c.err-fault.result _ c.next-here.result c.loop-index-test.true c.in_ok-note.ensures (c.err-fault.ensures.value ∙ c.write.ensures.value) c.next-here.ensures.value c.loop-index.invariant.faults;
      memory = laid_step c.args.size c.args.statements.now i here c.args.values.now _ _ _ _ _ c.loop-index-test.true c.write.ensures.after c.next-here.ensures.value c.loop-index.invariant.memory;
      inside = c.next-here.ensures.inside c.loop-index.invariant.inside;
    }

pub returns : goal.returns
returns c =
    record {
      faults = faults_end c.args.size c.args.statements.now c.loop-index.index c.loop-index.here c.args.values.now _ _ c.loop-index-test.false c.loop-index.invariant.faults;
      after = sym (laid_none c.args.size c.args.statements.now c.loop-index.index c.loop-index.here c.args.values.now c.loop-index.memory c.loop-index-test.false) ∙ c.loop-index.invariant.memory;
    }
