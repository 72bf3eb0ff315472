-- The steps of a cycle, one after another; four lines at most are written, as in every cycle.
use Rattle.std.proofs.Common.{ℕ, ◌≤◌, Bool, false, map, length, get_or, sym, ◌∙◌, subst}
use Rattle.cores.specs.Board.{Out}
use Rattle.cores.specs.Ports.{line_of, somes}
use Rattle.cached.specs.Layout.{state_of}
use Rattle.cached.specs.Rv.{rv}
use Rattle.cached.specs.Soc.{State}
use Rattle.cached.proofs.Cycles.{cycle_is}
use Rattle.cached.proofs.Outs.{cycle_few}
use Rattle.cached.proofs.cycle.steps.Goals as goal

pub in_four-requires : goal.in_four-requires
in_four-requires c =
    let xs = map line_of c.args.given.now in
    let up : ℕ → Bool = λ k. get_or c.args.up k false in
    let whole = cycle_is xs up (state_of c.args.chip.now) (state_of c.deliver.new.chip) (state_of c.take_all.new.chip) (state_of c.answer_all-answered.new.chip)
    (state_of c.act_all-deeds.new.chip) (state_of c.start_next-asks.new.chip) (state_of c.pass_turn.new.chip) c.answer_all-answered.result c.act_all-deeds.result.wrote _ c.act_all-deeds.result.did c.start_next-asks.result (somes line_of c.both.result)
    c.deliver.ensures c.take_all.ensures c.answer_all-answered.ensures c.act_all-deeds.ensures c.start_next-asks.ensures c.pass_turn.ensures c.both.ensures in
    subst (λ (r : State rv × Out). length r.1.writes ≤ 4) (sym whole) (cycle_few rv (state_of c.args.chip.now) xs up).writes

pub returns-clause-value : goal.returns-clause-value
returns-clause-value c =
    cycle_is (map line_of c.args.given.now) (λ k. get_or c.args.up k false) (state_of c.args.chip.now) (state_of c.deliver.new.chip) (state_of c.take_all.new.chip) (state_of c.answer_all-answered.new.chip)
    (state_of c.act_all-deeds.new.chip) (state_of c.start_next-asks.new.chip) (state_of c.pass_turn.new.chip) c.answer_all-answered.result c.act_all-deeds.result.wrote _ c.act_all-deeds.result.did c.start_next-asks.result _
    c.deliver.ensures c.take_all.ensures c.answer_all-answered.ensures c.act_all-deeds.ensures c.start_next-asks.ensures c.pass_turn.ensures (c.in_four.ensures ∙ c.both.ensures)
