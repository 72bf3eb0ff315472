-- Each turn asks one core more.
use Rattle.std.proofs.Common.{◌≡◌, ℕ, ltb, ap, ◌∙◌, arith}
use Rattle.cores.specs.Machines.{pick}
use Rattle.directory.specs.Directory.{question}
use Rattle.cache.specs.Words.{is_write}
use Rattle.cached.specs.Layout.{state_of, with_asked}
use Rattle.cached.proofs.Cycles.{asks_all, asks_more, asks_none}
use Rattle.cached.proofs.start.ask_holders.Goals as goal

pub loop-j-init : goal.loop-j-init
loop-j-init c = asks_none (state_of c.args.chip.now) c.args.line (is_write c.args.access)

pub loop-j-preserved : goal.loop-j-preserved
loop-j-preserved c =
    asks_more (state_of c.args.chip.now) (state_of c.loop-j.chip) (state_of c.set_probe.new.chip) c.args.line c.loop-j.j (is_write c.args.access) _
    c.loop-j.invariant c.probe_for-probe.ensures c.set_probe.ensures

pub returns : goal.returns
returns c =
    let h = state_of c.args.chip.now in
    let four : c.loop-j.j ≡ 4 = omega arith in
    c.loop-j.invariant
    ∙ ap (λ (j : ℕ). with_asked h (λ i. pick (ltb i j) (question h.lines.entry c.args.line (is_write c.args.access) i) (h.hints.probe i))) four
    ∙ ap (with_asked h) (asks_all c.args.chip.now c.args.line (is_write c.args.access))
