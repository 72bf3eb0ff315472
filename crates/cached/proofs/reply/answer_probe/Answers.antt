-- The probe is taken from its row, replied to, and a request that still probes waits again.
use Rattle.std.proofs.Common.{sym, ap, ◌∙◌}
use Rattle.link.specs.Words.{probe_of}
use Rattle.cached.specs.Layout.{state_of}
use Rattle.cached.proofs.Replies.{answered}
use Rattle.cached.proofs.reply.answer_probe.Goals as goal

pub returns : goal.returns
returns c =
    answered (state_of c.args.chip.now) (state_of c.set_probe.new.chip) (state_of c.reply_to-written.new.chip) (state_of c.requeue_lead.new.chip)
    c.args.k c.reply_to-written.result c.set_probe.ensures c.requeue_lead.ensures c.in-Some.probe (cc) (ap (probe_of c.args.k) (sym c.in-Some.is) ∙ c.probe.ensures) c.reply_to-written.ensures
