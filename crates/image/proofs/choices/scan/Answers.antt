-- Each byte takes the reader one state on; after the last it has ended or was cut short.
use Rattle.std.proofs.Common.{◌<◌, length, ◌∙◌, arith}
use Rattle.std.proofs.lemmas.Result.{err_from_is_err_and}
use Rattle.image.proofs.Scan.{scan_more, scan_refused, scan_ended}
use Rattle.image.proofs.choices.scan.Goals as goal

pub returns-in_err-reader : goal.returns-in_err-reader
returns-in_err-reader c =
    let p = err_from_is_err_and c.from_residual.result c.from_residual.ensures.1 in
    let h : c.loop-at.at < length c.args.bytes.now = omega arith in
    rw (p.1, p.2) (scan_refused c.args.cores c.loop-at.reader c.loop-at.at c.args.bytes.now _ h c.in_err-reader.ensures ∙ c.loop-at.invariant)

pub loop-at-preserved : goal.loop-at-preserved
loop-at-preserved c = scan_more c.args.cores c.loop-at.reader c.loop-at.at c.args.bytes.now _ (omega arith) c.in_ok-reader.ensures ∙ c.loop-at.invariant

pub returns : goal.returns
returns c = c.end.ensures ∙ scan_ended c.args.cores c.loop-at.reader c.loop-at.at c.args.bytes.now (omega arith) ∙ c.loop-at.invariant
