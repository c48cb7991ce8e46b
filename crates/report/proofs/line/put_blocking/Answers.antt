-- `put_blocking` meets its contract: piece after piece.
-- Assumes nothing.
use Rattle.text.proofs.PageLaws.{wrote}
use Rattle.report.specs.Report.{blocking_line}
use Rattle.report.proofs.Putting.{begin, next, ended}
use Rattle.report.proofs.line.put_blocking.Goals as goal

pub returns : goal.returns
unfolding blocking_line
returns c = λ h.
    let site = next (next (begin _ _ h) (wrote c.put.ensures)) (wrote c.put_decimal.ensures) in
    let state = next (next site (wrote c.put-2.ensures)) (wrote c.put_decimal-2.ensures) in
    let condition = next (next state (wrote c.put-3.ensures)) (wrote (rw c.from.ensures at c.put_decimal-3.ensures)) in
    ended (next condition (wrote c.put-4.ensures))
