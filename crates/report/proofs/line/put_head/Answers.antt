-- `put_head` meets its contract: piece after piece.
-- Assumes nothing.
use Rattle.text.proofs.PageLaws.{wrote}
use Rattle.report.specs.Report.{head_line}
use Rattle.report.proofs.Putting.{begin, next, ended}
use Rattle.report.proofs.line.put_head.Goals as goal

pub returns : goal.returns
unfolding head_line
returns c = λ h.
    ended (next (next (next (next (next (begin _ _ h) (wrote c.put.ensures)) (wrote c.put_decimal.ensures)) (wrote c.put-2.ensures)) (wrote c.put_decimal-2.ensures)) (wrote c.put-3.ensures))
