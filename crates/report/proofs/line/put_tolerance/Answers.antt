-- `put_tolerance` meets its contract: none, or piece after piece.
-- Assumes nothing.
use Rattle.text.proofs.PageLaws.{wrote}
use Rattle.report.specs.Report.{tolerance_line}
use Rattle.report.proofs.Putting.{begin, next, ended}
use Rattle.report.proofs.line.put_tolerance.Goals as goal

pub returns-in-None : goal.returns-in-None
unfolding tolerance_line
returns-in-None c = rw c.in-None.is (wrote c.put.ensures)

pub returns-in-Some : goal.returns-in-Some
unfolding tolerance_line
returns-in-Some c = rw c.in-Some.is (λ h. ended (next (next (next (begin _ _ h) (wrote c.put-in-Some.ensures)) (wrote c.put_decimal.ensures)) (wrote c.put-in-Some-2.ensures)))
