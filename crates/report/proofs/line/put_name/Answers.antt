-- `put_name` meets its contract: a number, a dot and a number.
-- Assumes nothing.
use Rattle.text.proofs.PageLaws.{wrote}
use Rattle.report.specs.Report.{name_of}
use Rattle.report.proofs.Putting.{begin, next, ended}
use Rattle.report.proofs.line.put_name.Goals as goal

pub returns : goal.returns
unfolding name_of
returns c = λ h. ended (next (next (next (begin _ _ h) (wrote c.put_decimal.ensures)) (wrote c.put.ensures)) (wrote c.put_decimal-2.ensures))
