-- `put_ruling` meets its contract: case by case.
-- Assumes nothing.
use Rattle.text.proofs.PageLaws.{wrote}
use Rattle.report.specs.Report.{blocking_or_none}
use Rattle.report.proofs.line.put_ruling.Goals as goal

pub returns-in-None : goal.returns-in-None
unfolding blocking_or_none
returns-in-None c = rw c.in-None.is (wrote c.put.ensures)

pub returns-in-Some : goal.returns-in-Some
unfolding blocking_or_none
returns-in-Some c = rw c.in-Some.is c.put_blocking.ensures
