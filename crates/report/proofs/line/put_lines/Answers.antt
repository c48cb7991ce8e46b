-- What is left to show.
use mathlib.Core.Path.{refl}
use Rattle.judge.specs.Facts.{stands}
use Rattle.report.specs.Report.{line_in}
use Rattle.report.proofs.Putting.{along_begins, along_on, along_ends}
use Rattle.report.proofs.line.put_lines.Goals as goal

pub loop-p-init : goal.loop-p-init
loop-p-init c = λ h. along_begins _ _ _ h

pub loop-p-preserved : goal.loop-p-preserved
unfolding line_in stands
loop-p-preserved c = λ h. along_on _ (c.loop-p.invariant h) c.loop-p-test.true refl c.put_if_standing.ensures

pub returns : goal.returns
returns c = λ h. along_ends _ (c.loop-p.invariant h) c.loop-p-test.false
