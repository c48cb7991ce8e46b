-- What is left to show.
use mathlib.Core.Path.{ap}
use Rattle.report.specs.Report.{member_in}
use Rattle.report.proofs.Putting.{along_begins, along_on, along_ends, along_later}
use Rattle.report.proofs.line.put_members.Goals as goal

pub loop-q-init : goal.loop-q-init
loop-q-init c = λ h. along_begins _ _ _ h

pub loop-q-preserved : goal.loop-q-preserved
loop-q-preserved c = λ h. let a = c.loop-q.invariant h in along_on _ a c.loop-q-test.true (ap (member_in c.args.set c.loop-q.q) (along_later _ a)) c.put_if_member.ensures

pub returns : goal.returns
returns c = λ h. along_ends _ (c.loop-q.invariant h) c.loop-q-test.false
