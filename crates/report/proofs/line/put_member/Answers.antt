-- `put_member` meets its contract: with the comma or without.
-- Assumes nothing.
use Rattle.text.proofs.PageLaws.{wrote}
use Rattle.report.specs.Report.{member_of}
use Rattle.report.proofs.Putting.{begin, next, ended}
use Rattle.report.proofs.line.put_member.Goals as goal

pub returns-then-later : goal.returns-then-later
unfolding member_of
returns-then-later c = simp c.if-later.true (λ h. ended (next (next (begin _ _ h) (wrote c.put.ensures)) c.put_name.ensures))

pub returns : goal.returns
unfolding member_of
returns c = simp c.if-later.false c.put_name-2.ensures
