-- `put_if_member` meets its contract: a member, or nothing.
-- Assumes nothing.
use native.Mathlib.Omega.{arith}
use borrow.Author.Tests.{eq-eqb, ne_eqb}
use Rattle.sets.specs.Sets.{bit}
use Rattle.report.specs.Report.{member_in}
use Rattle.text.proofs.PageLaws.{wrote_none}
use Rattle.report.proofs.line.put_if_member.Goals as goal

pub returns-then-set-q-eq1 : goal.returns-then-set-q-eq1
unfolding member_in bit
returns-then-set-q-eq1 c = simp (eq-eqb _ _ c.if-set-q-eq1.true) c.put_member.ensures

pub returns-else-set-q-eq1 : goal.returns-else-set-q-eq1
unfolding member_in bit
returns-else-set-q-eq1 c = simp (ne_eqb _ _ c.if-set-q-eq1.false) (λ h. wrote_none _ (omega arith))
