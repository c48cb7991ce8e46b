-- `put_set` meets its contract: `-` for none.
-- Assumes nothing.
use borrow.Author.Tests.{eq-eqb, ne_eqb}
use Rattle.text.proofs.PageLaws.{wrote}
use Rattle.report.specs.Report.{set_word}
use Rattle.report.proofs.line.put_set.Goals as goal

pub returns-then-set-eq0 : goal.returns-then-set-eq0
unfolding set_word
returns-then-set-eq0 c = simp (eq-eqb _ _ c.if-set-eq0.true) (wrote c.put.ensures)

pub returns : goal.returns
unfolding set_word
returns c = simp (ne_eqb _ _ c.if-set-eq0.false) c.put_members.ensures
