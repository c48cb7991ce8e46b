-- `put_if_standing` meets its contract: a line, or nothing.
-- Assumes nothing.
use native.Mathlib.Omega.{arith}
use borrow.Author.Tests.{lt-ltb, le-ltb}
use Rattle.text.proofs.PageLaws.{wrote_none}
use Rattle.report.proofs.line.put_if_standing.Goals as goal

pub returns-then-p-count : goal.returns-then-p-count
returns-then-p-count c = simp (lt-ltb _ _ c.if-p-count.true) c.put_line.ensures

pub returns-else-p-count : goal.returns-else-p-count
returns-else-p-count c = simp (le-ltb _ _ c.if-p-count.false) (λ h. wrote_none _ (omega arith))
