-- `is_wrong_count` meets its contract.
-- Assumes nothing.
use Rattle.sheet.specs.Write.{wrong_count}
use Rattle.sheet.proofs.writer.is_wrong_count.Goals as goal

pub returns-then-there : goal.returns-then-there
unfolding wrong_count
returns-then-there c = simp c.if-there.true c.is_outside.ensures

pub returns-else-there : goal.returns-else-there
unfolding wrong_count
returns-else-there c = simp c.if-there.false
