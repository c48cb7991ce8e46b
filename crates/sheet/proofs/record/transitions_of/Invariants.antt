-- `transitions_of` meets its contract: the rows passed are read, and none stand at the other places.
-- Assumes nothing.
use Rattle.sheet.proofs.Rows.{RowsRead}
use Rattle.sheet.proofs.record.transitions_of.Given as goal

abbrev pub invariant-loop-k : goal.invariant-loop-k
invariant-loop-k l = RowsRead l.rows l.k l.transitions
