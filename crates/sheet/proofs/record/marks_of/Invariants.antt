-- `marks_of` meets its contract: the marks of the sites passed are read, and the next mark stands after theirs.
-- Assumes nothing.
use Prim.Native.Nat.{◌+◌}
use mathlib.Core.Path.{◌≡◌}
use Rattle.sheet.specs.Record.{states_before}
use Rattle.sheet.proofs.Marks.{MarksRead}
use Rattle.sheet.proofs.record.marks_of.Given as goal

abbrev pub invariant-loop-i : goal.invariant-loop-i
invariant-loop-i l = MarksRead l.bytes l.sites l.counts l.i l.marks × (l.at ≡ 4 + l.sites + states_before l.counts l.i)
