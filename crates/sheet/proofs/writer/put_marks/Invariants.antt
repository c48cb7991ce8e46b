-- `put_marks` meets its contract: site after site is put.
-- Assumes nothing.
use mathlib.Core.Path.{◌≡◌}
use Rattle.text.proofs.Putting.{Each}
use Rattle.sheet.proofs.Pieces.{up_to}
use Rattle.sheet.specs.Write.{site_marks}
use Rattle.sheet.proofs.writer.put_marks.Given as goal

abbrev pub invariant-loop-i : goal.invariant-loop-i
invariant-loop-i l =
    (l.page.text.ghost_name ≡ l.initial.page.text.ghost_name)
    × Each (site_marks l.counts l.marks) 4 (up_to 4) l.initial.page.text.now l.initial.page.at l.i l.page.text.now l.page.at
