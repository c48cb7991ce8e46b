-- `put_transitions` meets its contract: row after row is put.
-- Assumes nothing.
use mathlib.Core.Path.{◌≡◌}
use lib.ListN.{length}
use Rattle.text.proofs.Putting.{Each}
use Rattle.sheet.specs.Write.{transition_bytes}
use Rattle.sheet.proofs.writer.put_transitions.Given as goal

abbrev pub invariant-loop-t : goal.invariant-loop-t
invariant-loop-t l =
    (l.page.text.ghost_name ≡ l.initial.page.text.ghost_name)
    × Each transition_bytes (length l.moves) l.moves l.initial.page.text.now l.initial.page.at l.t-index l.page.text.now l.page.at
