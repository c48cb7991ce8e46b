-- `put_lines` meets its contract: the lines of the states passed are put.
-- Assumes nothing.
use Prim.Native.Nat.{◌+◌, ◌≤◌}
use lib.ListN.{length}
use Rattle.report.specs.Report.{line_in, state_lines}
use Rattle.report.proofs.Putting.{Along}
use Rattle.report.proofs.line.put_lines.Given as goal

abbrev pub invariant-loop-p : goal.invariant-loop-p
invariant-loop-p l = l.initial.page.at + length (state_lines l.sheet l.locals) ≤ length l.initial.page.text.now
    → Along (λ k before. line_in l.sheet l.locals k) l.initial.page 32 l.page l.p
