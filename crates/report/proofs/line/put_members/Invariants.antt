-- `put_members` meets its contract: the members passed are put.
-- Assumes nothing.
use Prim.Native.Nat.{◌+◌, ◌≤◌}
use lib.Dec.{ltb}
use lib.ListN.{length}
use Rattle.report.specs.Report.{member_in, members_of}
use Rattle.report.proofs.Putting.{Along}
use Rattle.report.proofs.line.put_members.Given as goal

abbrev pub invariant-loop-q : goal.invariant-loop-q
invariant-loop-q l = l.initial.page.at + length (members_of l.set) ≤ length l.initial.page.text.now
    → Along (λ k before. member_in l.set k (ltb 0 (length before))) l.initial.page 32 l.page l.q
