-- `put_parts` meets its contract: in a room that is large enough.
-- Assumes nothing.
use mathlib.Core.List.{List, ◌++◌}
use mathlib.Core.Path.{sym, ap}
use Prim.Native.Nat.{ℕ}
use borrow.Author.Tests.{lt-leb, le-leb}
use lib.ListN.{drop}
use Rattle.sheet.specs.Parts.{parts_size, parts_put}
use Rattle.sheet.proofs.put_parts.Goals as goal

pub returns-in-Some : goal.returns-in-Some
unfolding parts_put
returns-in-Some c = simp (le-leb parts_size _ c.in-Some.ensures.cases.enough) (ap (λ (l : List ℕ). l ++ drop parts_size c.args.room.now) c.put_all.ensures)

pub returns-in_default : goal.returns-in_default
unfolding parts_put
returns-in_default c = sym (simp (lt-leb parts_size _ c.in_default.ensures.cases))
