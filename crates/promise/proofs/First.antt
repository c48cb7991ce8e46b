-- What each first phase keeps of its own, beside what both protocols keep.
-- Assumes nothing.
use Prim.Native.Nat.{ℕ, ◌≤◌}
use mathlib.Core.Path.{◌≡◌}
use Rattle.promise.proofs.Classes.{Central, Peers, MoveW, Prepare, IsA, QW, PC}
use Rattle.promise.proofs.View.{View, EP, EA, Open}

-- With a coordinator: where something was prepared, no site may still prepare by the first phase.
pub record Coordinated (a : View) : Type 0 where
  pub shut : EP a → (j : ℕ) → Open a j → ⊥

-- A Prepare of k has left: it is live, or k runs, follows nobody and is in p or c. Numbers that are no site's count as having prepared.
pub data Left (a : View) (k : ℕ) : Type 0 where
  nowhere : a.absent k → Left a k
  written : (j : ℕ) → a.live Prepare k j → Left a k
  standing : a.runs k → a.ld k ≡ 0 → PC (a.st k) → Left a k

-- Some site will never prepare by the first phase: it has not, and it has stopped, or follows a leader, or aborted.
pub record Dead (a : View) : Type 0 where
  pub site : ℕ
  pub unprepared : Left a site → ⊥
  pub past : a.runs site → a.ld site ≡ 0 → IsA (a.st site)

-- What shows that the first phase will never come to its end: some site aborted; a Move-w is live; a running site follows a leader in q or w.
pub data Yielded (a : View) : Type 0 where
  aborted : EA a → Yielded a
  moved : (k j : ℕ) → a.live MoveW k j → Yielded a
  waits : (j : ℕ) → a.runs j → 1 ≤ a.ld j → QW (a.st j) → Yielded a

-- Among peers.
pub record Peered (a : View) : Type 0 where
  -- a running site is one of the sites
  pub there : (j : ℕ) → a.runs j → a.absent j → ⊥
  -- a running site whose Prepare is live, and that follows nobody, is in p or c
  pub stood : (j i : ℕ) → a.live Prepare j i → a.runs j → a.ld j ≡ 0 → PC (a.st j)
  pub dead : Yielded a → Dead a

-- The clauses of the protocol that a run has.
pub record Own (a : View) : Type 0 where
  pub central : a.by ≡ Central → Coordinated a
  pub peers : a.by ≡ Peers → Peered a
