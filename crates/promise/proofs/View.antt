-- A run as agreement sees it, and the invariant of safety.
-- Assumes nothing.
use Prim.Native.Nat.{ℕ, ◌≤◌, ◌<◌}
use mathlib.Core.Logic.{◌⊎◌}
use Rattle.site.specs.declared.State.{State}
use Rattle.promise.proofs.Classes.{Protocol, Kind, Yes, No, MoveP, MoveW, Ack, IsQ, IsW, IsA, IsC, PC, QWA, Order, Prepares, IsCommit, IsAbort, Stands, Relies, First, Leads}

-- What the invariant reads of a run. `live κ k j`: a message of kind κ from k to j is outstanding, or is a Yes, No, Ack or Prepare that j has recorded.
pub record View : Type 1 where
  pub by : Protocol
  -- i is one of the sites and has not stopped
  pub runs : ℕ → Type 0
  -- i has stopped
  pub stopped : ℕ → Type 0
  -- i is none of the sites
  pub absent : ℕ → Type 0
  pub st : ℕ → State
  pub ld : ℕ → ℕ
  -- j has voted yes so far
  pub voted : ℕ → Type 0
  pub live : Kind → ℕ → ℕ → Type 0

-- Some site, stopped or not, is in a state of the one class, or some message of the other is live.
pub data Evidence (S : State → Type 0) (K : Kind → Type 0) (st : ℕ → State) (live : Kind → ℕ → ℕ → Type 0) : Type 0 where
  seen : (i : ℕ) → S (st i) → Evidence S K st live
  told : (κ : Kind) (k j : ℕ) → K κ → live κ k j → Evidence S K st live

-- Something was prepared; some site aborted; some site committed.
abbrev pub EP : View → Type 0
EP a = Evidence PC Prepares a.st a.live

abbrev pub EA : View → Type 0
EA a = Evidence IsA IsAbort a.st a.live

abbrev pub EC : View → Type 0
EC a = Evidence IsC IsCommit a.st a.live

-- Site j may still prepare by the first phase.
abbrev pub Open : View → ℕ → Type 0
Open a j = a.runs j × First a.by j (a.st j) (a.ld j)

abbrev pub Lead : View → ℕ → Type 0
Lead a k = Leads a.by k (a.st k) (a.ld k)

-- No site below k runs.
abbrev pub Lowest : View → ℕ → Type 0
Lowest a k = (i : ℕ) → i < k → a.runs i → ⊥

-- Site k will never have voted yes: it has not, and it has stopped or left q, or is exempt.
pub record Muted (a : View) (exempt : ℕ → Type 0) (k : ℕ) : Type 0 where
  pub silent : a.voted k → ⊥
  pub past : a.runs k → IsQ (a.st k) → exempt k

-- Some site will never have voted yes. An exempt site is one that leaves q or its first phase now, by its step or its stop.
pub record Mute (a : View) (exempt : ℕ → Type 0) : Type 0 where
  pub site : ℕ
  pub muted : Muted a exempt site

-- What must hold where something was prepared: every site has voted yes.
abbrev pub MayPrepare : View → Type 0
MayPrepare a = (j : ℕ) → a.voted j

-- What must hold where some site decided: every running site is in a state of the class S, none will obey an order of kind κ, and there is no E.
pub record Decided (a : View) (S : State → Type 0) (κ : Kind) (E : Type 0) : Type 0 where
  pub each : (j : ℕ) → a.runs j → S (a.st j)
  pub deaf : (k j : ℕ) → a.live κ k j → a.runs j → k < a.ld j
  pub apart : E → ⊥

-- Where some site aborted, no running site is in p or c, none will obey a Move-p, and no site committed.
pub record MayAbort (a : View) (exempt : ℕ → Type 0) : Type 0 where
  pub decided : Decided a QWA MoveP (EC a)
  -- where a site may still prepare by the first phase, some site will never have voted yes
  pub barred : (j : ℕ) → Open a j → exempt j ⊎ Mute a exempt

-- Where some site committed, every running site is in p or c, none will obey a Move-w, and no site aborted.
abbrev pub MayCommit : View → Type 0
MayCommit a = Decided a PC MoveW (EA a)

-- When a state s is safe to come to, or to give its order in: as evidence, and beside the evidence there is.
pub record Safe (a : View) (s : State) (exempt : ℕ → Type 0) : Type 0 where
  pub prepared : PC s → MayPrepare a
  pub aborted : IsA s → MayAbort a exempt
  pub committed : IsC s → MayCommit a
  pub beside_a : EA a → QWA s
  pub beside_c : EC a → PC s

abbrev pub nobody : ℕ → Type 0
nobody i = ⊥

-- What both protocols keep.
pub record Inv (a : View) : Type 0 where
  -- sites are counted from 1
  pub site : (i : ℕ) → a.runs i → 1 ≤ i
  -- no site follows a higher one
  pub low : (i : ℕ) → a.ld i ≤ i
  -- orders go to higher sites
  pub up : (κ : Kind) (k j : ℕ) → Order κ → a.live κ k j → k < j
  -- acknowledgements go to lower sites
  pub down : (k j : ℕ) → a.live Ack j k → k < j
  -- below the sender of an order no site runs
  pub lowest : (κ : Kind) (k j : ℕ) → Order κ → a.live κ k j → Lowest a k
  -- a running site in q has not voted
  pub unvoted : (j : ℕ) → a.runs j → IsQ (a.st j) → a.voted j → ⊥
  -- a site in w that may still prepare by the first phase has voted
  pub waiting : (j : ℕ) → Open a j → IsW (a.st j) → a.voted j
  -- a Yes comes from a site that has voted
  pub yes : (k j : ℕ) → a.live Yes k j → a.voted k
  -- a No comes from a site that will never have voted
  pub no : (k j : ℕ) → a.live No k j → Muted a nobody k
  -- a running site whose order is live leads, and is in a state that goes with it
  pub orders : (κ : Kind) (k j : ℕ) → Order κ → a.live κ k j → a.runs k → Lead a k × Stands κ (a.st k)
  -- a running site that was acknowledged leads
  pub leader : (k j : ℕ) → a.live Ack j k → a.runs k → Lead a k
  -- a running leader can rely on the running sites that acknowledged
  pub follower : (k j : ℕ) → a.live Ack j k → a.runs k → a.runs j → Relies (a.st k) k (a.st j) (a.ld j)
  pub prepared : EP a → MayPrepare a
  pub aborted : EA a → MayAbort a nobody
  pub committed : EC a → MayCommit a
