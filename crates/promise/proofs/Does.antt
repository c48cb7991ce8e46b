-- The steps of a site as agreement sees them: the rules for a taken or passed step of either protocol, over the view.
-- Assumes nothing.
use Prim.Native.Nat.{ℕ, ◌≤◌, ◌<◌}
use mathlib.Core.Path.{◌≡◌}
use mathlib.Core.Logic.{◌≢◌, ◌⊎◌}
use Rattle.site.specs.declared.State.{State}
use Rattle.site.specs.declared.State.TheVariants.{Q, W, P, A, C}
use Rattle.promise.proofs.Classes.{Central, Peers, by_protocol, Kind, Start, Yes, No, MoveP, MoveW, Ack, Commit, Abort, Prepare, IsQ, PC, WP, QWP, Order, at_order, Early}
use Rattle.promise.proofs.View.{View, Lead, Lowest}

-- The step writes to every running site but j, and to higher ones only.
pub record Everyone (a : View) (j : ℕ) (T : ℕ → Type 0) : Type 0 where
  pub above : (i : ℕ) → T i → j < i
  pub every : (i : ℕ) → a.runs i → i ≢ j → T i

-- The step writes to every running site but j, higher or lower.
pub record Others (a : View) (j : ℕ) (T : ℕ → Type 0) : Type 0 where
  pub apart : (i : ℕ) → T i → i ≢ j
  pub every : (i : ℕ) → a.runs i → i ≢ j → T i

-- The step writes to k alone.
pub record Only (k : ℕ) (T : ℕ → Type 0) : Type 0 where
  pub only : (i : ℕ) → T i → i ≡ k
  pub there : T k

-- Site j may take over: following itself it is past its first phase, that is, with a coordinator it is not site 1; among peers somebody has stopped;
-- it follows a lower one, and no lower one runs.
pub record Backup (a : View) (j : ℕ) : Type 0 where
  pub late : Early a.by j j → ⊥
  pub sees : a.by ≡ Peers → (i : ℕ) × a.stopped i
  pub below : a.ld j < j
  pub lowest : Lowest a j

-- A vote or a Prepare is recorded by a peer that follows nobody and is in q, w or p, and a vote by a coordinator in w.
abbrev IdleFirst : View → ℕ → Type 0
IdleFirst a j = by_protocol (a.st j ≢ W) (a.ld j ≡ 0 → QWP (a.st j) → ⊥) a.by

-- Site j has no use for a message of a kind from k.
abbrev pub Idle : View → ℕ → Kind → ℕ → Type 0
Idle a j Start k = (k < a.ld j) ⊎ (IsQ (a.st j) → ⊥)
Idle a j Yes k = IdleFirst a j
Idle a j No k = IdleFirst a j
Idle a j MoveP k = k < a.ld j
Idle a j MoveW k = k < a.ld j
Idle a j Ack k = Lead a j → WP (a.st j) → ⊥
Idle a j Commit k = k < a.ld j
Idle a j Abort k = k < a.ld j
Idle a j Prepare k = IdleFirst a j

-- What a step uses up: nothing, where it is the site's own; what it was brought is recorded; or a message is used up, by its kind and sender.
pub data Uses : Type 0 where
  nothing notes : Uses
  message : Kind → ℕ → Uses

-- A step of site j that writes to the sites of T: its state and the leader it follows afterwards, the kind of message that it writes, and what it uses up.
-- The first phase with a coordinator.
pub data CentralStep (a : View) (j : ℕ) (T : ℕ → Type 0) : State → ℕ → Kind → Uses → Type 0 where
  begin_yes : j ≡ 1 → a.st j ≡ Q → a.ld j ≡ j → Everyone a j T → CentralStep a j T W (a.ld j) Start nothing
  begin_no : j ≡ 1 → a.st j ≡ Q → a.ld j ≡ j → Everyone a j T → CentralStep a j T A (a.ld j) Abort nothing
  start_yes : a.ld j ≤ 1 → j ≢ 1 → a.st j ≡ Q → a.live Start 1 j → Only 1 T → CentralStep a j T W (a.ld j) Yes (message Start 1)
  start_no : a.ld j ≤ 1 → j ≢ 1 → a.st j ≡ Q → a.live Start 1 j → Only 1 T → CentralStep a j T A (a.ld j) No (message Start 1)
  give_up : j ≡ 1 → a.st j ≡ W → a.ld j ≡ j → Everyone a j T → CentralStep a j T A (a.ld j) Abort nothing
  prepare : j ≡ 1 → a.st j ≡ W → a.ld j ≡ j → ((i : ℕ) → i ≢ j → a.live Yes i j ⊎ a.voted i) → Everyone a j T → CentralStep a j T P (a.ld j) MoveP nothing

-- The first phase among peers: begin with a vote; a No heard; all Yes heard; all Prepares heard.
pub data PeersStep (a : View) (j : ℕ) (T : ℕ → Type 0) : State → ℕ → Kind → Uses → Type 0 where
  peer_yes : a.st j ≡ Q → a.ld j ≡ 0 → Others a j T → PeersStep a j T W (a.ld j) Yes nothing
  peer_no : a.st j ≡ Q → a.ld j ≡ 0 → Others a j T → PeersStep a j T A (a.ld j) No nothing
  peer_ends : a.st j ≡ W → a.ld j ≡ 0 → (i : ℕ) → a.live No i j → ((i : ℕ) → T i → ⊥) → PeersStep a j T A (a.ld j) Ack nothing
  peer_prepares : a.st j ≡ W → a.ld j ≡ 0 → ((i : ℕ) → i ≢ j → a.live Yes i j ⊎ a.voted i) → Others a j T → PeersStep a j T P (a.ld j) Prepare nothing
  peer_commits : a.st j ≡ P → a.ld j ≡ 0 → ((i : ℕ) → i ≢ j → a.live Prepare i j ⊎ a.absent i) → ((i : ℕ) → T i → ⊥) → PeersStep a j T C (a.ld j) Ack nothing

-- What both protocols share.
pub data SharedStep (a : View) (j : ℕ) (T : ℕ → Type 0) : State → ℕ → Kind → Uses → Type 0 where
  -- an order of a leader k that is not below the one followed
  move_p : {k : ℕ} → 1 ≤ k → a.ld j ≤ k → a.live MoveP k j → a.st j ≡ W → Only k T → SharedStep a j T P k Ack (message MoveP k)
  stay_p : {s : State} {k : ℕ} → 1 ≤ k → a.ld j ≤ k → a.live MoveP k j → a.st j ≡ s → PC s → Only k T → SharedStep a j T s k Ack (message MoveP k)
  move_w : {k : ℕ} → 1 ≤ k → a.ld j ≤ k → a.live MoveW k j → QWP (a.st j) → Only k T → SharedStep a j T W k Ack (message MoveW k)
  stay_w : {k : ℕ} → 1 ≤ k → a.ld j ≤ k → a.live MoveW k j → a.st j ≡ A → Only k T → SharedStep a j T A k Ack (message MoveW k)
  commit : {k : ℕ} → 1 ≤ k → a.ld j ≤ k → a.live Commit k j → ((i : ℕ) → T i → ⊥) → SharedStep a j T C k Ack (message Commit k)
  abort : {k : ℕ} → 1 ≤ k → a.ld j ≤ k → a.live Abort k j → ((i : ℕ) → T i → ⊥) → SharedStep a j T A k Ack (message Abort k)
  -- leading
  over_q : Backup a j → a.st j ≡ Q → Everyone a j T → SharedStep a j T A j Abort nothing
  over : {κ : Kind} → Order κ → Backup a j → a.st j ≡ at_order κ → Everyone a j T → SharedStep a j T (at_order κ) j κ nothing
  end_a : Lead a j → a.st j ≡ W → ((i : ℕ) → i ≢ j → a.runs i → a.live Ack i j) → Everyone a j T → SharedStep a j T A (a.ld j) Abort nothing
  end_c : Lead a j → a.st j ≡ P → ((i : ℕ) → i ≢ j → a.runs i → a.live Ack i j) → Everyone a j T → SharedStep a j T C (a.ld j) Commit nothing
  -- a notice, a Yes, No, Ack or Prepare recorded, a message passed over
  noted : ((i : ℕ) → T i → ⊥) → SharedStep a j T (a.st j) (a.ld j) Ack notes
  passed : {γ : Kind} {k : ℕ} → Idle a j γ k → ((i : ℕ) → T i → ⊥) → SharedStep a j T (a.st j) (a.ld j) Ack (message γ k)

pub data Does (a : View) (j : ℕ) (T : ℕ → Type 0) (s : State) (l : ℕ) (κ : Kind) (y : Uses) : Type 0 where
  central : a.by ≡ Central → CentralStep a j T s l κ y → Does a j T s l κ y
  peers : a.by ≡ Peers → PeersStep a j T s l κ y → Does a j T s l κ y
  shared : SharedStep a j T s l κ y → Does a j T s l κ y
