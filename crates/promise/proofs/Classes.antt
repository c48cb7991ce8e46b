-- States and kinds of message in classes: each class is a type that is empty outside it, so that what a class rules out computes away.
-- Assumes nothing.
use Prim.Native.Nat.{ℕ, ◌≤◌, ◌<◌}
use mathlib.Core.Path.{◌≡◌, refl, sym, ap, subst, ◌∙◌}
use mathlib.Core.Logic.{◌⊎◌, inl, inr}
use native.Mathlib.Omega.{arith}
use Rattle.site.specs.declared.State.{State}
use Rattle.site.specs.declared.State.TheVariants.{Q, W, P, A, C}

-- The two protocols: with a coordinator, and with none.
pub data Protocol : Type 0 where
  Central Peers : Protocol

-- One type for each protocol.
abbrev pub by_protocol : (c p : Type 0) → Protocol → Type 0
by_protocol c p Central = c
by_protocol c p Peers = p

pub not_both : {p : Protocol} → p ≡ Central → p ≡ Peers → ⊥
not_both e f = subst (by_protocol Unit ⊥) (sym e ∙ f) tt

-- The kinds of message of 01, and Prepare.
pub data Kind : Type 0 where
  Start Yes No MoveP MoveW Ack Commit Abort Prepare : Kind

-- One type for each state.
abbrev pub by_state : (q w p a c : Type 0) → State → Type 0
by_state q w p a c Q = q
by_state q w p a c W = w
by_state q w p a c P = p
by_state q w p a c A = a
by_state q w p a c C = c

abbrev pub IsQ : State → Type 0
IsQ s = by_state Unit ⊥ ⊥ ⊥ ⊥ s

abbrev pub IsW : State → Type 0
IsW s = by_state ⊥ Unit ⊥ ⊥ ⊥ s

abbrev pub IsA : State → Type 0
IsA s = by_state ⊥ ⊥ ⊥ Unit ⊥ s

abbrev pub IsC : State → Type 0
IsC s = by_state ⊥ ⊥ ⊥ ⊥ Unit s

abbrev pub QW : State → Type 0
QW s = by_state Unit Unit ⊥ ⊥ ⊥ s

abbrev pub WA : State → Type 0
WA s = by_state ⊥ Unit ⊥ Unit ⊥ s

abbrev pub PC : State → Type 0
PC s = by_state ⊥ ⊥ Unit ⊥ Unit s

abbrev pub QWA : State → Type 0
QWA s = by_state Unit Unit ⊥ Unit ⊥ s

abbrev pub WP : State → Type 0
WP s = by_state ⊥ Unit Unit ⊥ ⊥ s

abbrev pub QWP : State → Type 0
QWP s = by_state Unit Unit Unit ⊥ ⊥ s

abbrev pub WPAC : State → Type 0
WPAC s = by_state ⊥ Unit Unit Unit Unit s

-- One type for each kind.
abbrev pub by_kind : (s y n p w k c a r : Type 0) → Kind → Type 0
by_kind s y n p w k c a r Start = s
by_kind s y n p w k c a r Yes = y
by_kind s y n p w k c a r No = n
by_kind s y n p w k c a r MoveP = p
by_kind s y n p w k c a r MoveW = w
by_kind s y n p w k c a r Ack = k
by_kind s y n p w k c a r Commit = c
by_kind s y n p w k c a r Abort = a
by_kind s y n p w k c a r Prepare = r

abbrev pub IsYes : Kind → Type 0
IsYes κ = by_kind ⊥ Unit ⊥ ⊥ ⊥ ⊥ ⊥ ⊥ ⊥ κ

abbrev pub IsNo : Kind → Type 0
IsNo κ = by_kind ⊥ ⊥ Unit ⊥ ⊥ ⊥ ⊥ ⊥ ⊥ κ

abbrev pub IsPrepare : Kind → Type 0
IsPrepare κ = by_kind ⊥ ⊥ ⊥ ⊥ ⊥ ⊥ ⊥ ⊥ Unit κ

abbrev pub IsAck : Kind → Type 0
IsAck κ = by_kind ⊥ ⊥ ⊥ ⊥ ⊥ Unit ⊥ ⊥ ⊥ κ

-- Kinds whose writing goes with a vote for yes: Start at Begin yes, and Yes.
abbrev pub Gives : Kind → Type 0
Gives κ = by_kind Unit Unit ⊥ ⊥ ⊥ ⊥ ⊥ ⊥ ⊥ κ

abbrev pub IsCommit : Kind → Type 0
IsCommit κ = κ ≡ Commit

abbrev pub IsAbort : Kind → Type 0
IsAbort κ = κ ≡ Abort

-- Orders are what a leader writes: Move-p, Move-w, Commit and Abort. The state in which it writes each; q for the other kinds.
abbrev pub at_order : Kind → State
at_order Start = Q
at_order Yes = Q
at_order No = Q
at_order MoveP = P
at_order MoveW = W
at_order Ack = Q
at_order Commit = C
at_order Abort = A
at_order Prepare = Q

abbrev pub Order : Kind → Type 0
Order κ = WPAC (at_order κ)

-- Orders that only a prepared site writes, and those that none does.
abbrev pub Prepares : Kind → Type 0
Prepares κ = PC (at_order κ)

abbrev pub Yields : Kind → Type 0
Yields κ = WA (at_order κ)

-- The states in which a running site may be whose order of a kind is outstanding.
abbrev pub Stands : Kind → State → Type 0
Stands κ s = by_kind Unit Unit Unit (PC s) (WA s) Unit (IsC s) (IsA s) Unit κ

-- What leader k in the first state may rely on of a site that acknowledged, is in state s and follows l.
abbrev pub Relies : State → ℕ → State → ℕ → Type 0
Relies t k s l = by_state Unit ((k ≤ l) × WA s) ((k ≤ l) × PC s) Unit Unit t

-- Only a leader in w or p relies on others.
pub relies_if : (t : State) (k : ℕ) (s : State) (l : ℕ) → (t ≡ W → (k ≤ l) × WA s) → (t ≡ P → (k ≤ l) × PC s) → Relies t k s l
relies_if Q k s l f g = tt
relies_if W k s l f g = f refl
relies_if P k s l f g = g refl
relies_if A k s l f g = tt
relies_if C k s l f g = tt

-- Site k that follows l is one that the first phase of a protocol is left to: site 1, or a peer that follows nobody yet.
abbrev pub Early : Protocol → ℕ → ℕ → Type 0
Early Central k l = k ≡ 1
Early Peers k l = l ≡ 0

-- Site k in state s, following l, is in its first phase: it may still prepare without an order.
abbrev pub First : Protocol → ℕ → State → ℕ → Type 0
First p k s l = Early p k l × QW s

-- Site k in state s, following l, leads: it follows itself and is past its first phase.
abbrev pub Leads : Protocol → ℕ → State → ℕ → Type 0
Leads p k s l = (l ≡ k) × (First p k s l → ⊥)

-- Who follows no higher one than before was in it before.
pub early_before : (p : Protocol) (j m l : ℕ) → m ≤ l → Early p j l → Early p j m
early_before Central j m l h e = e
early_before Peers j m l h e = omega arith

-- Who follows a lower leader is past it, and so is who follows another.
pub late_above : (p : Protocol) (k j l : ℕ) → 1 ≤ k → k < j → k ≤ l → Early p j l → ⊥
late_above Central k j l o h q e = omega arith
late_above Peers k j l o h q e = omega arith

-- What a leader's state may become: it stays, gives up, or commits.
pub data Onward : State → State → Type 0 where
  stays : {s : State} → Onward s s
  drops : Onward Q A
  gives_up : Onward W A
  commits : Onward P C

onward_in : {s t : State} → Onward s t → (PC s → PC t) × (WA s → WA t) × (IsC s → IsC t) × (IsA s → IsA t)
onward_in stays = (λ x. x, λ x. x, λ x. x, λ x. x)
onward_in drops = (λ x. x, λ _. tt, λ x. x, λ _. tt)
onward_in gives_up = (λ x. x, λ _. tt, λ x. x, λ _. tt)
onward_in commits = (λ _. tt, λ x. x, λ _. tt, λ x. x)

pub onward_stands : {s t : State} → Onward s t → (κ : Kind) → Stands κ s → Stands κ t
onward_stands h MoveP x = (onward_in h).0 x
onward_stands h MoveW x = (onward_in h).1 x
onward_stands h Commit x = (onward_in h).2 x
onward_stands h Abort x = (onward_in h).3 x
onward_stands h Start x = x
onward_stands h Yes x = x
onward_stands h No x = x
onward_stands h Ack x = x
onward_stands h Prepare x = x

pub onward_relies : {s t : State} → Onward s t → (u : State) (k l : ℕ) → Relies s k u l → Relies t k u l
onward_relies stays u k l x = x
onward_relies drops u k l x = tt
onward_relies gives_up u k l x = tt
onward_relies commits u k l x = tt

-- The states that are never left.
abbrev pub Final : State → Type 0
Final s = by_state ⊥ ⊥ ⊥ Unit Unit s

-- A class of one state.
pub is_q_lem : (s : State) → IsQ s → s ≡ Q
is_q_lem Q x = refl
is_q_lem W x = absurd x
is_q_lem P x = absurd x
is_q_lem A x = absurd x
is_q_lem C x = absurd x

pub is_w_lem : (s : State) → IsW s → s ≡ W
is_w_lem Q x = absurd x
is_w_lem W x = refl
is_w_lem P x = absurd x
is_w_lem A x = absurd x
is_w_lem C x = absurd x

pub is_a : (s : State) → IsA s → s ≡ A
is_a Q x = absurd x
is_a W x = absurd x
is_a P x = absurd x
is_a A x = refl
is_a C x = absurd x

pub is_c_lem : (s : State) → IsC s → s ≡ C
is_c_lem Q x = absurd x
is_c_lem W x = absurd x
is_c_lem P x = absurd x
is_c_lem A x = absurd x
is_c_lem C x = refl

-- A class of one state is in every class that has it.
pub q_in_qw : (s : State) → IsQ s → QW s
q_in_qw s x = rw (is_q_lem s x) tt

pub w_in_qw : (s : State) → IsW s → QW s
w_in_qw s x = rw (is_w_lem s x) tt

pub a_in_qwa : (s : State) → IsA s → QWA s
a_in_qwa s x = rw (is_a s x) tt

pub c_in_pc : (s : State) → IsC s → PC s
c_in_pc s x = rw (is_c_lem s x) tt

pub a_final : (s : State) → IsA s → Final s
a_final s x = rw (is_a s x) tt

pub c_final : (s : State) → IsC s → Final s
c_final s x = rw (is_c_lem s x) tt

pub final_is : (s : State) → Final s → (s ≡ A) ⊎ (s ≡ C)
final_is Q x = absurd x
final_is W x = absurd x
final_is P x = absurd x
final_is A x = inl refl
final_is C x = inr refl

-- A state is in one of PC and QWA, and never in both; nor in PC and in a part of QWA.
pub rest_in_qwa : (s : State) → (PC s → ⊥) → QWA s
rest_in_qwa Q x = tt
rest_in_qwa W x = tt
rest_in_qwa P x = x tt
rest_in_qwa A x = tt
rest_in_qwa C x = x tt

pub rest_in_pc : (s : State) → (QWA s → ⊥) → PC s
rest_in_pc Q x = x tt
rest_in_pc W x = x tt
rest_in_pc P x = tt
rest_in_pc A x = x tt
rest_in_pc C x = tt

pub qwa_is : (s : State) → QWA s → QW s ⊎ IsA s
qwa_is Q x = inl tt
qwa_is W x = inl tt
qwa_is P x = absurd x
qwa_is A x = inr tt
qwa_is C x = absurd x

pub pc_not_qwa : (s : State) → PC s → QWA s → ⊥
pc_not_qwa Q x y = x
pc_not_qwa W x y = x
pc_not_qwa P x y = y
pc_not_qwa A x y = x
pc_not_qwa C x y = y

qw_in_qwa : (s : State) → QW s → QWA s
qw_in_qwa Q x = x
qw_in_qwa W x = x
qw_in_qwa P x = x
qw_in_qwa A x = tt
qw_in_qwa C x = x

pub wa_in_qwa : (s : State) → WA s → QWA s
wa_in_qwa Q x = tt
wa_in_qwa W x = x
wa_in_qwa P x = x
wa_in_qwa A x = x
wa_in_qwa C x = x

pub pc_not_qw : (s : State) → PC s → QW s → ⊥
pc_not_qw s x y = pc_not_qwa s x (qw_in_qwa s y)

pub pc_not_wa : (s : State) → PC s → WA s → ⊥
pc_not_wa s x y = pc_not_qwa s x (wa_in_qwa s y)

pub pc_not_q : (s : State) → PC s → IsQ s → ⊥
pc_not_q s x y = rw (is_q_lem s y) at x

pub pc_not_a : (s : State) → PC s → IsA s → ⊥
pc_not_a s x y = rw (is_a s y) at x

pub qw_not_a : (s : State) → QW s → IsA s → ⊥
qw_not_a s x y = rw (is_a s y) at x

pub qwa_not_c : (s : State) → QWA s → IsC s → ⊥
qwa_not_c s x y = rw (is_c_lem s y) at x

-- A state is q or one of the others, and never both.
pub rest_in_wpac : (s : State) → (IsQ s → ⊥) → WPAC s
rest_in_wpac Q x = x tt
rest_in_wpac W x = tt
rest_in_wpac P x = tt
rest_in_wpac A x = tt
rest_in_wpac C x = tt

pub wpac_not_q : (s : State) → WPAC s → IsQ s → ⊥
wpac_not_q s x y = rw (is_q_lem s y) at x

-- ---- orders

-- Both classes of orders are orders.
pub prepares_order : (κ : Kind) → Prepares κ → Order κ
prepares_order κ x = rest_in_wpac (at_order κ) (pc_not_q (at_order κ) x)

pub yields_order : (κ : Kind) → Yields κ → Order κ
yields_order κ x = rest_in_wpac (at_order κ) (λ q. rw (is_q_lem (at_order κ) q) at x)

-- The order that a leader writes in a state; q has none. No two orders are written in one state.
order_in : State → Kind
order_in Q = Start
order_in W = MoveW
order_in P = MoveP
order_in A = Abort
order_in C = Commit

order_in_lem : (κ : Kind) → Order κ → order_in (at_order κ) ≡ κ
unfolding order_in
order_in_lem MoveP o = refl
order_in_lem MoveW o = refl
order_in_lem Commit o = refl
order_in_lem Abort o = refl
order_in_lem Start o = absurd o
order_in_lem Yes o = absurd o
order_in_lem No o = absurd o
order_in_lem Ack o = absurd o
order_in_lem Prepare o = absurd o

pub same_order : (κ κ' : Kind) → Order κ → Order κ' → at_order κ ≡ at_order κ' → κ ≡ κ'
same_order κ κ' o o' e = sym (order_in_lem κ o) ∙ ap order_in e ∙ order_in_lem κ' o'

-- No order is of a class of the other kinds.
pub order_apart : (s y n k r : Type 0) (κ : Kind) → Order κ → by_kind s y n ⊥ ⊥ k ⊥ ⊥ r κ → ⊥
order_apart s y n k r MoveP o x = x
order_apart s y n k r MoveW o x = x
order_apart s y n k r Commit o x = x
order_apart s y n k r Abort o x = x
order_apart s y n k r Start o x = o
order_apart s y n k r Yes o x = o
order_apart s y n k r No o x = o
order_apart s y n k r Ack o x = o
order_apart s y n k r Prepare o x = o

pub order_gives : (κ : Kind) → Order κ → Gives κ → ⊥
order_gives κ = order_apart Unit Unit ⊥ ⊥ ⊥ κ

pub order_acks : (κ : Kind) → Order κ → IsAck κ → ⊥
order_acks κ = order_apart ⊥ ⊥ ⊥ Unit ⊥ κ

pub order_nos : (κ : Kind) → Order κ → IsNo κ → ⊥
order_nos κ = order_apart ⊥ ⊥ Unit ⊥ ⊥ κ

pub order_prepare : (κ : Kind) → Order κ → IsPrepare κ → ⊥
order_prepare κ = order_apart ⊥ ⊥ ⊥ ⊥ Unit κ

-- A Yes goes with a vote.
pub yes_gives : (κ : Kind) → IsYes κ → Gives κ
yes_gives Start x = tt
yes_gives Yes x = x
yes_gives No x = x
yes_gives MoveP x = x
yes_gives MoveW x = x
yes_gives Ack x = x
yes_gives Commit x = x
yes_gives Abort x = x
yes_gives Prepare x = x

-- A No goes with none.
pub no_withholds : (κ : Kind) → IsNo κ → Gives κ → ⊥
no_withholds Start x y = x
no_withholds Yes x y = x
no_withholds No x y = y
no_withholds MoveP x y = x
no_withholds MoveW x y = x
no_withholds Ack x y = x
no_withholds Commit x y = x
no_withholds Abort x y = x
no_withholds Prepare x y = x
