-- What each running site may still do, and that every step of a site lowers it by more than it writes.
-- Assumes nothing.
use Prim.Native.Nat.{ℕ, ◌+◌, ◌-◌, ◌*◌, ◌≤◌, ◌<◌}
use mathlib.Core.Bool.{Bool, true, false, cond, not, ◌&&◌}
use mathlib.Core.Path.{◌≡◌, refl, sym, ap, subst, ◌∙◌}
use mathlib.Core.Logic.{◌≢◌}
use native.Mathlib.Omega.{arith}
use lib.Dec.{eqb}
use borrow.Author.Tests.{eq-eqb, ne_eqb}
use Rattle.site.specs.declared.State.{State}
use Rattle.site.specs.declared.State.TheVariants.{Q, W, P, A, C}
use Rattle.promise.proofs.Classes.{Protocol, Central, Peers, Kind, Start, Yes, No, MoveP, MoveW, Ack, Commit, Abort, Prepare, IsQ, QW, Order, at_order, Early, First, Leads, pc_not_q}
use Rattle.promise.proofs.View.{View, Lead, Inv}
use Rattle.promise.proofs.Does.{Uses, Does, central, peers, shared, begin_yes, begin_no, start_yes, start_no, give_up, prepare, peer_yes, peer_no, peer_ends, peer_prepares, peer_commits, move_p, stay_p, move_w, stay_w, commit, abort, over_q, over, end_a, end_c, noted, passed}
use Rattle.promise.proofs.Seen.{number}
use Rattle.promise.proofs.Brings.{weigh, weigh_least, fee_of}

-- whether site i that follows l is one that the first phase is left to
abbrev early : Protocol → ℕ → ℕ → Bool
early Central i l = eqb i 1
early Peers i l = eqb l 0

-- whether site i in state s that follows l leads
abbrev leading : Protocol → ℕ → State → ℕ → Bool
leading p i Q l = eqb l i && not (early p i l)
leading p i W l = eqb l i && not (early p i l)
leading p i P l = eqb l i
leading p i A l = eqb l i
leading p i C l = eqb l i

-- a leader that has not decided will conclude once, and write to each higher site
abbrev pub as_leader : ℕ → ℕ → State → ℕ
as_leader n i Q = 1 + (n - i)
as_leader n i W = 1 + (n - i)
as_leader n i P = 1 + (n - i)
as_leader n i A = 0
as_leader n i C = 0

-- A site that the first phase is left to: site 1 in q will begin once, and write a Start, which counts 2, to each other site; a peer will begin
-- and prepare, and write to each other site each time, and commit.
abbrev pub as_first : Protocol → ℕ → State → ℕ
as_first Central n Q = 1 + 2 * (n - 1)
as_first Central n W = 0
as_first Central n P = 0
as_first Central n A = 0
as_first Central n C = 0
as_first Peers n Q = 3 + 2 * (n - 1)
as_first Peers n W = 2 + (n - 1)
as_first Peers n P = 1
as_first Peers n A = 0
as_first Peers n C = 0

unfoldable pub firstly : Protocol → ℕ → ℕ → State → ℕ → ℕ
firstly p n i s l = cond (early p i l) (as_first p n s) 0

-- What site i of n in state s that follows l may still do: as a leader, or before it leads; and in the first phase.
unfoldable pub own : Protocol → ℕ → ℕ → State → ℕ → ℕ
own p n i s l = cond (leading p i s l) (as_leader n i s) (2 + 3 * (n - i)) + firstly p n i s l

module _ (p : Protocol) (n i : ℕ) where
  is_early : (l : ℕ) → Early p i l → early p i l ≡ true
  is_early = go p
    where
      go : (p : Protocol) (l : ℕ) → Early p i l → early p i l ≡ true
      go Central l e = eq-eqb i 1 e
      go Peers l e = eq-eqb l 0 e

  is_late : (l : ℕ) → (Early p i l → ⊥) → early p i l ≡ false
  is_late = go p
    where
      go : (p : Protocol) (l : ℕ) → (Early p i l → ⊥) → early p i l ≡ false
      go Central l e = ne_eqb i 1 e
      go Peers l e = ne_eqb l 0 e

  firstly_early : (s : State) (l : ℕ) → Early p i l → firstly p n i s l ≡ as_first p n s
  unfolding firstly
  firstly_early s l e = rw (is_early l e) refl

  firstly_late : (s : State) (l : ℕ) → (Early p i l → ⊥) → firstly p n i s l ≡ 0
  unfolding firstly
  firstly_late s l e = rw (is_late l e) refl

  -- a site that does not lead
  follows : (s : State) (l : ℕ) → leading p i s l ≡ false → own p n i s l ≡ 2 + 3 * (n - i) + firstly p n i s l
  unfolding own
  follows s l e = ap (λ (b : Bool). cond b (as_leader n i s) (2 + 3 * (n - i)) + firstly p n i s l) e

  own_follows : (s : State) (l : ℕ) → l ≢ i → own p n i s l ≡ 2 + 3 * (n - i) + firstly p n i s l
  own_follows s l ne = follows s l (go s)
    where
      go : (s : State) → leading p i s l ≡ false
      go Q = simp (ne_eqb l i ne)
      go W = simp (ne_eqb l i ne)
      go P = ne_eqb l i ne
      go A = ne_eqb l i ne
      go C = ne_eqb l i ne

  own_first : (s : State) (l : ℕ) → First p i s l → own p n i s l ≡ 2 + 3 * (n - i) + as_first p n s
  own_first s l f = follows s l (go s f.1) ∙ ap (λ (m : ℕ). 2 + 3 * (n - i) + m) (firstly_early s l f.0)
    where
      but : (b : Bool) → (b && not (early p i l)) ≡ false
      but true = simp (is_early l f.0)
      but false = refl

      go : (s : State) → QW s → leading p i s l ≡ false
      go Q x = but (eqb l i)
      go W x = but (eqb l i)
      go P x = absurd x
      go A x = absurd x
      go C x = absurd x

  -- a leader
  own_leads : (s : State) (l : ℕ) → Leads p i s l → own p n i s l ≡ as_leader n i s + firstly p n i s l
  unfolding own
  own_leads s l h = ap (λ (b : Bool). cond b (as_leader n i s) (2 + 3 * (n - i)) + firstly p n i s l) (go s h)
    where
      go : (s : State) → Leads p i s l → leading p i s l ≡ true
      go Q h = simp (eq-eqb l i h.0, is_late l (λ e. h.1 (e, tt)))
      go W h = simp (eq-eqb l i h.0, is_late l (λ e. h.1 (e, tt)))
      go P h = eq-eqb l i h.0
      go A h = eq-eqb l i h.0
      go C h = eq-eqb l i h.0

-- site 1 that has left q has begun; a peer that leads is past the first phase
done : (p : Protocol) (n i : ℕ) (s : State) (l : ℕ) → (IsQ s → ⊥) → (p ≡ Peers → 1 ≤ l) → firstly p n i s l ≡ 0
unfolding firstly
done Central n i s l q h = go s q (eqb i 1)
  where
    go : (s : State) → (IsQ s → ⊥) → (b : Bool) → cond b (as_first Central n s) 0 ≡ 0
    go Q q b = absurd (q tt)
    go W q true = refl
    go W q false = refl
    go P q true = refl
    go P q false = refl
    go A q true = refl
    go A q false = refl
    go C q true = refl
    go C q false = refl
done Peers n i s l q h = firstly_late Peers n i s l (λ e. let d : 1 ≤ l = h refl in omega arith)

-- A step of site j that writes c messages: what j may still do falls by more than they count for, less what the step uses up.
module _ (a : View) (j : ℕ) (T : ℕ → Type 0) (v : Inv a) (j1 : 1 ≤ j) (n : ℕ) (c : ℕ)
    (all : ((i : ℕ) → T i → j < i) → c ≤ n - j) (rest : ((i : ℕ) → T i → i ≢ j) → c ≤ n - 1) (one : (k : ℕ) → ((i : ℕ) → T i → i ≡ k) → c ≤ 1) (none : ((i : ℕ) → T i → ⊥) → c ≡ 0) where
  abbrev before : ℕ
  before = own a.by n j (a.st j) (a.ld j)

  -- a site that follows another, before and after; after, a leader
  follower : (s : State) (l : ℕ) → (IsQ s → ⊥) → (a.by ≡ Peers → 1 ≤ l) → a.ld j ≤ l → l < j → own a.by n j s l ≤ before
  follower s l q f h k = omega (arith, own_follows a.by n j s l (λ e. omega arith), own_follows a.by n j (a.st j) (a.ld j) (λ e. omega arith), done a.by n j s l q f)

  leads_now : (s : State) (l : ℕ) → Leads a.by j s l → (IsQ s → ⊥) → own a.by n j s l ≡ as_leader n j s
  leads_now s l h q = omega (arith, own_leads a.by n j s l h, done a.by n j s l q (λ _. subst (λ (k : ℕ). 1 ≤ k) (sym h.0) j1))

  over_falls : (κ : Kind) → Order κ → (Early a.by j j → ⊥) → c ≤ n - j → own a.by n j (at_order κ) j + weigh (number κ) * c + 1 ≤ 2 + 3 * (n - j)
  over_falls MoveP o h b = omega (arith, leads_now P j (refl, λ f. f.1) (λ x. x))
  over_falls MoveW o h b = omega (arith, leads_now W j (refl, λ f. h f.0) (λ x. x))
  over_falls Commit o h b = omega (arith, leads_now C j (refl, λ f. f.1) (λ x. x))
  over_falls Abort o h b = omega (arith, leads_now A j (refl, λ f. f.1) (λ x. x))
  over_falls Start o h b = absurd o
  over_falls Yes o h b = absurd o
  over_falls No o h b = absurd o
  over_falls Ack o h b = absurd o
  over_falls Prepare o h b = absurd o

  -- before a step of the first phase
  first_before : (p : Protocol) → a.by ≡ p → (s : State) → a.st j ≡ s → QW s → Early p j (a.ld j) → before ≡ 2 + 3 * (n - j) + as_first p n s
  first_before p b s e q f = rw (b, e) (own_first p n j s (a.ld j) (f, q))

  lead_before : (s : State) → a.st j ≡ s → Lead a j → (IsQ s → ⊥) → before ≡ as_leader n j s
  lead_before s e h q = rw e (leads_now s (a.ld j) (h.0, λ f. h.1 (rw e f)) q)

  below : a.ld j ≤ 1 → j ≢ 1 → a.ld j < j
  below h ne = omega arith

  -- with a coordinator none is a peer
  no_peer : {M : Type 0} → a.by ≡ Central → a.by ≡ Peers → M
  no_peer b e = absurd (subst two (sym b ∙ e) tt)
    where
      two : Protocol → Type 0
      two Central = Unit
      two Peers = ⊥

  -- a peer that follows nobody
  apart : a.ld j ≡ 0 → a.ld j ≢ j
  apart e f = omega arith

  peer_own : a.by ≡ Peers → a.ld j ≡ 0 → (s : State) → own a.by n j s (a.ld j) ≡ 2 + 3 * (n - j) + as_first Peers n s
  peer_own b l s = rw b (own_follows Peers n j s (a.ld j) (apart l) ∙ ap (λ (m : ℕ). 2 + 3 * (n - j) + m) (firstly_early Peers n j s (a.ld j) l))

  peer_before : a.by ≡ Peers → a.ld j ≡ 0 → (s : State) → a.st j ≡ s → before ≡ 2 + 3 * (n - j) + as_first Peers n s
  peer_before b l s e = rw e (peer_own b l s)

  pub falls : {s : State} {l : ℕ} {κ : Kind} {y : Uses} → Does a j T s l κ y → own a.by n j s l + weigh (number κ) * c + 1 ≤ before + fee_of y
  falls (central b (begin_yes e q l t)) = omega (arith, first_before Central b Q q tt e, first_after, all t.above)
    where
      first_after : own a.by n j W (a.ld j) ≡ 2 + 3 * (n - j) + 0
      first_after = rw b (own_first Central n j W (a.ld j) (e, tt))
  falls (central b (begin_no e q l t)) = omega (arith, leads_now A (a.ld j) (l, λ f. f.1) (λ x. x), first_before Central b Q q tt e, all t.above)
  falls (central b (start_yes h ne q m t)) = omega (arith, follower W (a.ld j) (λ x. x) (no_peer b) (omega arith) (below h ne), one 1 t.only)
  falls (central b (start_no h ne q m t)) = omega (arith, follower A (a.ld j) (λ x. x) (no_peer b) (omega arith) (below h ne), one 1 t.only)
  falls (central b (give_up e w l t)) = omega (arith, leads_now A (a.ld j) (l, λ f. f.1) (λ x. x), first_before Central b W w tt e, all t.above)
  falls (central b (prepare e w l h t)) = omega (arith, leads_now P (a.ld j) (l, λ f. f.1) (λ x. x), first_before Central b W w tt e, all t.above)
  falls (peers b (peer_yes q l t)) = omega (arith, peer_own b l W, peer_before b l Q q, rest t.apart)
  falls (peers b (peer_no q l t)) = omega (arith, peer_own b l A, peer_before b l Q q, rest t.apart)
  falls (peers b (peer_ends w l i m z)) = omega (arith, peer_own b l A, peer_before b l W w, none z)
  falls (peers b (peer_prepares w l h t)) = omega (arith, peer_own b l P, peer_before b l W w, rest t.apart)
  falls (peers b (peer_commits p l h z)) = omega (arith, peer_own b l C, peer_before b l P p, none z)
  falls (shared (move_p {k} h1 h m w t)) = omega (arith, follower P k (λ x. x) (λ _. h1) h (v.up MoveP k j tt m), one k t.only)
  falls (shared (stay_p {s} {k} h1 h m e p t)) = omega (arith, follower s k (pc_not_q s p) (λ _. h1) h (v.up MoveP k j tt m), one k t.only)
  falls (shared (move_w {k} h1 h m q t)) = omega (arith, follower W k (λ x. x) (λ _. h1) h (v.up MoveW k j tt m), one k t.only)
  falls (shared (stay_w {k} h1 h m e t)) = omega (arith, follower A k (λ x. x) (λ _. h1) h (v.up MoveW k j tt m), one k t.only)
  falls (shared (commit {k} h1 h m z)) = omega (arith, follower C k (λ x. x) (λ _. h1) h (v.up Commit k j tt m), none z)
  falls (shared (abort {k} h1 h m z)) = omega (arith, follower A k (λ x. x) (λ _. h1) h (v.up Abort k j tt m), none z)
  falls (shared (over_q d q t)) = omega (arith, over_falls Abort tt d.late (all t.above), own_follows a.by n j (a.st j) (a.ld j) (λ e. omega (arith, d.below)))
  falls {κ = κ} (shared (over o d e t)) = omega (arith, over_falls κ o d.late (all t.above), own_follows a.by n j (a.st j) (a.ld j) (λ e. omega (arith, d.below)))
  falls (shared (end_a l w h t)) = omega (arith, leads_now A (a.ld j) (l.0, λ f. f.1) (λ x. x), lead_before W w l (λ x. x), all t.above)
  falls (shared (end_c l p h t)) = omega (arith, leads_now C (a.ld j) (l.0, λ f. f.1) (λ x. x), lead_before P p l (λ x. x), all t.above)
  falls (shared (noted z)) = omega (arith, none z)
  falls (shared (passed {γ} i z)) = omega (arith, none z, weigh_least (number γ))
