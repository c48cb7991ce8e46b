-- Every step of a site keeps what the first phases keep of their own, whole or cut short by a stop.
-- Assumes nothing.
use Prim.Native.Nat.{ℕ, ◌≤◌}
use mathlib.Core.Path.{◌≡◌, refl, sym, subst, ◌∙◌}
use mathlib.Core.Logic.{◌≢◌, ◌⊎◌, inl, inr, ⊎_elim}
use native.Mathlib.Decide.{ℕ_discrete}
use native.Mathlib.Omega.{arith}
use Rattle.site.specs.declared.State.{State}
use Rattle.site.specs.declared.State.TheVariants.{W}
use Rattle.promise.proofs.Classes.{Protocol, Central, Peers, not_both, Kind, MoveP, MoveW, Commit, Abort, Prepare, IsA, QW, PC, IsPrepare, Prepares, Yields, IsAbort, at_order, Early, First, early_before, late_above, order_prepare, prepares_order, pc_not_qw, pc_not_a, qwa_is, wa_in_qwa, a_final}
use Rattle.promise.proofs.View.{View, Evidence, seen, told, EP, Open, Inv}
use Rattle.promise.proofs.First.{Coordinated, Left, nowhere, written, standing, Dead, Yielded, aborted, moved, waits, Peered, Own}
use Rattle.promise.proofs.Become.{by_site}
use Rattle.promise.proofs.Does.{Uses, Does, central, peers, shared, begin_yes, begin_no, start_yes, start_no, give_up, prepare, peer_yes, peer_no, peer_ends, peer_prepares, peer_commits, move_p, stay_p, move_w, stay_w, commit, abort, over_q, over, end_a, end_c, noted, passed}
use Rattle.promise.proofs.Safety.{ordered, decided_stays, coordinates, peer}

-- The view b is a after a step of site j to state s and leader l that writes messages of kind κ, whole or cut short, as far as what is there goes.
pub record Stepped (a b : View) (j : ℕ) (s : State) (l : ℕ) (κ : Kind) : Type 0 where
  pub by : b.by ≡ a.by
  pub runs : (i : ℕ) → b.runs i → a.runs i
  pub st_other : (i : ℕ) → i ≢ j → b.st i ≡ a.st i
  pub ld_other : (i : ℕ) → i ≢ j → b.ld i ≡ a.ld i
  -- where j runs on, it has taken the step
  pub st_here : b.runs j → b.st j ≡ s
  pub ld_here : b.runs j → b.ld j ≡ l
  pub st_ever : (b.st j ≡ s) ⊎ (b.st j ≡ a.st j)
  pub live : (c : Kind) (k i : ℕ) → b.live c k i → a.live c k i ⊎ ((κ ≡ c) × (j ≡ k))
  pub absent : (i : ℕ) → b.absent i → a.absent i

-- ---- a step

module _ (a : View) (j : ℕ) (v : Inv a) (r : a.runs j) where
  -- the leader followed does not fall
  rises : {s : State} {l : ℕ} {κ : Kind} {y : Uses} {T : ℕ → Type 0} → Does a j T s l κ y → a.ld j ≤ l
  rises (central b (begin_yes e q l t)) = omega arith
  rises (central b (begin_no e q l t)) = omega arith
  rises (central b (start_yes h ne q m t)) = omega arith
  rises (central b (start_no h ne q m t)) = omega arith
  rises (central b (give_up e w l t)) = omega arith
  rises (central b (prepare e w l h t)) = omega arith
  rises (peers b (peer_yes q l t)) = omega arith
  rises (peers b (peer_no q l t)) = omega arith
  rises (peers b (peer_ends w l i m z)) = omega arith
  rises (peers b (peer_prepares w l h t)) = omega arith
  rises (peers b (peer_commits p l h z)) = omega arith
  rises (shared (move_p h1 h m w t)) = h
  rises (shared (stay_p h1 h m e p t)) = h
  rises (shared (move_w h1 h m q t)) = h
  rises (shared (stay_w h1 h m e t)) = h
  rises (shared (commit h1 h m z)) = h
  rises (shared (abort h1 h m z)) = h
  rises (shared (over_q n q t)) = omega arith
  rises (shared (over o n e t)) = omega arith
  rises (shared (end_a l w h t)) = omega arith
  rises (shared (end_c l p h t)) = omega arith
  rises (shared (noted z)) = omega arith
  rises (shared (passed i z)) = omega arith

  -- a site in its first phase after the step was so before
  before : {s : State} {l : ℕ} {κ : Kind} {y : Uses} {T : ℕ → Type 0} → Does a j T s l κ y → Early a.by j l → QW s → QW (a.st j)
  before (central b (begin_yes e q l t)) f x = rw q tt
  before (central b (begin_no e q l t)) f x = absurd x
  before (central b (start_yes h ne q m t)) f x = rw q tt
  before (central b (start_no h ne q m t)) f x = absurd x
  before (central b (give_up e w l t)) f x = absurd x
  before (central b (prepare e w l h t)) f x = absurd x
  before (peers b (peer_yes q l t)) f x = rw q tt
  before (peers b (peer_no q l t)) f x = absurd x
  before (peers b (peer_ends w l i m z)) f x = absurd x
  before (peers b (peer_prepares w l h t)) f x = absurd x
  before (peers b (peer_commits p l h z)) f x = absurd x
  before (shared (move_p h1 h m w t)) f x = absurd x
  before (shared (stay_p h1 h m e p t)) f x = rw e x
  before (shared (move_w {k} h1 h m q t)) f x = absurd (late_above a.by k j k h1 (v.up MoveW k j tt m) (omega arith) f)
  before (shared (stay_w h1 h m e t)) f x = absurd x
  before (shared (commit h1 h m z)) f x = absurd x
  before (shared (abort h1 h m z)) f x = absurd x
  before (shared (over_q n q t)) f x = absurd x
  before (shared (over o n e t)) f x = rw e x
  before (shared (end_a l w h t)) f x = absurd x
  before (shared (end_c l p h t)) f x = absurd x
  before (shared (noted z)) f x = x
  before (shared (passed i z)) f x = x

  -- who comes to p or c does so by what was prepared before, or by the first phase
  from : {s : State} {l : ℕ} {κ : Kind} {y : Uses} {T : ℕ → Type 0} → Does a j T s l κ y → PC s → EP a ⊎ Early a.by j (a.ld j)
  from (central b (begin_yes e q l t)) x = absurd x
  from (central b (begin_no e q l t)) x = absurd x
  from (central b (start_yes h ne q m t)) x = absurd x
  from (central b (start_no h ne q m t)) x = absurd x
  from (central b (give_up e w l t)) x = absurd x
  from (central b (prepare e w l h t)) x = inr (coordinates a j v r b e)
  from (peers b (peer_yes q l t)) x = absurd x
  from (peers b (peer_no q l t)) x = absurd x
  from (peers b (peer_ends w l i m z)) x = absurd x
  from (peers b (peer_prepares w l h t)) x = inr (peer a j v r b l)
  from (peers b (peer_commits p l h z)) x = inl (seen j (rw p tt))
  from (shared (move_p {k} h1 h m w t)) x = inl (told MoveP k j tt m)
  from (shared (stay_p {s} {k} h1 h m e p t)) x = inl (told MoveP k j tt m)
  from (shared (move_w h1 h m q t)) x = absurd x
  from (shared (stay_w h1 h m e t)) x = absurd x
  from (shared (commit {k} h1 h m z)) x = inl (told Commit k j tt m)
  from (shared (abort h1 h m z)) x = absurd x
  from (shared (over_q n q t)) x = absurd x
  from (shared (over o n e t)) x = inl (seen j (rw e x))
  from (shared (end_a l w h t)) x = absurd x
  from (shared (end_c l p h t)) x = inl (seen j (rw p tt))
  from (shared (noted z)) x = inl (seen j x)
  from (shared (passed i z)) x = inl (seen j x)

  -- among peers
  module _ (p : a.by ≡ Peers) (o : Peered a) where
    -- who writes a Prepare is in w, follows nobody, and goes to p
    prepares : {s : State} {l : ℕ} {κ : Kind} {y : Uses} {T : ℕ → Type 0} → Does a j T s l κ y → IsPrepare κ → (a.st j ≡ W) × (a.ld j ≡ 0) × PC s
    prepares (central b (begin_yes e q l t)) x = absurd x
    prepares (central b (begin_no e q l t)) x = absurd x
    prepares (central b (start_yes h ne q m t)) x = absurd x
    prepares (central b (start_no h ne q m t)) x = absurd x
    prepares (central b (give_up e w l t)) x = absurd x
    prepares (central b (prepare e w l h t)) x = absurd x
    prepares (peers b (peer_yes q l t)) x = absurd x
    prepares (peers b (peer_no q l t)) x = absurd x
    prepares (peers b (peer_ends w l i m z)) x = absurd x
    prepares (peers b (peer_prepares w l h t)) x = (w, l, tt)
    prepares (peers b (peer_commits q l h z)) x = absurd x
    prepares (shared (move_p h1 h m w t)) x = absurd x
    prepares (shared (stay_p h1 h m e q t)) x = absurd x
    prepares (shared (move_w h1 h m q t)) x = absurd x
    prepares (shared (stay_w h1 h m e t)) x = absurd x
    prepares (shared (commit h1 h m z)) x = absurd x
    prepares (shared (abort h1 h m z)) x = absurd x
    prepares (shared (over_q n q t)) x = absurd x
    prepares {κ = κ} (shared (over k n e t)) x = absurd (order_prepare κ k x)
    prepares (shared (end_a l w h t)) x = absurd x
    prepares (shared (end_c l q h t)) x = absurd x
    prepares (shared (noted z)) x = absurd x
    prepares (shared (passed i z)) x = absurd x

    -- who follows nobody after the step stays on its side of p, or writes a Prepare
    record Kept (s : State) (κ : Kind) : Type 0 where
      into : PC s → PC (a.st j) ⊎ IsPrepare κ
      out : PC (a.st j) → PC s

    -- a leader is followed
    led : {s : State} {κ : Kind} (l : ℕ) → 1 ≤ l → l ≡ 0 → Kept s κ
    led l h e = absurd (omega arith)

    away : {s : State} {κ : Kind} → a.by ≡ Central → Kept s κ
    away b = absurd (not_both b p)

    zero : {s : State} {l : ℕ} {κ : Kind} {y : Uses} {T : ℕ → Type 0} → Does a j T s l κ y → l ≡ 0 → Kept s κ
    zero (central b c) = λ _. away b
    zero (peers b (peer_yes q l t)) = λ _. record { into = λ x. absurd x; out = λ x. rw q at x }
    zero (peers b (peer_no q l t)) = λ _. record { into = λ x. absurd x; out = λ x. rw q at x }
    zero (peers b (peer_ends w l i m z)) = λ _. record { into = λ x. absurd x; out = λ x. rw w at x }
    zero (peers b (peer_prepares w l h t)) = λ _. record { into = λ _. inr tt; out = λ _. tt }
    zero (peers b (peer_commits q l h z)) = λ _. record { into = λ _. inl (rw q tt); out = λ _. tt }
    zero (shared (move_p {k} h1 h m w t)) = led k h1
    zero (shared (stay_p {s} {k} h1 h m e q t)) = led k h1
    zero (shared (move_w {k} h1 h m q t)) = led k h1
    zero (shared (stay_w {k} h1 h m e t)) = led k h1
    zero (shared (commit {k} h1 h m z)) = led k h1
    zero (shared (abort {k} h1 h m z)) = led k h1
    zero (shared (over_q n q t)) = led j (v.site j r)
    zero (shared (over k n e t)) = led j (v.site j r)
    zero (shared (end_a l w h t)) = led (a.ld j) (subst (λ (k : ℕ). 1 ≤ k) (sym l.0) (v.site j r))
    zero (shared (end_c l q h t)) = led (a.ld j) (subst (λ (k : ℕ). 1 ≤ k) (sym l.0) (v.site j r))
    zero (shared (noted z)) = λ _. record { into = λ x. inl x; out = λ x. x }
    zero (shared (passed i z)) = λ _. record { into = λ x. inl x; out = λ x. x }

    -- what shows that the first phase will not come to its end
    data Turns (s : State) (l : ℕ) (κ : Kind) : Type 0 where
      aborts : IsA s → Turns s l κ
      yields : Yields κ → Turns s l κ
      follows : 1 ≤ l → QW s → Turns s l κ

    -- site j leaves the first phase unprepared
    record Leaves (s : State) (l : ℕ) (κ : Kind) : Type 0 where
      early : QW (a.st j)
      alone : a.ld j ≡ 0
      past : l ≡ 0 → IsA s
      quiet : IsPrepare κ → ⊥

    by_turn : {s : State} {l : ℕ} {κ : Kind} {M : Type 0} → (IsA s → M) → (Yields κ → M) → (1 ≤ l → QW s → M) → Turns s l κ → M
    by_turn f g h (aborts x) = f x
    by_turn f g h (yields x) = g x
    by_turn f g h (follows x y) = h x y

    -- taking over in q or w
    taking : {s : State} {κ : Kind} → (IsPrepare κ → ⊥) → QW (a.st j) → Dead a ⊎ Leaves s j κ
    taking {s} {κ} n q = go (ℕ_discrete (a.ld j) 0)
      where
        go : Dec (a.ld j ≡ 0) → Dead a ⊎ Leaves s j κ
        go (yes e) = inr (record { early = q; alone = e; past = λ d. absurd (omega (arith, v.site j r)); quiet = n })
        go (no e) = inl (o.dead (waits j r (omega arith) q))

    turned : {s : State} {l : ℕ} {κ : Kind} {y : Uses} {T : ℕ → Type 0} → Does a j T s l κ y → Turns s l κ → Dead a ⊎ Leaves s l κ
    turned (central b c) x = absurd (not_both b p)
    turned (peers b (peer_yes q l t)) x = by_turn (λ z. absurd z) (λ z. absurd z) (λ z _. absurd (omega arith)) x
    turned (peers b (peer_no q l t)) x = inr (record { early = rw q tt; alone = l; past = λ _. tt; quiet = λ z. z })
    turned (peers b (peer_ends w l i m z)) x = inr (record { early = rw w tt; alone = l; past = λ _. tt; quiet = λ z. z })
    turned (peers b (peer_prepares w l h t)) x = by_turn (λ z. absurd z) (λ z. absurd z) (λ _ z. absurd z) x
    turned (peers b (peer_commits q l h z)) x = by_turn (λ z. absurd z) (λ z. absurd z) (λ _ z. absurd z) x
    turned (shared (move_p h1 h m w t)) x = by_turn (λ z. absurd z) (λ z. absurd z) (λ _ z. absurd z) x
    turned (shared (stay_p {s} h1 h m e q t)) x = by_turn (λ z. absurd (pc_not_a s q z)) (λ z. absurd z) (λ _ z. absurd (pc_not_qw s q z)) x
    turned (shared (move_w {k} h1 h m q t)) x = inl (o.dead (moved k j m))
    turned (shared (stay_w {k} h1 h m e t)) x = inl (o.dead (moved k j m))
    turned (shared (commit h1 h m z)) x = by_turn (λ z. absurd z) (λ z. absurd z) (λ _ z. absurd z) x
    turned (shared (abort {k} h1 h m z)) x = inl (o.dead (aborted (told Abort k j refl m)))
    turned (shared (over_q n q t)) x = taking (λ z. z) (rw q tt)
    turned {κ = κ} (shared (over k n e t)) x = by_turn a_there (λ z. ⊎_elim w_there a_there (qwa_is (at_order κ) (wa_in_qwa (at_order κ) z))) (λ _. w_there) x
      where
        a_there : IsA (at_order κ) → Dead a ⊎ Leaves (at_order κ) j κ
        a_there z = inl (o.dead (aborted (seen j (rw e z))))

        w_there : QW (at_order κ) → Dead a ⊎ Leaves (at_order κ) j κ
        w_there z = taking (order_prepare κ k) (rw e z)
    turned (shared (end_a l w h t)) x = inl (o.dead (waits j r (subst (λ (k : ℕ). 1 ≤ k) (sym l.0) (v.site j r)) (rw w tt)))
    turned (shared (end_c l q h t)) x = by_turn (λ z. absurd z) (λ z. absurd z) (λ _ z. absurd z) x
    turned (shared (noted z)) x = by_turn (λ z. inl (o.dead (aborted (seen j z)))) (λ z. absurd z) (λ h z. inl (o.dead (waits j r h z))) x
    turned (shared (passed i z)) x = by_turn (λ z. inl (o.dead (aborted (seen j z)))) (λ z. absurd z) (λ h z. inl (o.dead (waits j r h z))) x

-- ---- the view after the step

module _ (a b : View) (j : ℕ) (v : Inv a) (r : a.runs j) (s : State) (l : ℕ) (κ : Kind) (y : Uses) (T : ℕ → Type 0) (c : Does a j T s l κ y) (h : Stepped a b j s l κ) where
  -- evidence is old, or the step
  fresh : (S : State → Type 0) (K : Kind → Type 0) → Evidence S K b.st b.live → Evidence S K a.st a.live ⊎ (S s ⊎ K κ)
  fresh S K (seen i x) =
      by_site (λ i. S (b.st i) → Evidence S K a.st a.live ⊎ (S s ⊎ K κ)) j
      (λ z. ⊎_elim (λ e. inr (inl (subst S e z))) (λ e. inl (seen j (subst S e z))) h.st_ever) (λ i ne z. inl (seen i (subst S (h.st_other i ne) z))) i x
  fresh S K (told c k i z x) = ⊎_elim (λ m. inl (told c k i z m)) (λ m. inr (inr (subst K (sym m.0) z))) (h.live c k i x)

  was_early : Early a.by j l → Early a.by j (a.ld j)
  was_early = early_before a.by j (a.ld j) l (rises a j v r c)

  was_open : (i : ℕ) → Open b i → Open a i
  was_open i x = (h.runs i x.0, by_site (λ i. b.runs i → First b.by i (b.st i) (b.ld i) → First a.by i (a.st i) (a.ld i)) j here other i x.0 x.1)
    where
      here : b.runs j → First b.by j (b.st j) (b.ld j) → First a.by j (a.st j) (a.ld j)
      here z f = let g : First a.by j s l = rw (h.by, h.st_here z, h.ld_here z) at f in (was_early g.0, before a j v r c g.0 g.1)

      other : (i : ℕ) → i ≢ j → b.runs i → First b.by i (b.st i) (b.ld i) → First a.by i (a.st i) (a.ld i)
      other i ne z f = rw (h.by, h.st_other i ne, h.ld_other i ne) at f

  -- with a coordinator
  pub coordinated : a.by ≡ Central → Coordinated a → Coordinated b
  coordinated p o = record { shut = λ e i x. ⊎_elim (λ e. o.shut e i (was_open i x)) (λ e. ⊎_elim (λ q. now q i x) (λ q. now (prepared q) i x) e) (fresh PC Prepares e) }
    where
      prepared : Prepares κ → PC s
      prepared q = rw (ordered a j v r c (prepares_order κ q)).state q

      site_1 : (i l : ℕ) → Early a.by i l → i ≡ 1
      site_1 i l = subst (λ (c : Protocol). Early c i l → i ≡ 1) (sym p) (λ e. e)

      now : PC s → (i : ℕ) → Open b i → ⊥
      now q i x = ⊎_elim (λ e. o.shut e i (was_open i x)) (λ e. itself (site_1 i (a.ld i) (was_open i x).1.0 ∙ sym (site_1 j (a.ld j) e))) (from a j v r c q)
        where
          itself : i ≡ j → ⊥
          itself e = pc_not_qw s q (subst QW (h.st_here (subst b.runs e x.0)) (subst (λ (i : ℕ). QW (b.st i)) e x.1.1))

  -- among peers
  module _ (p : a.by ≡ Peers) (o : Peered a) where
    low : b.runs j → b.ld j ≡ 0 → (l ≡ 0) × (a.ld j ≡ 0)
    low x e = let z : l ≡ 0 = sym (h.ld_here x) ∙ e in let d : a.ld j ≤ l = rises a j v r c in (z, omega arith)

    -- a Prepare that has left had left before, or leaves with the step
    was_left : (k : ℕ) → Left b k → Left a k ⊎ ((k ≡ j) × IsPrepare κ)
    was_left k (nowhere x) = inl (nowhere (h.absent k x))
    was_left k (written i x) = ⊎_elim (λ m. inl (written i m)) (λ m. inr (sym m.1, rw m.0 tt)) (h.live Prepare k i x)
    was_left k (standing x e q) =
        by_site (λ k. b.runs k → b.ld k ≡ 0 → PC (b.st k) → Left a k ⊎ ((k ≡ j) × IsPrepare κ)) j
        (λ x e q. ⊎_elim (λ z. inl (standing r (low x e).1 z)) (λ z. inr (refl, z)) ((zero a j v r p o c (low x e).0).into (subst PC (h.st_here x) q)))
        (λ i ne x e q. inl (standing (h.runs i x) (sym (h.ld_other i ne) ∙ e) (subst PC (h.st_other i ne) q))) k x e q

    still : Dead a → Dead b
    still u =
        record {
          site = u.site;
          unprepared = λ x. ⊎_elim u.unprepared (λ e. hers e.0 e.1) (was_left u.site x);
          past = by_site (λ i. (a.runs i → a.ld i ≡ 0 → IsA (a.st i)) → b.runs i → b.ld i ≡ 0 → IsA (b.st i)) j here other u.site u.past;
        }
      where
        hers : u.site ≡ j → IsPrepare κ → ⊥
        hers e x =
            let q = prepares a j v r p o c x in
            subst IsA q.0 (subst (λ (i : ℕ). a.runs i → a.ld i ≡ 0 → IsA (a.st i)) e u.past r q.1)

        here : (a.runs j → a.ld j ≡ 0 → IsA (a.st j)) → b.runs j → b.ld j ≡ 0 → IsA (b.st j)
        here f x e =
            let d : l ≡ 0 = sym (h.ld_here x) ∙ e in
            let z : IsA (a.st j) = f r (omega (arith, rises a j v r c)) in
            subst IsA (sym (h.st_here x ∙ decided_stays a j T v r c (a_final (a.st j) z))) z

        other : (i : ℕ) → i ≢ j → (a.runs i → a.ld i ≡ 0 → IsA (a.st i)) → b.runs i → b.ld i ≡ 0 → IsA (b.st i)
        other i ne f x e = subst IsA (sym (h.st_other i ne)) (f (h.runs i x) (sym (h.ld_other i ne) ∙ e))

    leaves : Leaves a j v r p o s l κ → Dead b
    leaves u =
        record {
          site = j;
          unprepared = λ x. ⊎_elim unleft (λ z. u.quiet z.1) (was_left j x);
          past = λ x e. subst IsA (sym (h.st_here x)) (u.past (sym (h.ld_here x) ∙ e));
        }
      where
        unleft : Left a j → ⊥
        unleft (nowhere x) = o.there j r x
        unleft (written i m) = pc_not_qw (a.st j) (o.stood j i m r u.alone) u.early
        unleft (standing _ _ q) = pc_not_qw (a.st j) q u.early

    turn : Turns a j v r p o s l κ → Dead b
    turn x = ⊎_elim still leaves (turned a j v r p o c x)

    waiting : (i : ℕ) → b.runs i → 1 ≤ b.ld i → QW (b.st i) → Dead b
    waiting =
        by_site (λ i. b.runs i → 1 ≤ b.ld i → QW (b.st i) → Dead b) j
        (λ x m q. turn (follows (subst (λ (k : ℕ). 1 ≤ k) (h.ld_here x) m) (subst QW (h.st_here x) q)))
        (λ i ne x m q. still (o.dead (waits i (h.runs i x) (subst (λ (k : ℕ). 1 ≤ k) (h.ld_other i ne) m) (subst QW (h.st_other i ne) q))))

    dead : Yielded b → Dead b
    dead (aborted e) = ⊎_elim (λ e. still (o.dead (aborted e))) (⊎_elim (λ x. turn (aborts x)) (λ x. turn (yields (rw x tt)))) (fresh IsA IsAbort e)
    dead (moved k i x) = ⊎_elim (λ m. still (o.dead (moved k i m))) (λ m. turn (yields (rw m.0 tt))) (h.live MoveW k i x)
    dead (waits i x m q) = waiting i x m q

    stood : (k i : ℕ) → b.live Prepare k i → b.runs k → b.ld k ≡ 0 → PC (b.st k)
    stood k i m x e = by_site (λ k. b.live Prepare k i → b.runs k → b.ld k ≡ 0 → PC (b.st k)) j here other k m x e
      where
        here : b.live Prepare j i → b.runs j → b.ld j ≡ 0 → PC (b.st j)
        here m x e =
            subst PC (sym (h.st_here x))
            (⊎_elim (λ m. (zero a j v r p o c (low x e).0).out (o.stood j i m r (low x e).1)) (λ z. (prepares a j v r p o c (rw z.0 tt)).2) (h.live Prepare j i m))

        other : (k : ℕ) → k ≢ j → b.live Prepare k i → b.runs k → b.ld k ≡ 0 → PC (b.st k)
        other k ne m x e =
            subst PC (sym (h.st_other k ne)) (⊎_elim (λ m. o.stood k i m (h.runs k x) (sym (h.ld_other k ne) ∙ e)) (λ z. absurd (ne (sym z.1))) (h.live Prepare k i m))

    pub peered : Peered b
    peered = record { there = λ i x n. o.there i (h.runs i x) (h.absent i n); stood = stood; dead = dead }

  pub own : Own a → Own b
  own d =
      record {
        central = λ e. coordinated (sym h.by ∙ e) (d.central (sym h.by ∙ e));
        peers = λ e. peered (sym h.by ∙ e) (d.peers (sym h.by ∙ e));
      }
