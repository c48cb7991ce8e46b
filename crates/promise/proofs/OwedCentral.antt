-- What a coordinator and the others owe one another in the first phase, and that every step keeps it.
-- Assumes nothing.
use Prim.Native.Nat.{ℕ, ◌≤◌, ◌<◌}
use mathlib.Core.Path.{◌≡◌, refl, sym, subst, ◌∙◌}
use mathlib.Core.Logic.{◌≢◌, ◌⊎◌, inl, inr, ⊎_elim}
use native.Mathlib.Decide.{ℕ_discrete, dec_lt}
use native.Mathlib.Omega.{arith}
use Rattle.site.specs.declared.State.{State}
use Rattle.site.specs.declared.State.TheVariants.{W}
use Rattle.promise.proofs.Classes.{Protocol, Central, Peers, by_protocol, not_both, Kind, Start, Yes, No, MoveP, MoveW, Ack, Commit, Abort, IsQ, IsW, QW, IsAck, Order, Early, Leads, q_in_qw, w_in_qw, is_w_lem}
use Rattle.promise.proofs.View.{View, Inv}
use Rattle.promise.proofs.Does.{Everyone, Uses, message, Does, central, peers, shared, begin_yes, begin_no, start_yes, start_no, give_up, prepare, move_p, stay_p, move_w, stay_w, commit, abort, over_q, over, end_a, end_c, noted, passed}
use Rattle.promise.proofs.Safety.{alone}
use Rattle.promise.proofs.Owed.{Owed, After, Stopped, Led, stays, used, came}

-- What is due between k in state s, where it is the coordinator, and another site j in state t.
pub record Asks (live : Kind → ℕ → ℕ → Type 0) (k : ℕ) (s : State) (j : ℕ) (t : State) : Type 0 where
  -- site 1 in w has asked j, or has its answer; j is in q before it is asked; nobody is asked before site 1 begins
  pub asked : k ≡ 1 → IsW s → live Start k j ⊎ (live Yes j k ⊎ live No j k)
  pub unasked : k ≡ 1 → IsQ s → IsQ t
  pub asking : k ≡ 1 → IsW s → live Start k j → IsQ t
  pub begun : k ≡ 1 → live Start k j → IsQ s → ⊥

pub record CentralOwed (a : View) : Type 0 where
  pub asks : (k j : ℕ) → a.runs k → a.runs j → k ≢ j → Asks a.live k (a.st k) j (a.st j)

asks_stay : {p q : Kind → ℕ → ℕ → Type 0} (k : ℕ) (s : State) (j : ℕ) (t : State)
    → ((c : Kind) → p c k j → q c k j) → ((c : Kind) → p c j k → q c j k) → (q Start k j → p Start k j) → Asks p k s j t → Asks q k s j t
asks_stay k s j t to back only d =
    record {
      asked = λ e w. ⊎_elim (λ x. inl (to Start x)) (⊎_elim (λ x. inr (inl (back Yes x))) (λ x. inr (inr (back No x)))) (d.asked e w);
      unasked = d.unasked;
      asking = λ e w x. d.asking e w (only x);
      begun = λ e x. d.begun e (only x);
    }

-- ---- a stop

pub central_stopped : (a b : View) (j : ℕ) → Stopped a b j → CentralOwed a → CentralOwed b
central_stopped a b j h o =
    record {
      asks = λ k i r t ne.
          rw (h.st k, h.st i)
          (asks_stay k (a.st k) i (a.st i) (λ c. h.stay c k i (h.runs i t).1) (λ c. h.stay c i k (h.runs k r).1) (h.only k i (h.runs k r).1) (o.asks k i (h.runs k r).0 (h.runs i t).0 ne));
    }

-- ---- a step

module _ (a : View) (j : ℕ) (T : ℕ → Type 0) (v : Inv a) (r : a.runs j) (p : a.by ≡ Central) where
  -- where site 1 is in its first phase and j is another, j keeps its state, or answers a Start
  past_first : (κ : Kind) (k : ℕ) → Order κ → 1 ≤ k → a.live κ k j → a.runs 1 → QW (a.st 1) → ⊥
  past_first κ k o h m x f = go (dec_lt 1 k)
    where
      go : Dec (1 < k) → ⊥
      go (yes q) = v.lowest κ k j o m 1 q x
      go (no q) = (subst (λ (i : ℕ). Leads a.by i (a.st i) (a.ld i)) e (v.orders κ k j o m (rw e x)).0).1 (subst (λ (c : Protocol). Early c 1 (a.ld 1)) (sym p) refl, f)
        where
          e : k ≡ 1
          e = omega arith

  not_first : (Early a.by j j → ⊥) → 1 < j
  not_first h = let d : j ≢ 1 = λ e. h (subst (λ (c : Protocol). Early c j j) (sym p) e) in omega (arith, v.site j r)

  peerless : {M : Type 0} → a.by ≡ Peers → M
  peerless b = absurd (not_both p b)

  early : {s : State} {l : ℕ} {κ : Kind} {y : Uses} → Does a j T s l κ y → j ≢ 1 → a.runs 1 → QW (a.st 1) → (s ≡ a.st j) ⊎ ((y ≡ message Start 1) × a.live Start 1 j)
  early (central b (begin_yes e q l t)) ne x f = absurd (ne e)
  early (central b (begin_no e q l t)) ne x f = absurd (ne e)
  early (central b (start_yes h d q m t)) ne x f = inr (refl, m)
  early (central b (start_no h d q m t)) ne x f = inr (refl, m)
  early (central b (give_up e w l t)) ne x f = absurd (ne e)
  early (central b (prepare e w l h t)) ne x f = absurd (ne e)
  early (peers b c) ne x f = peerless b
  early (shared (move_p {k} h1 h m w t)) ne x f = absurd (past_first MoveP k tt h1 m x f)
  early (shared (stay_p {s} {k} h1 h m e q t)) ne x f = absurd (past_first MoveP k tt h1 m x f)
  early (shared (move_w {k} h1 h m q t)) ne x f = absurd (past_first MoveW k tt h1 m x f)
  early (shared (stay_w {k} h1 h m e t)) ne x f = absurd (past_first MoveW k tt h1 m x f)
  early (shared (commit {k} h1 h m z)) ne x f = absurd (past_first Commit k tt h1 m x f)
  early (shared (abort {k} h1 h m z)) ne x f = absurd (past_first Abort k tt h1 m x f)
  early (shared (over_q n q t)) ne x f = absurd (n.lowest 1 (not_first n.late) x)
  early (shared (over o n e t)) ne x f = absurd (n.lowest 1 (not_first n.late) x)
  early (shared (end_a l w h t)) ne x f = absurd (alone a j v r l h 1 (omega (arith, v.site j r)) x)
  early (shared (end_c l q h t)) ne x f = absurd (alone a j v r l h 1 (omega (arith, v.site j r)) x)
  early (shared (noted z)) ne x f = inl refl
  early (shared (passed i z)) ne x f = inl refl

  -- site 1 keeps its state and writes nothing, or is past its first phase, or has just begun and asked everyone
  abbrev Begun : State → Kind → Type 0
  Begun s κ = j ≡ 1 → QW s → (κ ≡ Start) × IsQ (a.st j) × (IsQ s → ⊥) × Everyone a j T

  -- who follows, or obeys, another is not site 1
  other : {M : Type 0} (k : ℕ) → 1 ≤ k → k < j → j ≡ 1 → M
  other k h q e = absurd (omega arith)

  begins : {s : State} {l : ℕ} {κ : Kind} {y : Uses} → Does a j T s l κ y → ((s ≡ a.st j) × (κ ≡ Ack)) ⊎ Begun s κ
  begins (central b (begin_yes e q l t)) = inr (λ _ _. (refl, rw q tt, λ x. x, t))
  begins (central b (begin_no e q l t)) = inr (λ _ x. absurd x)
  begins (central b (start_yes h ne q m t)) = inr (λ e. absurd (ne e))
  begins (central b (start_no h ne q m t)) = inr (λ _ x. absurd x)
  begins (central b (give_up e w l t)) = inr (λ _ x. absurd x)
  begins (central b (prepare e w l h t)) = inr (λ _ x. absurd x)
  begins (peers b c) = peerless b
  begins (shared (move_p {k} h1 h m w t)) = inr (λ _ x. absurd x)
  begins (shared (stay_p {s} {k} h1 h m d q t)) = inr (λ e _. other k h1 (v.up MoveP k j tt m) e)
  begins (shared (move_w {k} h1 h m q t)) = inr (λ e _. other k h1 (v.up MoveW k j tt m) e)
  begins (shared (stay_w {k} h1 h m e t)) = inr (λ _ x. absurd x)
  begins (shared (commit {k} h1 h m z)) = inr (λ _ x. absurd x)
  begins (shared (abort {k} h1 h m z)) = inr (λ _ x. absurd x)
  begins (shared (over_q n q t)) = inr (λ _ x. absurd x)
  begins (shared (over o n d t)) = inr (λ e _. other 1 (omega arith) (not_first n.late) e)
  begins (shared (end_a l w h t)) = inr (λ _ x. absurd x)
  begins (shared (end_c l q h t)) = inr (λ _ x. absurd x)
  begins (shared (noted z)) = inl (refl, refl)
  begins (shared (passed i z)) = inl (refl, refl)

  -- ---- the view after the step

  module _ (b : View) (s : State) (l : ℕ) (κ : Kind) (y : Uses) (h : After a b j T s l κ y) (c : Does a j T s l κ y) (o : Owed a) (u : CentralOwed a) where
    stay : (κ' : Kind) (k i : ℕ) → i ≢ j → a.live κ' k i → b.live κ' k i
    stay = stays a j T v r b s l κ y h c

    spent : (κ' : Kind) (k : ℕ) → a.live κ' k j → b.live κ' k j ⊎ Led a j T v r s κ (message κ' k)
    spent = used a j T v r b s l κ y h c

    old_start : (k i : ℕ) → k ≢ j → b.live Start k i → a.live Start k i
    old_start k i ne x = ⊎_elim (λ z. z) (λ z. absurd (ne (sym z.1))) (h.only Start k i x)

    -- towards j
    module _ (k : ℕ) (ne : k ≢ j) (x : b.runs k) where
      d : Asks a.live k (a.st k) j (a.st j)
      d = u.asks k j (h.runs k x) r ne

      high : k < a.ld j → ⊥
      high q = o.below j k q (h.runs k x)

      back : (κ' : Kind) → a.live κ' j k → b.live κ' j k
      back κ' = stay κ' j k ne

      first_j : k ≡ 1 → QW (a.st k) → (s ≡ a.st j) ⊎ ((y ≡ message Start 1) × a.live Start 1 j)
      first_j e q = early c (λ f. ne (e ∙ sym f)) (rw e at (h.runs k x)) (subst (λ (i : ℕ). QW (a.st i)) e q)

      toward : Asks b.live k (a.st k) j s
      toward =
          record {
            asked = λ e w. ⊎_elim (λ z. start e w z (spent Start k z)) (⊎_elim (λ z. inr (inl (back Yes z))) (λ z. inr (inr (back No z)))) (d.asked e w);
            unasked = λ e q. ⊎_elim (λ p. rw p (d.unasked e q)) (λ p. absurd (d.begun e (subst (λ (i : ℕ). a.live Start i j) (sym e) p.1) q)) (first_j e (q_in_qw (a.st k) q));
            asking = λ e w z.
                ⊎_elim (λ p. rw p (d.asking e w (old_start k j ne z))) (λ p. absurd (h.gone k ne (p.0 ∙ subst (λ (i : ℕ). message Start 1 ≡ message Start i) (sym e) refl) z))
                (first_j e (w_in_qw (a.st k) w));
            begun = λ e z. d.begun e (old_start k j ne z);
          }
        where
          start : k ≡ 1 → IsW (a.st k) → a.live Start k j → b.live Start k j ⊎ Led a j T v r s κ (message Start k) → b.live Start k j ⊎ (b.live Yes j k ⊎ b.live No j k)
          start e w z (inl q) = inl q
          start e w z (inr (inl (inl q))) = absurd (high q)
          start e w z (inr (inl (inr q))) = absurd (q (d.asking e w z))
          start e w z (inr (inr q)) = inr (⊎_elim (λ p. inl (came a j T v r b s l κ y h c Yes k p x q.1)) (λ p. inr (came a j T v r b s l κ y h c No k p x q.1)) q.0)

    -- from j
    module _ (i : ℕ) (ne : i ≢ j) (x : b.runs i) where
      e : Asks a.live j (a.st j) i (a.st i)
      e = u.asks j i r (h.runs i x) (λ q. ne (sym q))

      quiet : κ ≡ Ack → Asks b.live j (a.st j) i (a.st i)
      quiet k =
          record {
            asked = λ p w.
                ⊎_elim (λ z. inl (stay Start j i ne z))
                (⊎_elim (λ z. ⊎_elim (λ z. inr (inl z)) (λ q. absurd (idle w q)) (spent Yes i z)) (λ z. ⊎_elim (λ z. inr (inr z)) (λ q. absurd (idle w q)) (spent No i z))) (e.asked p w);
            unasked = e.unasked;
            asking = λ p w z. e.asking p w (mine z);
            begun = λ p z. e.begun p (mine z);
          }
        where
          mine : b.live Start j i → a.live Start j i
          mine z = ⊎_elim (λ q. q) (λ q. absurd (subst IsAck (sym k ∙ q.0) tt)) (h.only Start j i z)

          idle : IsW (a.st j) → Led a j T v r s κ (message Yes i) → ⊥
          idle w (inl n) = subst (by_protocol (a.st j ≢ W) _) p n (is_w_lem (a.st j) w)
          idle w (inr n) = n

      begun_now : Begun s κ → Asks b.live j s i (a.st i)
      begun_now n =
          record {
            asked = λ p w. let f = n p (w_in_qw s w) in inl (came a j T v r b s l κ y h c Start i f.0 x (f.3.every i (h.runs i x) ne));
            unasked = λ p q. absurd ((n p (q_in_qw s q)).2 q);
            asking = λ p w z. e.unasked p (n p (w_in_qw s w)).1;
            begun = λ p z q. (n p (q_in_qw s q)).2 q;
          }

      from : Asks b.live j s i (a.st i)
      from = ⊎_elim (λ q. rw q.0 (quiet q.1)) begun_now (begins c)

    pub central_step : CentralOwed b
    central_step = record { asks = λ k i x z ne. asks k i x z ne (ℕ_discrete k j) (ℕ_discrete i j) }
      where
        asks : (k i : ℕ) → b.runs k → b.runs i → k ≢ i → Dec (k ≡ j) → Dec (i ≡ j) → Asks b.live k (b.st k) i (b.st i)
        asks k i x z ne (yes p) (yes q) = absurd (ne (p ∙ sym q))
        asks k i x z ne (no p) (yes q) = subst (λ (i : ℕ). Asks b.live k (b.st k) i (b.st i)) (sym q) (rw (h.st_other k p, h.st) (toward k p x))
        asks k i x z ne (yes p) (no q) = subst (λ (k : ℕ). Asks b.live k (b.st k) i (b.st i)) (sym p) (rw (h.st, h.st_other i q) (from i q z))
        asks k i x z ne (no p) (no q) =
            rw (h.st_other k p, h.st_other i q)
            (asks_stay k (a.st k) i (a.st i) (λ c. stay c k i q) (λ c. stay c i k p) (old_start k i p) (u.asks k i (h.runs k x) (h.runs i z) ne))
