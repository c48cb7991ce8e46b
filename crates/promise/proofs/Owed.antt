-- What a leader and the running sites owe one another, so that nothing waits for ever, and that every step keeps it: once for both protocols.
-- Assumes nothing.
use Prim.Native.Nat.{ℕ, ◌≤◌, ◌<◌}
use mathlib.Core.Path.{◌≡◌, refl, sym, subst, ◌∙◌}
use mathlib.Core.Logic.{◌≢◌, ◌⊎◌, inl, inr, ⊎_elim}
use native.Mathlib.Decide.{ℕ_discrete}
use native.Mathlib.Omega.{arith}
use Rattle.site.specs.declared.State.{State}
use Rattle.site.specs.declared.State.TheVariants.{Q, W, P, A, C}
use Rattle.promise.proofs.Classes.{Protocol, Kind, Start, Yes, No, MoveP, MoveW, Ack, Commit, Abort, Prepare, by_kind, IsQ, IsA, IsC, WP, Order, at_order, Leads, a_final, c_final, is_a, is_c_lem, wpac_not_q, same_order}
use Rattle.promise.proofs.View.{View, Lead, Lowest, Inv}
use Rattle.promise.proofs.Become.{by_site}
use Rattle.promise.proofs.Does.{Everyone, Idle, Uses, nothing, notes, message, Does, central, peers, shared, begin_yes, begin_no, start_yes, start_no, give_up, prepare, peer_yes, peer_no, peer_ends, peer_prepares, peer_commits, move_p, stay_p, move_w, stay_w, commit, abort, over_q, over, end_a, end_c, noted, passed}
use Rattle.promise.proofs.Safety.{coordinates, decided_stays}

-- What is due between k, in state s and following l, and another site j in state t.
pub record Due (p : Protocol) (live : Kind → ℕ → ℕ → Type 0) (k : ℕ) (s : State) (l : ℕ) (j : ℕ) (t : State) : Type 0 where
  -- a leader that waits has moved j, or has its acknowledgement
  pub moved : Leads p k s l → WP s → live MoveP k j ⊎ (live MoveW k j ⊎ live Ack j k)
  -- a leader that has decided has told j, or j has decided
  pub aborts : Leads p k s l → IsA s → live Abort k j ⊎ IsA t
  pub commits : Leads p k s l → IsC s → live Commit k j ⊎ IsC t

pub record Owed (a : View) : Type 0 where
  -- below the leader that a site follows no site runs
  pub below : (j : ℕ) → Lowest a (a.ld j)
  -- a running leader has left q
  pub left : (k : ℕ) → a.runs k → Lead a k → IsQ (a.st k) → ⊥
  pub due : (k j : ℕ) → a.runs k → a.runs j → k ≢ j → Due a.by a.live k (a.st k) (a.ld k) j (a.st j)

-- The view b is a after a step of site j, as far as running sites go: j has state s and follows l, its messages of kind κ to the sites of T have come,
-- what the step uses up is gone, and nothing else.
pub record After (a b : View) (j : ℕ) (T : ℕ → Type 0) (s : State) (l : ℕ) (κ : Kind) (y : Uses) : Type 0 where
  pub by : b.by ≡ a.by
  pub runs : (i : ℕ) → b.runs i → a.runs i
  pub stopped : (i : ℕ) → a.stopped i → b.stopped i
  pub st : b.st j ≡ s
  pub ld : b.ld j ≡ l
  pub st_other : (i : ℕ) → i ≢ j → b.st i ≡ a.st i
  pub ld_other : (i : ℕ) → i ≢ j → b.ld i ≡ a.ld i
  pub stay : (c : Kind) (k i : ℕ) → a.live c k i → b.live c k i ⊎ ((i ≡ j) × (y ≡ message c k))
  pub come : (i : ℕ) → b.runs i → T i → b.live κ j i
  pub only : (c : Kind) (k i : ℕ) → b.live c k i → a.live c k i ⊎ ((κ ≡ c) × (j ≡ k) × T i)
  pub gone : (k : ℕ) → k ≢ j → y ≡ message Start k → b.live Start k j → ⊥

-- The view b is a after a stop of site j, whole or inside a step, as far as the others go.
pub record Stopped (a b : View) (j : ℕ) : Type 0 where
  pub by : b.by ≡ a.by
  pub runs : (i : ℕ) → b.runs i → a.runs i × (i ≢ j)
  pub stopped : b.stopped j
  pub st : (i : ℕ) → b.st i ≡ a.st i
  pub ld : (i : ℕ) → b.ld i ≡ a.ld i
  pub stay : (c : Kind) (k i : ℕ) → i ≢ j → a.live c k i → b.live c k i
  pub only : (k i : ℕ) → k ≢ j → b.live Start k i → a.live Start k i

-- What is due between two sites stays due where their messages stay.
due_stays : {p q : Kind → ℕ → ℕ → Type 0} (c : Protocol) (k : ℕ) (s : State) (l j : ℕ) (t : State)
    → ((c : Kind) → p c k j → q c k j) → ((c : Kind) → p c j k → q c j k) → Due c p k s l j t → Due c q k s l j t
due_stays c k s l j t to back d =
    record {
      moved = λ h w. ⊎_elim (λ x. inl (to MoveP x)) (⊎_elim (λ x. inr (inl (to MoveW x))) (λ x. inr (inr (back Ack x)))) (d.moved h w);
      aborts = λ h w. ⊎_elim (λ x. inl (to Abort x)) (λ x. inr x) (d.aborts h w);
      commits = λ h w. ⊎_elim (λ x. inl (to Commit x)) (λ x. inr x) (d.commits h w);
    }

-- ---- a stop

pub owed_stopped : (a b : View) (j : ℕ) → Stopped a b j → Owed a → Owed b
owed_stopped a b j h o =
    record {
      below = λ i k l r. o.below i k (rw (h.ld i) at l) (h.runs k r).0;
      left = λ k r e. rw (h.st k) (o.left k (h.runs k r).0 (rw (h.by, h.st k, h.ld k) at e));
      due = λ k i r t ne.
          rw (h.by, h.st k, h.ld k, h.st i)
          (due_stays a.by k (a.st k) (a.ld k) i (a.st i) (λ c. h.stay c k i (h.runs i t).1) (λ c. h.stay c i k (h.runs k r).1) (o.due k i (h.runs k r).0 (h.runs i t).0 ne));
    }

-- ---- a step

module _ (a : View) (j : ℕ) (T : ℕ → Type 0) (v : Inv a) (r : a.runs j) where
  -- what a message that is used up led to: nothing, where j had no use for it, or its answer
  abbrev pub Led : State → Kind → Uses → Type 0
  Led s κ nothing = Unit
  Led s κ notes = Unit
  Led s κ (message γ k) = Idle a j γ k ⊎ by_kind (((κ ≡ Yes) ⊎ (κ ≡ No)) × T k) ⊥ ⊥ ((κ ≡ Ack) × T k) ((κ ≡ Ack) × T k) ⊥ (IsC s) (IsA s) ⊥ γ

  pub led : {s : State} {l : ℕ} {κ : Kind} {y : Uses} → Does a j T s l κ y → Led s κ y
  led (central b (begin_yes e q l t)) = tt
  led (central b (begin_no e q l t)) = tt
  led (central b (start_yes h ne q m t)) = inr (inl refl, t.there)
  led (central b (start_no h ne q m t)) = inr (inr refl, t.there)
  led (central b (give_up e w l t)) = tt
  led (central b (prepare e w l h t)) = tt
  led (peers b (peer_yes q l t)) = tt
  led (peers b (peer_no q l t)) = tt
  led (peers b (peer_ends w l i m z)) = tt
  led (peers b (peer_prepares w l h t)) = tt
  led (peers b (peer_commits p l h z)) = tt
  led (shared (move_p h1 h m w t)) = inr (refl, t.there)
  led (shared (stay_p h1 h m e p t)) = inr (refl, t.there)
  led (shared (move_w h1 h m q t)) = inr (refl, t.there)
  led (shared (stay_w h1 h m e t)) = inr (refl, t.there)
  led (shared (commit h1 h m z)) = inr tt
  led (shared (abort h1 h m z)) = inr tt
  led (shared (over_q n q t)) = tt
  led (shared (over o n e t)) = tt
  led (shared (end_a l w h t)) = tt
  led (shared (end_c l p h t)) = tt
  led (shared (noted z)) = tt
  led (shared (passed i z)) = inl i

  -- j keeps its state and leader and writes nothing, or leads only where it has announced to everyone what it now is
  record Announced (s : State) (l : ℕ) (κ : Kind) : Type 0 where
    leads : Leads a.by j s l → Order κ × (s ≡ at_order κ) × Everyone a j T
    left : Leads a.by j s l → IsQ s → ⊥

  -- a site that follows a lower one owes nothing as a leader
  follower : (s : State) (l : ℕ) (κ : Kind) → l < j → Announced s l κ
  follower s l κ h = record { leads = λ x. let e : l ≡ j = x.0 in absurd (omega arith); left = λ x. let e : l ≡ j = x.0 in absurd (omega arith) }

  -- a leader gives its order to everyone
  leader : (κ : Kind) (l : ℕ) → Order κ → (IsQ (at_order κ) → ⊥) → Everyone a j T → Announced (at_order κ) l κ
  leader κ l o q t = record { leads = λ _. (o, refl, t); left = λ _ x. q x }

  low_start : a.ld j ≤ 1 → j ≢ 1 → a.ld j < j
  low_start h ne = omega (arith, v.site j r)

  low_peer : a.ld j ≡ 0 → a.ld j < j
  low_peer e = omega (arith, v.site j r)

  announces : {s : State} {l : ℕ} {κ : Kind} {y : Uses} → Does a j T s l κ y → ((s ≡ a.st j) × (l ≡ a.ld j) × (κ ≡ Ack)) ⊎ Announced s l κ
  announces (central b (begin_yes e q l t)) = inr (record { leads = λ x. absurd (x.1 (coordinates a j v r b e, tt)); left = λ _ x. x })
  announces (central b (begin_no e q l t)) = inr (leader Abort (a.ld j) tt (λ x. x) t)
  announces (central b (start_yes h ne q m t)) = inr (follower W (a.ld j) Yes (low_start h ne))
  announces (central b (start_no h ne q m t)) = inr (follower A (a.ld j) No (low_start h ne))
  announces (central b (give_up e w l t)) = inr (leader Abort (a.ld j) tt (λ x. x) t)
  announces (central b (prepare e w l h t)) = inr (leader MoveP (a.ld j) tt (λ x. x) t)
  announces (peers b (peer_yes q l t)) = inr (follower W (a.ld j) Yes (low_peer l))
  announces (peers b (peer_no q l t)) = inr (follower A (a.ld j) No (low_peer l))
  announces (peers b (peer_ends w l i m z)) = inr (follower A (a.ld j) Ack (low_peer l))
  announces (peers b (peer_prepares w l h t)) = inr (follower P (a.ld j) Prepare (low_peer l))
  announces (peers b (peer_commits p l h z)) = inr (follower C (a.ld j) Ack (low_peer l))
  announces (shared (move_p {k} h1 h m w t)) = inr (follower P k Ack (v.up MoveP k j tt m))
  announces (shared (stay_p {s} {k} h1 h m e p t)) = inr (follower s k Ack (v.up MoveP k j tt m))
  announces (shared (move_w {k} h1 h m q t)) = inr (follower W k Ack (v.up MoveW k j tt m))
  announces (shared (stay_w {k} h1 h m e t)) = inr (follower A k Ack (v.up MoveW k j tt m))
  announces (shared (commit {k} h1 h m z)) = inr (follower C k Ack (v.up Commit k j tt m))
  announces (shared (abort {k} h1 h m z)) = inr (follower A k Ack (v.up Abort k j tt m))
  announces (shared (over_q n q t)) = inr (leader Abort j tt (λ x. x) t)
  announces {κ = κ} (shared (over o n e t)) = inr (leader κ j o (wpac_not_q (at_order κ) o) t)
  announces (shared (end_a l w h t)) = inr (leader Abort (a.ld j) tt (λ x. x) t)
  announces (shared (end_c l p h t)) = inr (leader Commit (a.ld j) tt (λ x. x) t)
  announces (shared (noted z)) = inl (refl, refl, refl)
  announces (shared (passed i z)) = inl (refl, refl, refl)

  -- no site runs below the leader that j now follows
  follows : Owed a → {s : State} {l : ℕ} {κ : Kind} {y : Uses} → Does a j T s l κ y → Lowest a l
  follows o (central b (begin_yes e q l t)) = o.below j
  follows o (central b (begin_no e q l t)) = o.below j
  follows o (central b (start_yes h ne q m t)) = o.below j
  follows o (central b (start_no h ne q m t)) = o.below j
  follows o (central b (give_up e w l t)) = o.below j
  follows o (central b (prepare e w l h t)) = o.below j
  follows o (peers b (peer_yes q l t)) = o.below j
  follows o (peers b (peer_no q l t)) = o.below j
  follows o (peers b (peer_ends w l i m z)) = o.below j
  follows o (peers b (peer_prepares w l h t)) = o.below j
  follows o (peers b (peer_commits p l h z)) = o.below j
  follows o (shared (move_p {k} h1 h m w t)) = v.lowest MoveP k j tt m
  follows o (shared (stay_p {s} {k} h1 h m e p t)) = v.lowest MoveP k j tt m
  follows o (shared (move_w {k} h1 h m q t)) = v.lowest MoveW k j tt m
  follows o (shared (stay_w {k} h1 h m e t)) = v.lowest MoveW k j tt m
  follows o (shared (commit {k} h1 h m z)) = v.lowest Commit k j tt m
  follows o (shared (abort {k} h1 h m z)) = v.lowest Abort k j tt m
  follows o (shared (over_q n q t)) = n.lowest
  follows o (shared (over p n e t)) = n.lowest
  follows o (shared (end_a l w h t)) = o.below j
  follows o (shared (end_c l p h t)) = o.below j
  follows o (shared (noted z)) = o.below j
  follows o (shared (passed i z)) = o.below j

  -- ---- the view after the step

  module _ (b : View) (s : State) (l : ℕ) (κ : Kind) (y : Uses) (h : After a b j T s l κ y) (c : Does a j T s l κ y) where
    -- a message to another site stays; one to j stays or is used up
    pub stays : (κ' : Kind) (k i : ℕ) → i ≢ j → a.live κ' k i → b.live κ' k i
    stays κ' k i ne x = ⊎_elim (λ z. z) (λ z. absurd (ne z.0)) (h.stay κ' k i x)

    pub used : (κ' : Kind) (k : ℕ) → a.live κ' k j → b.live κ' k j ⊎ Led s κ (message κ' k)
    used κ' k x = ⊎_elim (λ z. inl z) (λ z. inr (subst (Led s κ) z.1 (led c))) (h.stay κ' k j x)

    pub came : (κ' : Kind) (i : ℕ) → κ ≡ κ' → b.runs i → T i → b.live κ' j i
    came κ' i e x t = subst (λ (κ : Kind). b.live κ j i) e (h.come i x t)

    module _ (o : Owed a) where
      -- towards j
      module _ (k : ℕ) (ne : k ≢ j) (x : b.runs k) where
        d : Due a.by a.live k (a.st k) (a.ld k) j (a.st j)
        d = o.due k j (h.runs k x) r ne

        -- no running site is below the leader that j followed
        high : k < a.ld j → ⊥
        high q = o.below j k q (h.runs k x)

        back : (κ' : Kind) → a.live κ' j k → b.live κ' j k
        back κ' = stays κ' j k ne

        toward : Due a.by b.live k (a.st k) (a.ld k) j s
        toward =
            record {
              moved = λ f w.
                  ⊎_elim (λ z. ⊎_elim (λ z. inl z) (λ q. inr (inr (replied q))) (used MoveP k z))
                  (⊎_elim (λ z. ⊎_elim (λ z. inr (inl z)) (λ q. inr (inr (replied q))) (used MoveW k z)) (λ z. inr (inr (back Ack z)))) (d.moved f w);
              aborts = λ f w. ⊎_elim (λ z. ⊎_elim (λ z. inl z) (⊎_elim (λ q. absurd (high q)) (λ q. inr q)) (used Abort k z)) (λ z. inr (rw (decided_stays a j T v r c (a_final (a.st j) z)) z)) (d.aborts f w);
              commits = λ f w. ⊎_elim (λ z. ⊎_elim (λ z. inl z) (⊎_elim (λ q. absurd (high q)) (λ q. inr q)) (used Commit k z)) (λ z. inr (rw (decided_stays a j T v r c (c_final (a.st j) z)) z)) (d.commits f w);
            }
          where
            replied : (k < a.ld j) ⊎ ((κ ≡ Ack) × T k) → b.live Ack j k
            replied (inl q) = absurd (high q)
            replied (inr q) = came Ack k q.0 x q.1

      -- from j
      module _ (i : ℕ) (ne : i ≢ j) (x : b.runs i) where
        e : Due a.by a.live j (a.st j) (a.ld j) i (a.st i)
        e = o.due j i r (h.runs i x) (λ q. ne (sym q))

        quiet : κ ≡ Ack → Due a.by b.live j (a.st j) (a.ld j) i (a.st i)
        quiet k =
            record {
              moved = λ f w.
                  ⊎_elim (λ z. inl (stays MoveP j i ne z))
                  (⊎_elim (λ z. inr (inl (stays MoveW j i ne z))) (λ z. ⊎_elim (λ z. inr (inr z)) (λ q. absurd (⊎_elim (λ u. u f w) (λ u. u) q)) (used Ack i z))) (e.moved f w);
              aborts = λ f w. ⊎_elim (λ z. inl (stays Abort j i ne z)) (λ z. inr z) (e.aborts f w);
              commits = λ f w. ⊎_elim (λ z. inl (stays Commit j i ne z)) (λ z. inr z) (e.commits f w);
            }

        announced : Announced s l κ → Due a.by b.live j s l i (a.st i)
        announced n =
            record {
              moved = λ f w. move s refl w (n.leads f);
              aborts = λ f w. inl (given Abort tt (is_a s w) (n.leads f));
              commits = λ f w. inl (given Commit tt (is_c_lem s w) (n.leads f));
            }
          where
            -- the order that goes with the state of j is on its way to i
            given : (κ' : Kind) → Order κ' → s ≡ at_order κ' → Order κ × (s ≡ at_order κ) × Everyone a j T → b.live κ' j i
            given κ' o e g = came κ' i (same_order κ κ' g.0 o (sym g.1 ∙ e)) x (g.2.every i (h.runs i x) ne)

            move : (t : State) → s ≡ t → WP t → Order κ × (s ≡ at_order κ) × Everyone a j T → b.live MoveP j i ⊎ (b.live MoveW j i ⊎ b.live Ack i j)
            move P e w g = inl (given MoveP tt e g)
            move W e w g = inr (inl (given MoveW tt e g))
            move Q e w g = absurd w
            move A e w g = absurd w
            move C e w g = absurd w

        from : Due a.by b.live j s l i (a.st i)
        from = ⊎_elim (λ q. rw (q.0, q.1) (quiet q.2)) announced (announces c)

      pub owed_step : Owed b
      owed_step =
          record {
            below = by_site (λ i. Lowest b (b.ld i)) j (λ k q x. follows o c k (rw h.ld at q) (h.runs k x)) (λ i ne k q x. o.below i k (rw (h.ld_other i ne) at q) (h.runs k x));
            left = by_site (λ k. b.runs k → Lead b k → IsQ (b.st k) → ⊥) j (λ _ e q. at (rw (h.by, h.st, h.ld) at e) (rw h.st at q) (announces c))
                (λ k ne x e q. o.left k (h.runs k x) (rw (h.by, h.st_other k ne, h.ld_other k ne) at e) (rw (h.st_other k ne) at q));
            due = λ k i x z ne. due k i x z ne (ℕ_discrete k j) (ℕ_discrete i j);
          }
        where
          at : Leads a.by j s l → IsQ s → ((s ≡ a.st j) × (l ≡ a.ld j) × (κ ≡ Ack)) ⊎ Announced s l κ → ⊥
          at e q (inl z) = o.left j r (rw (z.0, z.1) at e) (rw z.0 at q)
          at e q (inr z) = z.left e q

          due : (k i : ℕ) → b.runs k → b.runs i → k ≢ i → Dec (k ≡ j) → Dec (i ≡ j) → Due b.by b.live k (b.st k) (b.ld k) i (b.st i)
          due k i x z ne (yes p) (yes q) = absurd (ne (p ∙ sym q))
          due k i x z ne (no p) (yes q) =
              subst (λ (i : ℕ). Due b.by b.live k (b.st k) (b.ld k) i (b.st i)) (sym q) (rw (h.by, h.st_other k p, h.ld_other k p, h.st) (toward k p x))
          due k i x z ne (yes p) (no q) =
              subst (λ (k : ℕ). Due b.by b.live k (b.st k) (b.ld k) i (b.st i)) (sym p) (rw (h.by, h.st, h.ld, h.st_other i q) (from i q z))
          due k i x z ne (no p) (no q) =
              rw (h.by, h.st_other k p, h.ld_other k p, h.st_other i q)
              (due_stays a.by k (a.st k) (a.ld k) i (a.st i) (λ c. stays c k i q) (λ c. stays c i k p) (o.due k i (h.runs k x) (h.runs i z) ne))
