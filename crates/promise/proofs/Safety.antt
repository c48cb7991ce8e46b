-- Every step of a site keeps the invariant, whole or cut short by a stop.
-- Assumes nothing.
use Prim.Native.Nat.{ℕ, ◌≤◌, ◌<◌}
use mathlib.Core.Path.{◌≡◌, refl, sym, subst, subst₂, ◌∙◌}
use mathlib.Core.Logic.{◌≢◌, ◌⊎◌, inl, inr, ⊎_elim}
use native.Mathlib.Decide.{ℕ_discrete, dec_lt}
use native.Mathlib.Omega.{arith}
use Rattle.site.specs.declared.State.{State}
use Rattle.site.specs.declared.State.TheVariants.{Q, W, P, A}
use Rattle.promise.proofs.Classes.{Protocol, Central, Peers, Kind, Start, Yes, No, MoveP, MoveW, Ack, Commit, Abort, Prepare, IsQ, IsNo, QW, QWA, qwa_is, rest_in_pc, WA, PC, Order, at_order, Stands, Relies, Early, First, late_above, IsYes, IsAck, Gives, relies_if, order_gives, order_acks, order_nos, no_withholds, yes_gives, wa_in_qwa, Final, final_is}
use Rattle.promise.proofs.View.{View, seen, told, EA, Lead, Lowest, Decided, MayAbort, MayCommit, Safe, nobody, Inv}
use Rattle.promise.proofs.First.{Coordinated, Left, nowhere, written, standing as stands_there, Dead, aborted, moved, waits, Peered, Own}
use Rattle.promise.proofs.Less.{Votes, stop, stop_inv, stop_abort, stop_commit}
use Rattle.promise.proofs.Become.{by_site, upd_same, upd_other, become, Fits, become_inv}
use Rattle.promise.proofs.Send.{send, send_inv}
use Rattle.promise.proofs.Does.{Only, Uses, SharedStep, Does, central, peers, shared, begin_yes, begin_no, start_yes, start_no, give_up, prepare, peer_yes, peer_no, peer_ends, peer_prepares, peer_commits, move_p, stay_p, move_w, stay_w, commit, abort, over_q, over, end_a, end_c, noted, passed}
use Rattle.promise.proofs.Fitting.{ease_muted, ease_abort, ease, standing, safe_w, safe_p, safe_a, safe_c, unprepared, fits_same, fits_a, fits_c, fits_w, fits_p, relies_none, relies_q, obeyed, obey_p, obey_w}

module _ (a : View) (j : ℕ) (v : Inv a) (r : a.runs j) where
  -- a site in q may abort; so may a coordinator in its first phase, and a peer that heard a No
  by_q : IsQ (a.st j) → MayAbort a (λ i. i ≡ j)
  by_q q = unprepared a j (λ e. v.unvoted j r q (v.prepared e j)) (λ i _. inr (record { site = j; muted = record { silent = v.unvoted j r q; past = λ _ _. refl } }))

  by_open : a.by ≡ Central → Coordinated a → First a.by j (a.st j) (a.ld j) → MayAbort a (λ i. i ≡ j)
  by_open p c f = unprepared a j (λ e. c.shut e j (r, f)) (λ i o. inl (site_1 i (a.ld i) o.1.0 ∙ sym (site_1 j (a.ld j) f.0)))
    where
      site_1 : (i l : ℕ) → Early a.by i l → i ≡ 1
      site_1 i l = subst (λ (c : Protocol). Early c i l → i ≡ 1) (sym p) (λ e. e)

  by_no : (i : ℕ) → a.live No i j → MayAbort a (λ i. i ≡ j)
  by_no i m = unprepared a j (λ e. (v.no i j m).silent (v.prepared e i)) (λ _ _. inr (record { site = i; muted = ease_muted a j i (v.no i j m) }))

  -- site j in its first phase in w, to which all others said Yes, may prepare
  module _ (f : First a.by j (a.st j) (a.ld j)) (w : a.st j ≡ W) (h : (i : ℕ) → i ≢ j → a.live Yes i j ⊎ a.voted i) where
    all_voted : (i : ℕ) → a.voted i
    all_voted = by_site a.voted j (v.waiting j (r, f) (rw w tt)) (λ i e. ⊎_elim (v.yes i j) (λ x. x) (h i e))

    none_aborted : EA a → ⊥
    none_aborted e = ⊎_elim (λ x. x) (λ u. u.muted.silent (all_voted u.site)) ((v.aborted e).barred j (r, f))

  -- a leader j that all other running sites have acknowledged
  module _ (l : Lead a j) (h : (i : ℕ) → i ≢ j → a.runs i → a.live Ack i j) where
    pub alone : Lowest a j
    alone i q x = let c : j < i = v.down j i (h i (omega arith) x) in omega arith

    -- an order that another running site would obey is one of j
    none_obeys : (κ : Kind) → Order κ → (i k : ℕ) → a.live κ k i → a.runs i → (i ≢ j → j ≤ a.ld i) → (Stands κ (a.st j) → ⊥) → k < a.ld i
    none_obeys κ o i k m x fol no' = go (ℕ_discrete i j) (dec_lt k (a.ld i))
      where
        go : Dec (i ≡ j) → Dec (k < a.ld i) → k < a.ld i
        go d (yes q) = q
        go (yes e) (no q) = let c : k < i = v.up κ k i o m in let g : a.ld i ≡ i = rw e l.0 in omega arith
        go (no e) (no q) = absurd (no' (obeyed a k i v (omega arith) κ o m j (fol e) r))

    -- where the state of j and those of the others are in S, and an order of kind κ does not go with the state of j
    settles : {S : State → Type 0} {κ : Kind} {E : Type 0} → Order κ → S (a.st j) → ((i : ℕ) → i ≢ j → a.runs i → (j ≤ a.ld i) × S (a.st i)) → (Stands κ (a.st j) → ⊥) → (E → ⊥) → Decided a S κ E
    settles {S} {κ} o own fol no' none =
        record {
          each = by_site (λ i. a.runs i → S (a.st i)) j (λ _. own) (λ i e x. (fol i e x).1);
          deaf = λ k i m x. none_obeys κ o i k m x (λ e. (fol i e x).0) no';
          apart = none;
        }

    may_abort : a.st j ≡ W → MayAbort a (λ i. i ≡ j)
    may_abort w =
        record {
          decided = settles tt (rw w tt) (λ i e x. ((fol i e x).0, wa_in_qwa (a.st i) (fol i e x).1)) (λ z. rw w at z) (λ e. rw w at ((v.committed e).each j r));
          barred = λ i o. absurd (closed i o.0 o.1.0);
        }
      where
        fol : (i : ℕ) → i ≢ j → a.runs i → (j ≤ a.ld i) × WA (a.st i)
        fol i e x = rw w at (v.follower j i (h i e x) r x)

        closed : (i : ℕ) → a.runs i → Early a.by i (a.ld i) → ⊥
        closed =
            by_site (λ i. a.runs i → Early a.by i (a.ld i) → ⊥) j (λ _ e. l.1 (e, rw w tt))
            (λ i ne x. late_above a.by j i (a.ld i) (v.site j r) (v.down j i (h i ne x)) (fol i ne x).0)

    may_commit : a.st j ≡ P → MayCommit a
    may_commit p = settles tt (rw p tt) (λ i e x. rw p at (v.follower j i (h i e x) r x)) (λ z. rw p at z) (λ e. rw p at ((v.aborted e).decided.each j r))

-- Among peers, where every Prepare has left the first phase is not dead, and so a site may commit.
module _ (a : View) (v : Inv a) (o : Peered a) (all : (i : ℕ) → Left a i) where
  alive : Dead a → ⊥
  alive d = d.unprepared (all d.site)

  stands : (i : ℕ) → a.runs i → PC (a.st i)
  stands i x = go (ℕ_discrete (a.ld i) 0)
    where
      none : QWA (a.st i) → (QW (a.st i) → ⊥) → ⊥
      none q n = ⊎_elim n (λ e. alive (o.dead (aborted (seen i e)))) (qwa_is (a.st i) q)

      stood : a.ld i ≡ 0 → Left a i → PC (a.st i)
      stood e (nowhere n) = absurd (o.there i x n)
      stood e (written j m) = o.stood i j m x e
      stood e (stands_there _ _ q) = q

      go : Dec (a.ld i ≡ 0) → PC (a.st i)
      go (yes e) = stood e (all i)
      go (no e) = rest_in_pc (a.st i) (λ q. none q (λ y. alive (o.dead (waits i x (omega arith) y))))

  pub all_commit : MayCommit a
  all_commit = record { each = stands; deaf = λ k i m _. absurd (alive (o.dead (moved k i m))); apart = λ e. alive (o.dead (aborted e)) }

-- What a step that gives an order says of it.
pub record Ordered (a : View) (j : ℕ) (s : State) (l : ℕ) (κ : Kind) (T : ℕ → Type 0) : Type 0 where
  pub state : s ≡ at_order κ
  pub own : l ≡ j
  pub late : First a.by j s l → ⊥
  pub lowest : Lowest a j
  pub above : (i : ℕ) → T i → j < i

module _ (a : View) (j : ℕ) (v : Inv a) (r : a.runs j) where
  first_lowest : j ≡ 1 → Lowest a j
  first_lowest e i q x = let c : 1 ≤ i = v.site i x in omega arith

  -- who is left to the first phase
  pub coordinates : a.by ≡ Central → j ≡ 1 → Early a.by j (a.ld j)
  coordinates b e = subst (λ (c : Protocol). Early c j (a.ld j)) (sym b) e

  pub peer : a.by ≡ Peers → a.ld j ≡ 0 → Early a.by j (a.ld j)
  peer b e = subst (λ (c : Protocol). Early c j (a.ld j)) (sym b) e

  pub ordered : {s : State} {l : ℕ} {κ : Kind} {y : Uses} {T : ℕ → Type 0} → Does a j T s l κ y → Order κ → Ordered a j s l κ T
  ordered (central b (begin_yes e q l t)) o = absurd o
  ordered (central b (begin_no e q l t)) o = record { state = refl; own = l; late = λ f. f.1; lowest = first_lowest e; above = t.above }
  ordered (central b (start_yes h ne q m t)) o = absurd o
  ordered (central b (start_no h ne q m t)) o = absurd o
  ordered (central b (give_up e w l t)) o = record { state = refl; own = l; late = λ f. f.1; lowest = first_lowest e; above = t.above }
  ordered (central b (prepare e w l h t)) o = record { state = refl; own = l; late = λ f. f.1; lowest = first_lowest e; above = t.above }
  ordered (peers b (peer_yes q l t)) o = absurd o
  ordered (peers b (peer_no q l t)) o = absurd o
  ordered (peers b (peer_ends w l i m z)) o = absurd o
  ordered (peers b (peer_prepares w l h t)) o = absurd o
  ordered (peers b (peer_commits p l h z)) o = absurd o
  ordered (shared (move_p h1 h m w t)) o = absurd o
  ordered (shared (stay_p h1 h m e p t)) o = absurd o
  ordered (shared (move_w h1 h m q t)) o = absurd o
  ordered (shared (stay_w h1 h m e t)) o = absurd o
  ordered (shared (commit h1 h m z)) o = absurd o
  ordered (shared (abort h1 h m z)) o = absurd o
  ordered (shared (over_q n q t)) o = record { state = refl; own = refl; late = λ f. f.1; lowest = n.lowest; above = t.above }
  ordered (shared (over o n e t)) _ = record { state = refl; own = refl; late = λ f. n.late f.0; lowest = n.lowest; above = t.above }
  ordered (shared (end_a l w h t)) o = record { state = refl; own = l.0; late = λ f. f.1; lowest = alone a j v r l h; above = t.above }
  ordered (shared (end_c l p h t)) o = record { state = refl; own = l.0; late = λ f. f.1; lowest = alone a j v r l h; above = t.above }
  ordered (shared (noted z)) o = absurd o
  ordered (shared (passed i z)) o = absurd o

  -- the state that j comes to is safe, before the step
  kept : {s : State} → a.st j ≡ s → Safe a s (λ i. i ≡ j)
  kept e = subst (λ (s : State). Safe a s (λ i. i ≡ j)) e (ease a j (standing a j v r))

  q_waits : a.st j ≡ Q → Safe a W (λ i. i ≡ j)
  q_waits q = safe_w a (λ x. rw q at ((v.committed x).each j r))

  q_aborts : a.st j ≡ Q → Safe a A (λ i. i ≡ j)
  q_aborts q = safe_a a (by_q a j v r (rw q tt))

  all_prepared : a.st j ≡ P → a.ld j ≡ 0 → ((i : ℕ) → i ≢ j → a.live Prepare i j ⊎ a.absent i) → (i : ℕ) → Left a i
  all_prepared p l h = by_site (Left a) j (stands_there r l (rw p tt)) (λ i e. ⊎_elim (written j) nowhere (h i e))

  -- of what both protocols share, whatever the first phase was
  pub safe_shared : {s : State} {l : ℕ} {κ : Kind} {y : Uses} {T : ℕ → Type 0} → SharedStep a j T s l κ y → Safe a s (λ i. i ≡ j)
  safe_shared (move_p {k} h1 h m w t) = safe_p a (v.prepared (told MoveP k j tt m)) (λ e. let c : k < a.ld j = (v.aborted e).decided.deaf k j m r in omega arith)
  safe_shared (stay_p h1 h m e p t) = kept e
  safe_shared (move_w {k} h1 h m q t) = safe_w a (λ e. let c : k < a.ld j = (v.committed e).deaf k j m r in omega arith)
  safe_shared (stay_w h1 h m e t) = kept e
  safe_shared (commit {k} h1 h m z) = safe_c a (v.prepared (told Commit k j tt m)) (v.committed (told Commit k j refl m))
  safe_shared (abort {k} h1 h m z) = safe_a a (ease_abort a j (v.aborted (told Abort k j refl m)))
  safe_shared (over_q n q t) = q_aborts q
  safe_shared (over o n e t) = kept e
  safe_shared (end_a l w h t) = safe_a a (may_abort a j v r l h w)
  safe_shared (end_c l p h t) = safe_c a (v.prepared (seen j (rw p tt))) (may_commit a j v r l h p)
  safe_shared (noted z) = kept refl
  safe_shared (passed i z) = kept refl

  pub safe : Own a → {s : State} {l : ℕ} {κ : Kind} {y : Uses} {T : ℕ → Type 0} → Does a j T s l κ y → Safe a s (λ i. i ≡ j)
  safe d (central b (begin_yes e q l t)) = q_waits q
  safe d (central b (begin_no e q l t)) = q_aborts q
  safe d (central b (start_yes h ne q m t)) = q_waits q
  safe d (central b (start_no h ne q m t)) = q_aborts q
  safe d (central b (give_up e w l t)) = safe_a a (by_open a j v r b (d.central b) (coordinates b e, rw w tt))
  safe d (central b (prepare e w l h t)) = let f : First a.by j (a.st j) (a.ld j) = (coordinates b e, rw w tt) in safe_p a (all_voted a j v r f w h) (none_aborted a j v r f w h)
  safe d (peers b (peer_yes q l t)) = q_waits q
  safe d (peers b (peer_no q l t)) = q_aborts q
  safe d (peers b (peer_ends w l i m z)) = safe_a a (by_no a j v r i m)
  safe d (peers b (peer_prepares w l h t)) = let f : First a.by j (a.st j) (a.ld j) = (peer b l, rw w tt) in safe_p a (all_voted a j v r f w h) (none_aborted a j v r f w h)
  safe d (peers b (peer_commits p l h z)) = safe_c a (v.prepared (seen j (rw p tt))) (all_commit a v (d.peers b) (all_prepared p l h))
  safe d (shared c) = safe_shared c

  -- who is acknowledged leads, and can rely on j afterwards
  pub record Answered (i : ℕ) (s : State) (l : ℕ) : Type 0 where
    pub above : i < j
    pub leads : a.runs i → Lead a i
    pub relies : a.runs i → Relies (a.st i) i s l

  by_move : (κ : Kind) → Order κ → (k : ℕ) (s : State) {T : ℕ → Type 0} → a.live κ k j → (Stands κ W → WA s) → (Stands κ P → PC s) → Only k T → (i : ℕ) → T i → Answered i s k
  by_move κ o k s m f g t i x =
      subst (λ (i : ℕ). Answered i s k) (sym (t.only i x))
      (record {
        above = v.up κ k j o m;
        leads = λ y. (v.orders κ k j o m y).0;
        relies = λ y. let h = (v.orders κ k j o m y).1 in relies_if (a.st k) k s k (λ e. (omega arith, f (subst (Stands κ) e h))) (λ e. (omega arith, g (subst (Stands κ) e h)));
      })

  pub answered : {s : State} {l : ℕ} {κ : Kind} {y : Uses} {T : ℕ → Type 0} → Does a j T s l κ y → IsAck κ → (i : ℕ) → T i → Answered i s l
  answered (central b (begin_yes e q l t)) o i x = absurd o
  answered (central b (begin_no e q l t)) o i x = absurd o
  answered (central b (start_yes h ne q m t)) o i x = absurd o
  answered (central b (start_no h ne q m t)) o i x = absurd o
  answered (central b (give_up e w l t)) o i x = absurd o
  answered (central b (prepare e w l h t)) o i x = absurd o
  answered (peers b (peer_yes q l t)) o i x = absurd o
  answered (peers b (peer_no q l t)) o i x = absurd o
  answered (peers b (peer_ends w l k m z)) o i x = absurd (z i x)
  answered (peers b (peer_prepares w l h t)) o i x = absurd o
  answered (peers b (peer_commits p l h z)) o i x = absurd (z i x)
  answered (shared (move_p h1 h m w t)) o i x = by_move MoveP tt _ P m (λ y. y) (λ _. tt) t i x
  answered (shared (stay_p h1 h m e p t)) o i x = by_move MoveP tt _ _ m (λ y. absurd y) (λ _. p) t i x
  answered (shared (move_w h1 h m q t)) o i x = by_move MoveW tt _ W m (λ _. tt) (λ y. y) t i x
  answered (shared (stay_w h1 h m e t)) o i x = by_move MoveW tt _ A m (λ _. tt) (λ y. y) t i x
  answered (shared (commit h1 h m z)) o i x = absurd (z i x)
  answered (shared (abort h1 h m z)) o i x = absurd (z i x)
  answered (shared (over_q n q t)) o i x = absurd o
  answered {κ = κ} (shared (over o n e t)) o' i x = absurd (order_acks κ o o')
  answered (shared (end_a l w h t)) o i x = absurd o
  answered (shared (end_c l p h t)) o i x = absurd o
  answered (shared (noted z)) o i x = absurd (z i x)
  answered (shared (passed y z)) o i x = absurd (z i x)

  -- who says no is in q, and leaves it
  refuses : {s : State} {l : ℕ} {κ : Kind} {y : Uses} {T : ℕ → Type 0} → Does a j T s l κ y → IsNo κ → (a.st j ≡ Q) × (IsQ s → ⊥)
  refuses (central b (begin_yes e q l t)) o = absurd o
  refuses (central b (begin_no e q l t)) o = absurd o
  refuses (central b (start_yes h ne q m t)) o = absurd o
  refuses (central b (start_no h ne q m t)) o = (q, λ x. x)
  refuses (central b (give_up e w l t)) o = absurd o
  refuses (central b (prepare e w l h t)) o = absurd o
  refuses (peers b (peer_yes q l t)) o = absurd o
  refuses (peers b (peer_no q l t)) o = (q, λ x. x)
  refuses (peers b (peer_ends w l i m z)) o = absurd o
  refuses (peers b (peer_prepares w l h t)) o = absurd o
  refuses (peers b (peer_commits p l h z)) o = absurd o
  refuses (shared (move_p h1 h m w t)) o = absurd o
  refuses (shared (stay_p h1 h m e p t)) o = absurd o
  refuses (shared (move_w h1 h m q t)) o = absurd o
  refuses (shared (stay_w h1 h m e t)) o = absurd o
  refuses (shared (commit h1 h m z)) o = absurd o
  refuses (shared (abort h1 h m z)) o = absurd o
  refuses (shared (over_q n q t)) o = absurd o
  refuses {κ = κ} (shared (over k n e t)) o = absurd (order_nos κ k o)
  refuses (shared (end_a l w h t)) o = absurd o
  refuses (shared (end_c l p h t)) o = absurd o
  refuses (shared (noted z)) o = absurd o
  refuses (shared (passed i z)) o = absurd o

  -- the new record fits
  module _ (w : ℕ → Type 0) (g : Votes a j w) where
    following : {s : State} → (l : ℕ) → a.ld j ≤ l → l ≤ j → (w j → a.voted j) → a.st j ≡ s → Safe a s (λ i. i ≡ j) → Fits a j s l w
    following l h o quiet e = subst (λ (s : State). Safe a s (λ i. i ≡ j) → Fits a j s l w) e (fits_same a j l w v r g h o quiet)

    q_to_w : a.st j ≡ Q → w j → (Lead a j → ⊥) → Safe a W (λ i. i ≡ j) → Fits a j W (a.ld j) w
    q_to_w q y idle =
        fits_w a j (a.ld j) w v r g (omega arith) (v.low j) (λ e. (e, rw q tt)) (λ _. y) idle
        (λ k _ _ _. relies_q a j (a.ld j) w v r g (omega arith) (v.low j) k (rw q tt))

    -- who follows nobody does not lead
    alone_0 : a.ld j ≡ 0 → Lead a j → ⊥
    alone_0 e x = let c : a.ld j ≡ j = x.0 in let d : 1 ≤ j = v.site j r in omega arith

    pub fits : {s : State} {l : ℕ} {κ : Kind} {y : Uses} {T : ℕ → Type 0} → Does a j T s l κ y → (Gives κ → w j) → ((Gives κ → ⊥) → w j → a.voted j) → Safe a s (λ i. i ≡ j) → Fits a j s l w
    fits (central b (begin_yes e q l t)) y n = q_to_w q (y tt) (λ h. h.1 (coordinates b e, rw q tt))
    fits (central b (begin_no e q l t)) y n = fits_a a j (a.ld j) w v r g (omega arith) (v.low j) (rw q tt) (n (λ x. x))
    fits (central b (start_yes h ne q m t)) y n = q_to_w q (y tt) (λ x. let c : a.ld j ≡ j = x.0 in let d : 1 ≤ j = v.site j r in ne (omega arith))
    fits (central b (start_no h ne q m t)) y n = fits_a a j (a.ld j) w v r g (omega arith) (v.low j) (rw q tt) (n (λ x. x))
    fits (central b (give_up e q l t)) y n = fits_a a j (a.ld j) w v r g (omega arith) (v.low j) (rw q tt) (n (λ x. x))
    fits (central b (prepare e q l h t)) y n =
        fits_p a j (a.ld j) w v r g (omega arith) (v.low j) (λ x. x.1 (coordinates b e, rw q tt)) (λ k _ x m. absurd (first_lowest e k (v.down k j m) x))
    fits (peers b (peer_yes q l t)) y n = q_to_w q (y tt) (alone_0 l)
    fits (peers b (peer_no q l t)) y n = fits_a a j (a.ld j) w v r g (omega arith) (v.low j) (rw q tt) (n (λ x. x))
    fits (peers b (peer_ends q l i m z)) y n = fits_a a j (a.ld j) w v r g (omega arith) (v.low j) (rw q tt) (n (λ x. x))
    fits (peers b (peer_prepares q l h t)) y n =
        fits_p a j (a.ld j) w v r g (omega arith) (v.low j) (alone_0 l) (λ k _ x _. relies_none a j (a.ld j) w v r g (omega arith) (v.low j) P k l x)
    fits (peers b (peer_commits q l h z)) y n = fits_c a j (a.ld j) w v r g (omega arith) (v.low j) (rw q tt)
    fits (shared (move_p {k} h1 h m q t)) y n =
        fits_p a j k w v r g h (omega (arith, v.up MoveP k j tt m)) (λ x. let c : k < j = v.up MoveP k j tt m in let d : a.ld j ≡ j = x.0 in omega arith)
        (λ i _ x _. obey_p a k j v h m i x)
    fits (shared (stay_p {s} {k} h1 h m e p t)) y n = following k h (omega (arith, v.up MoveP k j tt m)) (n (λ x. x)) e
    fits (shared (move_w {k} h1 h m q t)) y n =
        fits_w a j k w v r g h (omega (arith, v.up MoveW k j tt m)) (λ e. absurd (past e)) (λ e. absurd (past e))
        (λ x. let c : k < j = v.up MoveW k j tt m in let d : a.ld j ≡ j = x.0 in omega arith)
        (λ i _ x _. obey_w a k j v h m i x)
      where
        past : Early a.by j k → ⊥
        past = late_above a.by k j k h1 (v.up MoveW k j tt m) (omega arith)
    fits (shared (stay_w {k} h1 h m e t)) y n = following k h (omega (arith, v.up MoveW k j tt m)) (n (λ x. x)) e
    fits (shared (commit {k} h1 h m z)) y n = fits_c a j k w v r g h (omega (arith, v.up Commit k j tt m)) ((v.committed (told Commit k j refl m)).each j r)
    fits (shared (abort {k} h1 h m z)) y n = fits_a a j k w v r g h (omega (arith, v.up Abort k j tt m)) ((v.aborted (told Abort k j refl m)).decided.each j r) (n (λ x. x))
    fits (shared (over_q n' q t)) y n = fits_a a j j w v r g (omega arith) (omega arith) (rw q tt) (n (λ x. x))
    fits {κ = κ} (shared (over o n' e t)) y n = following j (omega arith) (omega arith) (n (order_gives κ o)) e
    fits (shared (end_a l q h t)) y n = fits_a a j (a.ld j) w v r g (omega arith) (v.low j) (rw q tt) (n (λ x. x))
    fits (shared (end_c l q h t)) y n = fits_c a j (a.ld j) w v r g (omega arith) (v.low j) (rw q tt)
    fits (shared (noted z)) y n = following (a.ld j) (omega arith) (v.low j) (n (λ x. x)) refl
    fits (shared (passed i z)) y n = following (a.ld j) (omega arith) (v.low j) (n (λ x. x)) refl

-- Site j takes a step, and of its messages those to the sites of R become live.
module _ (a : View) (j : ℕ) (v : Inv a) (d : Own a) (r : a.runs j) (w : ℕ → Type 0) (g : Votes a j w) (s : State) (l : ℕ) (κ : Kind) (y : Uses) (T R : ℕ → Type 0)
    (c : Does a j T s l κ y) (within : (i : ℕ) → R i → T i) where
  abbrev b : View
  b = become a j s l w

  st_j : b.st j ≡ s
  st_j = upd_same a.st j s

  st_i : (i : ℕ) → i < j → b.st i ≡ a.st i
  st_i i h = upd_other a.st j s i (λ e. omega arith)

  ld_i : (i : ℕ) → i < j → b.ld i ≡ a.ld i
  ld_i i h = upd_other a.ld j l i (λ e. omega arith)

  at_order_lem : (κ : Kind) → Order κ → Stands κ (at_order κ)
  at_order_lem MoveP o = tt
  at_order_lem MoveW o = tt
  at_order_lem Commit o = tt
  at_order_lem Abort o = tt
  at_order_lem Start o = tt
  at_order_lem Yes o = tt
  at_order_lem No o = tt
  at_order_lem Ack o = tt
  at_order_lem Prepare o = tt

  mum : (w j → a.voted j) → IsNo κ → w j → ⊥
  mum n x z = v.unvoted j r (rw (refuses a j v r c x).0 tt) (n z)

  -- the whole step
  pub whole : (Gives κ → w j) → ((Gives κ → ⊥) → w j → a.voted j) → Inv (send b κ j R)
  whole y n =
      send_inv b κ j R u
      (record {
        up = λ o i x. (ordered a j v r c o).above i (within i x);
        lowest = λ o. (ordered a j v r c o).lowest;
        orders = λ o _. lead (ordered a j v r c o) o;
        ready = λ o. subst (λ (s : State). Safe b s nobody) (st_j ∙ (ordered a j v r c o).state) (standing b j u r);
        yes = λ x _ _. y (yes_gives κ x);
        no = λ x. record { silent = mum (n (no_withholds κ x)) x; past = λ _ q. (refuses a j v r c x).1 (subst IsQ st_j q) };
        ack = λ x i z. ack i (answered a j v r c x i (within i z));
      })
    where
      u : Inv b
      u = become_inv a j s l w v (fits a j v r w g c y n (safe a j v r d c))

      lead : Ordered a j s l κ T → Order κ → Lead b j × Stands κ (b.st j)
      lead x o =
          ((upd_same a.ld j l ∙ x.own, λ f. x.late (subst₂ (First a.by j) st_j (upd_same a.ld j l) f)), subst (Stands κ) (sym (st_j ∙ x.state)) (at_order_lem κ o))

      ack : (i : ℕ) → Answered a j v r i s l → (i < j) × (a.runs i → Lead b i) × (a.runs i → a.runs j → Relies (b.st i) i (b.st j) (b.ld j))
      ack i z = (z.above, λ x. rw (st_i i z.above, ld_i i z.above) (z.leads x), λ x _. rw (st_i i z.above, st_j, upd_same a.ld j l) (z.relies x))

  -- the step cut short: j stops with its record as before
  pub cut : (IsYes κ → (i : ℕ) → R i → w j) → ((Gives κ → ⊥) → w j → a.voted j) → Inv (send (stop a j w) κ j R)
  cut y n =
      send_inv (stop a j w) κ j R (stop_inv a j w r g v)
      (record {
        up = λ o i x. (ordered a j v r c o).above i (within i x);
        lowest = λ o i h x. (ordered a j v r c o).lowest i h x.0;
        orders = λ o x. absurd (x.1 refl);
        ready = λ o. subst (λ (s : State). Safe (stop a j w) s nobody) (ordered a j v r c o).state (left o (safe a j v r d c));
        yes = y;
        no = λ x. record { silent = mum (n (no_withholds κ x)) x; past = λ z. absurd (z.1 refl) };
        ack = λ x i z. let q = answered a j v r c x i (within i z) in (q.above, λ y. q.leads y.0, λ _ y. absurd (y.1 refl));
      })
    where
      left : Order κ → Safe a s (λ i. i ≡ j) → Safe (stop a j w) s nobody
      left o h =
          record {
            prepared = λ q i. g.old i (h.prepared q i);
            aborted = λ q. stop_abort a j w r g (n (order_gives κ o)) (h.aborted q);
            committed = λ q. stop_commit a j w r g (n (order_gives κ o)) (h.committed q);
            beside_a = h.beside_a;
            beside_c = h.beside_c;
          }

-- A step leaves neither a nor c.
module _ (a : View) (j : ℕ) (T : ℕ → Type 0) (v : Inv a) (r : a.runs j) where
  pub decided_stays : {s : State} {l : ℕ} {κ : Kind} {y : Uses} → Does a j T s l κ y → Final (a.st j) → s ≡ a.st j
  decided_stays (central b (begin_yes e q l t)) f = absurd (rw q at f)
  decided_stays (central b (begin_no e q l t)) f = absurd (rw q at f)
  decided_stays (central b (start_yes h ne q m t)) f = absurd (rw q at f)
  decided_stays (central b (start_no h ne q m t)) f = absurd (rw q at f)
  decided_stays (central b (give_up e w l t)) f = absurd (rw w at f)
  decided_stays (central b (prepare e w l h t)) f = absurd (rw w at f)
  decided_stays (peers b (peer_yes q l t)) f = absurd (rw q at f)
  decided_stays (peers b (peer_no q l t)) f = absurd (rw q at f)
  decided_stays (peers b (peer_ends w l i m z)) f = absurd (rw w at f)
  decided_stays (peers b (peer_prepares w l h t)) f = absurd (rw w at f)
  decided_stays (peers b (peer_commits p l h z)) f = absurd (rw p at f)
  decided_stays (shared (move_p h1 h m w t)) f = absurd (rw w at f)
  decided_stays (shared (stay_p h1 h m e p t)) f = sym e
  decided_stays (shared (move_w h1 h m q t)) f = absurd (⊎_elim (λ d. rw d at q) (λ d. rw d at q) (final_is (a.st j) f))
  decided_stays (shared (stay_w h1 h m e t)) f = sym e
  decided_stays (shared (commit {k} h1 h m z)) f = ⊎_elim (λ d. absurd (rw d at ((v.committed (told Commit k j refl m)).each j r))) sym (final_is (a.st j) f)
  decided_stays (shared (abort {k} h1 h m z)) f = ⊎_elim sym (λ d. absurd (rw d at ((v.aborted (told Abort k j refl m)).decided.each j r))) (final_is (a.st j) f)
  decided_stays (shared (over_q n q t)) f = absurd (rw q at f)
  decided_stays (shared (over o n e t)) f = sym e
  decided_stays (shared (end_a l w h t)) f = absurd (rw w at f)
  decided_stays (shared (end_c l p h t)) f = absurd (rw p at f)
  decided_stays (shared (noted z)) f = refl
  decided_stays (shared (passed i z)) f = refl
