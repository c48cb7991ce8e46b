-- What peers owe one another in the first phase, while no site has stopped, and that every step keeps it.
-- Assumes nothing.
use Prim.Native.Nat.{ℕ}
use mathlib.Core.Path.{◌≡◌, refl, sym, subst, ◌∙◌}
use mathlib.Core.Logic.{◌≢◌, ◌⊎◌, inl, inr, ⊎_elim}
use native.Mathlib.Decide.{ℕ_discrete}
use native.Mathlib.Omega.{arith}
use Rattle.site.specs.declared.State.{State}
use Rattle.site.specs.declared.State.TheVariants.{W}
use Rattle.promise.proofs.Classes.{Central, Peers, by_protocol, not_both, Kind, Start, Yes, No, MoveP, MoveW, Ack, Commit, Abort, Prepare, by_kind, WPAC, PC, QWP}
use Rattle.promise.proofs.View.{View, Lead, Inv}
use Rattle.promise.proofs.Become.{by_site}
use Rattle.promise.proofs.Does.{Others, Backup, Idle, Uses, nothing, notes, message, Does, central, peers, shared, peer_yes, peer_no, peer_ends, peer_prepares, peer_commits, move_p, stay_p, move_w, stay_w, commit, abort, over_q, over, end_a, end_c, noted, passed}
use Rattle.promise.proofs.Owed.{After, Stopped, stays, came}

-- No site has stopped.
abbrev pub Calm : View → Type 0
Calm a = (i : ℕ) → a.stopped i → ⊥

-- What goes to and from a leader.
abbrev pub ByLeader : Kind → Type 0
ByLeader κ = by_kind ⊥ ⊥ ⊥ Unit Unit Unit Unit Unit ⊥ κ

-- What peers tell one another.
abbrev pub Word : Kind → Type 0
Word κ = by_kind ⊥ Unit Unit ⊥ ⊥ ⊥ ⊥ ⊥ Unit κ

pub record PeersOwed (a : View) : Type 0 where
  -- everybody follows nobody, and nothing goes to or from a leader
  pub nobody : Calm a → (j : ℕ) → a.runs j → a.ld j ≡ 0
  pub silent : Calm a → (κ : Kind) (k j : ℕ) → ByLeader κ → a.live κ k j → ⊥
  -- i that has not decided has, or will have, the vote of each j that has left q, and the Prepare of each that has prepared
  pub votes : Calm a → (i j : ℕ) → a.runs i → a.runs j → i ≢ j → QWP (a.st i) → WPAC (a.st j) → a.live Yes j i ⊎ a.live No j i
  pub prepares : Calm a → (i j : ℕ) → a.runs i → a.runs j → i ≢ j → QWP (a.st i) → PC (a.st j) → a.live Prepare j i

-- After a stop nothing of that is owed.
pub peers_stopped : (a b : View) (j : ℕ) → Stopped a b j → PeersOwed b
peers_stopped a b j h =
    record { nobody = λ c. absurd (c j h.stopped); silent = λ c. absurd (c j h.stopped); votes = λ c. absurd (c j h.stopped); prepares = λ c. absurd (c j h.stopped) }

-- ---- a step

module _ (a : View) (j : ℕ) (T : ℕ → Type 0) (v : Inv a) (r : a.runs j) (p : a.by ≡ Peers) (u : PeersOwed a) (calm : Calm a) where
  -- what a step uses up, where it is a word of a peer, is used up because j has decided
  abbrev Spent : Uses → Type 0
  Spent nothing = Unit
  Spent notes = Unit
  Spent (message γ k) = Word γ → QWP (a.st j) → ⊥

  -- a step that is none of a leader
  record Plain (s : State) (l : ℕ) (κ : Kind) (y : Uses) : Type 0 where
    low : l ≡ 0
    quiet : (i : ℕ) → T i → ByLeader κ → ⊥
    votes : WPAC s → WPAC (a.st j) ⊎ (((κ ≡ Yes) ⊎ (κ ≡ No)) × Others a j T)
    prepares : PC s → PC (a.st j) ⊎ ((κ ≡ Prepare) × Others a j T)
    open_before : QWP s → QWP (a.st j)
    spent : Spent y

  none : {M : Type 0} (κ : Kind) (k : ℕ) → ByLeader κ → a.live κ k j → M
  none κ k o m = absurd (u.silent calm κ k j o m)

  away : {M : Type 0} → a.by ≡ Central → M
  away b = absurd (not_both b p)

  no_leader : {M : Type 0} → Lead a j → M
  no_leader l = let e : a.ld j ≡ j = l.0 in let d : a.ld j ≡ 0 = u.nobody calm j r in absurd (omega (arith, v.site j r))

  no_backup : {M : Type 0} → Backup a j → M
  no_backup n = absurd (calm (n.sees p).0 (n.sees p).1)

  idle : (γ : Kind) (k : ℕ) → Idle a j γ k → Word γ → QWP (a.st j) → ⊥
  idle Start k i w = absurd w
  idle Yes k i w = subst (by_protocol (a.st j ≢ W) (a.ld j ≡ 0 → QWP (a.st j) → ⊥)) p i (u.nobody calm j r)
  idle No k i w = subst (by_protocol (a.st j ≢ W) (a.ld j ≡ 0 → QWP (a.st j) → ⊥)) p i (u.nobody calm j r)
  idle MoveP k i w = absurd w
  idle MoveW k i w = absurd w
  idle Ack k i w = absurd w
  idle Commit k i w = absurd w
  idle Abort k i w = absurd w
  idle Prepare k i w = subst (by_protocol (a.st j ≢ W) (a.ld j ≡ 0 → QWP (a.st j) → ⊥)) p i (u.nobody calm j r)

  plain : {s : State} {l : ℕ} {κ : Kind} {y : Uses} → Does a j T s l κ y → Plain s l κ y
  plain (central b c) = away b
  plain (peers b (peer_yes q l t)) = record { low = l; quiet = λ i x o. o; votes = λ _. inr (inl refl, t); prepares = λ x. absurd x; open_before = λ _. rw q tt; spent = tt }
  plain (peers b (peer_no q l t)) = record { low = l; quiet = λ i x o. o; votes = λ _. inr (inr refl, t); prepares = λ x. absurd x; open_before = λ x. absurd x; spent = tt }
  plain (peers b (peer_ends w l i m z)) = record { low = l; quiet = λ i x o. z i x; votes = λ _. inl (rw w tt); prepares = λ x. absurd x; open_before = λ x. absurd x; spent = tt }
  plain (peers b (peer_prepares w l h t)) = record { low = l; quiet = λ i x o. o; votes = λ _. inl (rw w tt); prepares = λ _. inr (refl, t); open_before = λ _. rw w tt; spent = tt }
  plain (peers b (peer_commits w l h z)) = record { low = l; quiet = λ i x o. z i x; votes = λ _. inl (rw w tt); prepares = λ _. inl (rw w tt); open_before = λ x. absurd x; spent = tt }
  plain (shared (move_p {k} h1 h m w t)) = none MoveP k tt m
  plain (shared (stay_p {s} {k} h1 h m e q t)) = none MoveP k tt m
  plain (shared (move_w {k} h1 h m q t)) = none MoveW k tt m
  plain (shared (stay_w {k} h1 h m e t)) = none MoveW k tt m
  plain (shared (commit {k} h1 h m z)) = none Commit k tt m
  plain (shared (abort {k} h1 h m z)) = none Abort k tt m
  plain (shared (over_q n q t)) = no_backup n
  plain (shared (over o n e t)) = no_backup n
  plain (shared (end_a l w h t)) = no_leader l
  plain (shared (end_c l q h t)) = no_leader l
  plain (shared (noted z)) = record { low = u.nobody calm j r; quiet = λ i x o. z i x; votes = λ x. inl x; prepares = λ x. inl x; open_before = λ x. x; spent = tt }
  plain (shared (passed {γ} {k} i z)) = record { low = u.nobody calm j r; quiet = λ i x o. z i x; votes = λ x. inl x; prepares = λ x. inl x; open_before = λ x. x; spent = idle γ k i }

-- ---- the view after the step

module _ (a b : View) (j : ℕ) (T : ℕ → Type 0) (v : Inv a) (r : a.runs j) (p : a.by ≡ Peers) (u : PeersOwed a) (s : State) (l : ℕ) (κ : Kind) (y : Uses)
    (h : After a b j T s l κ y) (c : Does a j T s l κ y) where
  was_calm : Calm b → Calm a
  was_calm f i x = f i (h.stopped i x)

  module _ (f : Calm b) where
    d : Plain a j T v r p u (was_calm f) s l κ y
    d = plain a j T v r p u (was_calm f) c

    stay : (κ' : Kind) (k i : ℕ) → i ≢ j → a.live κ' k i → b.live κ' k i
    stay = stays a j T v r b s l κ y h c

    -- a word of a peer to j stays while j has not decided
    keep : (γ : Kind) (k : ℕ) → Word γ → QWP (a.st j) → a.live γ k j → b.live γ k j
    keep γ k w q x = ⊎_elim (λ z. z) (λ z. absurd (gone z.1 w q)) (h.stay γ k j x)
      where
        gone : y ≡ message γ k → Spent a j T v r p u (was_calm f) (message γ k)
        gone e = subst (Spent a j T v r p u (was_calm f)) e d.spent

    came' : (κ' : Kind) (i : ℕ) → κ ≡ κ' → b.runs i → T i → b.live κ' j i
    came' = came a j T v r b s l κ y h c

    nobody : (i : ℕ) → b.runs i → b.ld i ≡ 0
    nobody = by_site (λ i. b.runs i → b.ld i ≡ 0) j (λ _. h.ld ∙ d.low) (λ i ne x. h.ld_other i ne ∙ u.nobody (was_calm f) i (h.runs i x))

    silent : (γ : Kind) (k i : ℕ) → ByLeader γ → b.live γ k i → ⊥
    silent γ k i w x = ⊎_elim (u.silent (was_calm f) γ k i w) (λ z. d.quiet i z.2 (subst ByLeader (sym z.0) w)) (h.only γ k i x)

    votes : (i k : ℕ) → b.runs i → b.runs k → i ≢ k → QWP (b.st i) → WPAC (b.st k) → Dec (i ≡ j) → Dec (k ≡ j) → b.live Yes k i ⊎ b.live No k i
    votes i k x z ne q w (yes e) (yes e') = absurd (ne (e ∙ sym e'))
    votes i k x z ne q w (no e) (yes e') =
        subst (λ (k : ℕ). b.live Yes k i ⊎ b.live No k i) (sym e')
        (⊎_elim
        (λ w. ⊎_elim (λ m. inl (stay Yes j i e m)) (λ m. inr (stay No j i e m)) (u.votes (was_calm f) i j (h.runs i x) r e (subst QWP (h.st_other i e) q) w))
        (λ g. ⊎_elim (λ d. inl (came' Yes i d x (g.1.every i (h.runs i x) e))) (λ d. inr (came' No i d x (g.1.every i (h.runs i x) e))) g.0)
        (d.votes (subst WPAC h.st (subst (λ (k : ℕ). WPAC (b.st k)) e' w))))
    votes i k x z ne q w (yes e) (no e') =
        let q' : QWP (a.st j) = d.open_before (subst QWP h.st (subst (λ (i : ℕ). QWP (b.st i)) e q)) in
        subst (λ (i : ℕ). b.live Yes k i ⊎ b.live No k i) (sym e)
        (⊎_elim (λ m. inl (keep Yes k tt q' m)) (λ m. inr (keep No k tt q' m)) (u.votes (was_calm f) j k r (h.runs k z) (λ g. e' (sym g)) q' (subst WPAC (h.st_other k e') w)))
    votes i k x z ne q w (no e) (no e') =
        ⊎_elim (λ m. inl (stay Yes k i e m)) (λ m. inr (stay No k i e m)) (u.votes (was_calm f) i k (h.runs i x) (h.runs k z) ne (subst QWP (h.st_other i e) q) (subst WPAC (h.st_other k e') w))

    prepares : (i k : ℕ) → b.runs i → b.runs k → i ≢ k → QWP (b.st i) → PC (b.st k) → Dec (i ≡ j) → Dec (k ≡ j) → b.live Prepare k i
    prepares i k x z ne q w (yes e) (yes e') = absurd (ne (e ∙ sym e'))
    prepares i k x z ne q w (no e) (yes e') =
        subst (λ (k : ℕ). b.live Prepare k i) (sym e')
        (⊎_elim
        (λ w. stay Prepare j i e (u.prepares (was_calm f) i j (h.runs i x) r e (subst QWP (h.st_other i e) q) w))
        (λ g. came' Prepare i g.0 x (g.1.every i (h.runs i x) e))
        (d.prepares (subst PC h.st (subst (λ (k : ℕ). PC (b.st k)) e' w))))
    prepares i k x z ne q w (yes e) (no e') =
        let q' : QWP (a.st j) = d.open_before (subst QWP h.st (subst (λ (i : ℕ). QWP (b.st i)) e q)) in
        subst (λ (i : ℕ). b.live Prepare k i) (sym e) (keep Prepare k tt q' (u.prepares (was_calm f) j k r (h.runs k z) (λ g. e' (sym g)) q' (subst PC (h.st_other k e') w)))
    prepares i k x z ne q w (no e) (no e') =
        stay Prepare k i e (u.prepares (was_calm f) i k (h.runs i x) (h.runs k z) ne (subst QWP (h.st_other i e) q) (subst PC (h.st_other k e') w))

  pub peers_step : PeersOwed b
  peers_step =
      record {
        nobody = nobody;
        silent = silent;
        votes = λ f i k x z ne q w. votes f i k x z ne q w (ℕ_discrete i j) (ℕ_discrete k j);
        prepares = λ f i k x z ne q w. prepares f i k x z ne q w (ℕ_discrete i j) (ℕ_discrete k j);
      }
