-- One site's messages of one kind become live.
-- Assumes nothing.
use Prim.Native.Nat.{ℕ, ◌<◌}
use mathlib.Core.Path.{◌≡◌, sym, subst}
use mathlib.Core.Logic.{◌⊎◌, inl, inr, ⊎_elim}
use Rattle.site.specs.declared.State.{State}
use Rattle.promise.proofs.Classes.{Kind, Yes, No, MoveP, Ack, IsA, IsC, PC, Order, Prepares, Yields, IsYes, IsNo, IsAck, IsCommit, IsAbort, at_order, Stands, Relies, prepares_order, yields_order, pc_not_qwa, pc_not_wa}
use Rattle.promise.proofs.View.{View, Evidence, seen, told, EP, EA, EC, Lead, Lowest, Muted, Mute, MayPrepare, Decided, MayAbort, MayCommit, Safe, nobody, Inv}

-- Messages of kind κ from k to the sites of R, beside the live ones.
abbrev pub send : View → Kind → ℕ → (ℕ → Type 0) → View
send a κ k R = record { by = a.by; runs = a.runs; stopped = a.stopped; st = a.st; ld = a.ld; voted = a.voted; absent = a.absent; live = λ κ' i j. a.live κ' i j ⊎ ((κ ≡ κ') × (k ≡ i) × R j) }

-- What messages of kind κ from k to the sites of R have to respect.
pub record May (a : View) (κ : Kind) (k : ℕ) (R : ℕ → Type 0) : Type 0 where
  -- an order goes up, from the lowest running site, which leads and is in a state that goes with it, and is safe
  pub up : Order κ → (j : ℕ) → R j → k < j
  pub lowest : Order κ → Lowest a k
  pub orders : Order κ → a.runs k → Lead a k × Stands κ (a.st k)
  pub ready : Order κ → Safe a (at_order κ) nobody
  -- a Yes comes from a site that has voted
  pub yes : IsYes κ → (j : ℕ) → R j → a.voted k
  -- a No comes from a site that will never have voted
  pub no : IsNo κ → Muted a nobody k
  -- an acknowledgement goes to a lower leader, which can rely on it
  pub ack : IsAck κ → (i : ℕ) → R i → (i < k) × (a.runs i → Lead a i) × (a.runs i → a.runs k → Relies (a.st i) i (a.st k) (a.ld k))

module _ (a : View) (κ : Kind) (k : ℕ) (R : ℕ → Type 0) (v : Inv a) (m : May a κ k R) where
  abbrev b : View
  b = send a κ k R

  -- what holds of live messages of a kind holds of the new ones
  msg : (κ' : Kind) (M : ℕ → ℕ → Type 0) → ((i j : ℕ) → a.live κ' i j → M i j) → (κ ≡ κ' → (j : ℕ) → R j → M k j) → (i j : ℕ) → b.live κ' i j → M i j
  msg κ' M f g i j (inl x) = f i j x
  msg κ' M f g i j (inr x) = subst (λ (i : ℕ). M i j) x.1 (g x.0 j x.2)

  ord : (M : Kind → ℕ → ℕ → Type 0) → ((κ : Kind) (i j : ℕ) → Order κ → a.live κ i j → M κ i j) → (Order κ → (j : ℕ) → R j → M κ k j)
      → (κ' : Kind) (i j : ℕ) → Order κ' → b.live κ' i j → M κ' i j
  ord M f g κ' i j o = msg κ' (M κ') (λ i j. f κ' i j o) (λ e j r. subst (λ (c : Kind). M c k j) e (g (subst Order (sym e) o) j r)) i j

  -- evidence is old, or the new messages
  new : (S : State → Type 0) (K : Kind → Type 0) → Evidence S K b.st b.live → Evidence S K a.st a.live ⊎ K κ
  new S K (seen i x) = inl (seen i x)
  new S K (told κ' i j c (inl x)) = inl (told κ' i j c x)
  new S K (told κ' i j c (inr x)) = inr (subst K (sym x.0) c)

  -- what is safe with the evidence and the live messages that there are is safe with the new ones
  muted : (k : ℕ) → Muted a nobody k → Muted b nobody k
  muted k u = record { silent = u.silent; past = u.past }

  mute : Mute a nobody → Mute b nobody
  mute u = record { site = u.site; muted = muted u.site u.muted }

  decided : {S : State → Type 0} {κ' : Kind} {E F : Type 0} → (κ ≡ κ' → ⊥) → (F → ⊥) → Decided a S κ' E → Decided b S κ' F
  decided {κ' = κ'} n x p = record { each = p.each; deaf = msg κ' (λ i j. a.runs j → i < a.ld j) p.deaf (λ e. absurd (n e)); apart = x }

  abort : (κ ≡ MoveP → ⊥) → (EC b → ⊥) → MayAbort a nobody → MayAbort b nobody
  abort n x p = record { decided = decided n x p.decided; barred = λ j o. ⊎_elim (λ e. inl e) (λ u. inr (mute u)) (p.barred j o) }

  beside_p : EA a → Prepares κ → ⊥
  beside_p e c = pc_not_qwa (at_order κ) c ((m.ready (prepares_order κ c)).beside_a e)

  beside_y : EC a → Yields κ → ⊥
  beside_y e c = pc_not_wa (at_order κ) ((m.ready (yields_order κ c)).beside_c e) c

  prepared_after : EP a ⊎ Prepares κ → MayPrepare b
  prepared_after (inl e) = v.prepared e
  prepared_after (inr c) = (m.ready (prepares_order κ c)).prepared c

  aborted_after : EA a ⊎ IsAbort κ → MayAbort b nobody
  aborted_after (inl e) =
      abort (λ c. beside_p e (rw c tt)) (λ x. ⊎_elim (v.aborted e).decided.apart (λ c. beside_p e (rw c tt)) (new IsC IsCommit x)) (v.aborted e)
  aborted_after (inr c) =
      let p : MayAbort a nobody = (m.ready (rw c tt)).aborted (rw c tt) in
      abort (λ d. subst Yields d (rw c tt)) (λ x. ⊎_elim p.decided.apart (λ d. subst Yields d (rw c tt)) (new IsC IsCommit x)) p

  committed_after : EC a ⊎ IsCommit κ → MayCommit b
  committed_after (inl e) =
      decided (λ c. beside_y e (rw c tt)) (λ x. ⊎_elim (v.committed e).apart (λ c. beside_y e (rw c tt)) (new IsA IsAbort x)) (v.committed e)
  committed_after (inr c) =
      let p : MayCommit a = (m.ready (rw c tt)).committed (rw c tt) in
      decided (λ d. subst Prepares d (rw c tt)) (λ x. ⊎_elim p.apart (λ d. subst Prepares d (rw c tt)) (new IsA IsAbort x)) p

  pub send_inv : Inv b
  send_inv =
      record {
        site = v.site;
        low = v.low;
        up = ord (λ _ i j. i < j) v.up m.up;
        down = λ i j. msg Ack (λ j i. i < j) (λ j i. v.down i j) (λ e i r. (m.ack (rw e tt) i r).0) j i;
        lowest = ord (λ _ i j. Lowest a i) v.lowest (λ o j r. m.lowest o);
        unvoted = v.unvoted;
        waiting = v.waiting;
        yes = msg Yes (λ i j. a.voted i) v.yes (λ e. m.yes (rw e tt));
        no = msg No (λ i j. Muted b nobody i) (λ i j x. muted i (v.no i j x)) (λ e j r. muted k (m.no (rw e tt)));
        orders = ord (λ κ i j. a.runs i → Lead a i × Stands κ (a.st i)) v.orders (λ o j r. m.orders o);
        leader = λ i j. msg Ack (λ j i. a.runs i → Lead a i) (λ j i. v.leader i j) (λ e i r. (m.ack (rw e tt) i r).1) j i;
        follower = λ i j. msg Ack (λ j i. a.runs i → a.runs j → Relies (a.st i) i (a.st j) (a.ld j)) (λ j i. v.follower i j) (λ e i r. (m.ack (rw e tt) i r).2) j i;
        prepared = λ e. prepared_after (new PC Prepares e);
        aborted = λ e. aborted_after (new IsA IsAbort e);
        committed = λ e. committed_after (new IsC IsCommit e);
      }
