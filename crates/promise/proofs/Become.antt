-- One site takes a new state and leader, and perhaps votes.
-- Assumes nothing.
use Prim.Native.Nat.{ℕ, ◌≤◌, ◌<◌}
use mathlib.Core.Path.{◌≡◌, refl, sym, subst}
use mathlib.Core.Logic.{◌≢◌, ◌⊎◌, inl, inr, ⊎_elim}
use native.Mathlib.Decide.{ℕ_discrete}
use native.Mathlib.Omega.{arith}
use Rattle.site.specs.declared.State.{State}
use Rattle.promise.proofs.Classes.{Kind, Ack, IsQ, IsW, IsA, IsC, PC, QW, QWA, Prepares, IsCommit, IsAbort, Stands, Relies, First, Leads, Onward, onward_stands, onward_relies, qw_not_a, qwa_not_c, pc_not_a, q_in_qw, a_in_qwa, c_in_pc}
use Rattle.promise.proofs.View.{View, Evidence, seen, told, EP, EA, EC, Open, Lead, Muted, Mute, MayPrepare, Decided, MayAbort, MayCommit, Safe, nobody, Inv}
use Rattle.promise.proofs.Less.{Votes}

-- What holds of j and of every other number holds of each.
pub by_site : (M : ℕ → Type 0) (j : ℕ) → M j → ((i : ℕ) → i ≢ j → M i) → (i : ℕ) → M i
by_site M j x y i = go (ℕ_discrete i j)
  where
    go : Dec (i ≡ j) → M i
    go (yes e) = subst M (sym e) x
    go (no ne) = y i ne

pick : {T : Type 0} {i j : ℕ} → Dec (i ≡ j) → T → T → T
pick (yes e) x y = x
pick (no e) x y = y

-- f with x at j
pub upd : {T : Type 0} → (ℕ → T) → ℕ → T → ℕ → T
upd f j x i = pick (ℕ_discrete i j) x (f i)

-- A family holds of every site after a change at j: of j with the new values, of the others as before.
pub each : (M : ℕ → State → ℕ → Type 0) (f : ℕ → State) (g : ℕ → ℕ) (j : ℕ) (s : State) (l : ℕ)
    → M j s l → ((i : ℕ) → i ≢ j → M i (f i) (g i)) → (i : ℕ) → M i (upd f j s i) (upd g j l i)
unfolding upd pick
each M f g j s l x y i = go (ℕ_discrete i j)
  where
    go : (d : Dec (i ≡ j)) → M i (pick d s (f i)) (pick d l (g i))
    go (yes e) = subst (λ (k : ℕ). M k s l) (sym e) x
    go (no e) = y i e

pub upd_same : {T : Type 0} (f : ℕ → T) (j : ℕ) (x : T) → upd f j x j ≡ x
unfolding upd pick
upd_same f j x = go (ℕ_discrete j j)
  where
    go : (d : Dec (j ≡ j)) → pick d x (f j) ≡ x
    go (yes e) = refl
    go (no e) = absurd (e refl)

pub upd_other : {T : Type 0} (f : ℕ → T) (j : ℕ) (x : T) (i : ℕ) → i ≢ j → upd f j x i ≡ f i
unfolding upd pick
upd_other f j x i ne = go (ℕ_discrete i j)
  where
    go : (d : Dec (i ≡ j)) → pick d x (f i) ≡ f i
    go (yes e) = absurd (ne e)
    go (no e) = refl

-- Site j is in state s and follows l; the votes given are w.
abbrev pub become : View → ℕ → State → ℕ → (ℕ → Type 0) → View
become a j s l w = record { by = a.by; runs = a.runs; stopped = a.stopped; st = upd a.st j s; ld = upd a.ld j l; voted = w; absent = a.absent; live = a.live }

-- What such a change has to respect.
pub record Fits (a : View) (j : ℕ) (s : State) (l : ℕ) (w : ℕ → Type 0) : Type 0 where
  pub run : a.runs j
  pub votes : Votes a j w
  -- the leader followed does not fall, and is not above j
  pub rise : a.ld j ≤ l
  pub own : l ≤ j
  -- j does not return to q, nor to its first phase; in w there it has voted
  pub left : IsQ s → IsQ (a.st j)
  pub unvoted : IsQ s → w j → ⊥
  pub first : First a.by j s l → First a.by j (a.st j) (a.ld j)
  pub waiting : First a.by j s l → IsW s → w j
  -- a leader goes onward
  pub lead : Lead a j → Onward (a.st j) s
  -- a leader that j acknowledged can still rely on it
  pub relied : (k : ℕ) → k ≢ j → a.runs k → a.live Ack j k → Relies (a.st k) k (a.st j) (a.ld j) → Relies (a.st k) k s l
  -- s is safe; where it is a, j gives no vote
  pub safe : Safe a s (λ i. i ≡ j)
  pub silent : IsA s → w j → a.voted j

module _ (a : View) (j : ℕ) (s : State) (l : ℕ) (w : ℕ → Type 0) (v : Inv a) (f : Fits a j s l w) where
  abbrev b : View
  b = become a j s l w

  all : (M : ℕ → State → ℕ → Type 0) → M j s l → ((i : ℕ) → i ≢ j → M i (a.st i) (a.ld i)) → (i : ℕ) → M i (b.st i) (b.ld i)
  all M = each M a.st a.ld j s l

  -- evidence is old, or the new state
  new : (S : State → Type 0) (K : Kind → Type 0) → Evidence S K b.st b.live → Evidence S K a.st a.live ⊎ S s
  new S K (seen i x) = all (λ k t m. S t → Evidence S K a.st a.live ⊎ S s) (λ x. inr x) (λ k _ x. inl (seen k x)) i x
  new S K (told κ k i c x) = inl (told κ k i c x)

  was_open : (i : ℕ) → Open b i → Open a i
  was_open i o = (o.0, all (λ i t m. First a.by i t m → First a.by i (a.st i) (a.ld i)) f.first (λ i _ x. x) i o.1)

  -- j is still open only in q or w
  open_j : (i : ℕ) → Open b i → i ≡ j → QW s
  open_j i o = all (λ i t m. First a.by i t m → i ≡ j → QW s) (λ x _. x.1) (λ i ne _ e. absurd (ne e)) i o.1

  muted_after : (exempt : ℕ → Type 0) → ((i : ℕ) → exempt i → (i ≡ j) × (IsQ s → ⊥) × (w j → a.voted j)) → (k : ℕ) → Muted a exempt k → Muted b nobody k
  muted_after exempt h k u =
      record {
        silent = λ x. ⊎_elim u.silent (λ e. speaks x e) (f.votes.new k x);
        past = λ r. all (λ i t m. (IsQ (a.st i) → exempt i) → IsQ t → ⊥) (λ g q. (h j (g (f.left q))).1 q) (λ i ne g q. ne (h i (g q)).0) k (u.past r);
      }
    where
      speaks : w k → (k ≡ j) × IsQ (a.st j) → ⊥
      speaks x e = u.silent (rw e.0 ((h k (u.past (rw e.0 f.run) (rw e.0 e.1))).2 (rw e.0 at x)))

  mute_after : (exempt : ℕ → Type 0) → ((i : ℕ) → exempt i → (i ≡ j) × (IsQ s → ⊥) × (w j → a.voted j)) → Mute a exempt → Mute b nobody
  mute_after exempt h u = record { site = u.site; muted = muted_after exempt h u.site u.muted }

  prepare : EP a ⊎ PC s → MayPrepare b
  prepare (inl e) i = f.votes.old i (v.prepared e i)
  prepare (inr c) i = f.votes.old i (f.safe.prepared c i)

  -- what holds where some site decided stays so where it holds of s
  keep : {S : State → Type 0} {κ : Kind} {E F : Type 0} → Decided a S κ E → S s → (F → ⊥) → Decided b S κ F
  keep {S} {κ} o q x =
      record {
        each = all (λ i t m. a.runs i → S t) (λ r. q) (λ i _. o.each i);
        deaf = λ k i m. all (λ i t l. a.live κ k i → a.runs i → k < l)
            (λ m r. let d : k < a.ld j = o.deaf k j m r in let u : a.ld j ≤ l = f.rise in omega arith) (λ i _. o.deaf k i) i m;
        apart = x;
      }

  keep_a : (exempt : ℕ → Type 0) → ((i : ℕ) → exempt i → (i ≡ j) × (IsQ s → ⊥) × (w j → a.voted j)) → ((i : ℕ) → exempt i → QW s → ⊥)
      → MayAbort a exempt → QWA s → (EC b → ⊥) → MayAbort b nobody
  keep_a exempt h h' o q x =
      record {
        decided = keep o.decided q x;
        barred = λ i y. ⊎_elim (λ e. absurd (h' i e (open_j i y (h i e).0))) (λ u. inr (mute_after exempt h u)) (o.barred i (was_open i y));
      }

  abort : EA a ⊎ IsA s → MayAbort b nobody
  abort (inl e) = keep_a nobody (λ i x. absurd x) (λ i x. absurd x) (v.aborted e) (f.safe.beside_a e) (λ c. ⊎_elim (v.aborted e).decided.apart (qwa_not_c s (f.safe.beside_a e)) (new IsC IsCommit c))
  abort (inr e) =
      keep_a (λ i. i ≡ j) (λ i y. (y, λ q. qw_not_a s (q_in_qw s q) e, f.silent e)) (λ i _ q. qw_not_a s q e) (f.safe.aborted e) (a_in_qwa s e)
      (λ c. ⊎_elim (f.safe.aborted e).decided.apart (qwa_not_c s (a_in_qwa s e)) (new IsC IsCommit c))

  commit : EC a ⊎ IsC s → MayCommit b
  commit (inl e) = keep (v.committed e) (f.safe.beside_c e) (λ c. ⊎_elim (v.committed e).apart (pc_not_a s (f.safe.beside_c e)) (new IsA IsAbort c))
  commit (inr e) = keep (f.safe.committed e) (c_in_pc s e) (λ c. ⊎_elim (f.safe.committed e).apart (pc_not_a s (c_in_pc s e)) (new IsA IsAbort c))

  own_leader : Lead a j → l ≡ j
  own_leader h = let e : a.ld j ≡ j = h.0 in let u : a.ld j ≤ l = f.rise in let d : l ≤ j = f.own in omega arith

  still_leads : Lead a j → Leads a.by j s l
  still_leads h = (own_leader h, λ x. h.1 (f.first x))

  pub become_inv : Inv b
  become_inv =
      record {
        site = v.site;
        low = all (λ i t m. m ≤ i) f.own (λ i _. v.low i);
        up = v.up;
        down = v.down;
        lowest = v.lowest;
        unvoted = all (λ i t m. a.runs i → IsQ t → w i → ⊥) (λ r. f.unvoted) (λ i ne r q x. ⊎_elim (v.unvoted i r q) (λ e. ne e.0) (f.votes.new i x));
        waiting = λ i o. all (λ i t m. a.runs i × First a.by i t m → IsW t → w i) (λ o. f.waiting o.1) (λ i _ o q. f.votes.old i (v.waiting i o q)) i o;
        yes = λ k i x. f.votes.old k (v.yes k i x);
        no = λ k i x. muted_after nobody (λ i e. absurd e) k (v.no k i x);
        orders = λ κ k i o x. all (λ k t m. a.live κ k i → a.runs k → Leads a.by k t m × Stands κ t)
            (λ x r. let h = v.orders κ j i o x r in (still_leads h.0, onward_stands (f.lead h.0) κ h.1))
            (λ k _ x. v.orders κ k i o x) k x;
        leader = λ k i x. all (λ k t m. a.live Ack i k → a.runs k → Leads a.by k t m) (λ x r. still_leads (v.leader j i x r)) (λ k _ x. v.leader k i x) k x;
        follower = λ k i x. all (λ k t m. a.live Ack i k → a.runs k → a.runs i → Relies t k (b.st i) (b.ld i))
            (λ x r. all (λ i t m. a.live Ack i j → a.runs i → Relies s j t m)
            (λ x _. let h : j < j = v.down j j x in absurd (omega arith))
            (λ i _ x y. onward_relies (f.lead (v.leader j i x r)) (a.st i) j (a.ld i) (v.follower j i x r y)) i x)
            (λ k ne x r. all (λ i t m. a.live Ack i k → a.runs i → Relies (a.st k) k t m)
            (λ x y. f.relied k ne r x (v.follower k j x r y))
            (λ i _ x y. v.follower k i x r y) i x) k x;
        prepared = λ e. prepare (new PC Prepares e);
        aborted = λ e. abort (new IsA IsAbort e);
        committed = λ e. commit (new IsC IsCommit e);
      }
