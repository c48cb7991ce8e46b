-- The changes of one site that the rules make, each fit for the invariant.
-- Assumes nothing.
use Prim.Native.Nat.{ℕ, ◌≤◌, ◌<◌}
use mathlib.Core.Path.{◌≡◌, subst}
use mathlib.Core.Logic.{◌≢◌, ◌⊎◌, inr, ⊎_elim}
use native.Mathlib.Decide.{dec_lt}
use native.Mathlib.Omega.{arith}
use Rattle.site.specs.declared.State.{State}
use Rattle.site.specs.declared.State.TheVariants.{Q, W, P, A, C}
use Rattle.promise.proofs.Classes.{Kind, MoveP, MoveW, Ack, IsQ, IsA, WA, PC, QWA, Order, Stands, Relies, Early, First, early_before, Onward, stays, drops, gives_up, commits, relies_if, pc_not_qwa, pc_not_wa, pc_not_q, c_in_pc, rest_in_qwa}
use Rattle.promise.proofs.View.{View, seen, told, EP, EA, EC, Open, Lead, Muted, Mute, MayPrepare, MayAbort, MayCommit, Safe, nobody, Inv}
use Rattle.promise.proofs.Less.{Votes}
use Rattle.promise.proofs.Become.{Fits}

-- Where nobody is exempt, j may be.
module _ (a : View) (j : ℕ) where
  abbrev pub self : ℕ → Type 0
  self i = i ≡ j

  pub ease_muted : (k : ℕ) → Muted a nobody k → Muted a self k
  ease_muted k u = record { silent = u.silent; past = λ r q. absurd (u.past r q) }

  pub ease_abort : MayAbort a nobody → MayAbort a self
  ease_abort p =
      record {
        decided = p.decided;
        barred = λ i o. ⊎_elim (λ e. absurd e) (λ u. inr (record { site = u.site; muted = ease_muted u.site u.muted })) (p.barred i o);
      }

  pub ease : {s : State} → Safe a s nobody → Safe a s self
  ease h = record { prepared = h.prepared; aborted = λ p. ease_abort (h.aborted p); committed = h.committed; beside_a = h.beside_a; beside_c = h.beside_c }

  -- the state of a running site is safe
  pub standing : Inv a → a.runs j → Safe a (a.st j) nobody
  standing v r =
      record {
        prepared = λ p. v.prepared (seen j p);
        aborted = λ p. v.aborted (seen j p);
        committed = λ p. v.committed (seen j p);
        beside_a = λ e. (v.aborted e).decided.each j r;
        beside_c = λ e. (v.committed e).each j r;
      }

-- When each state but q is safe.
module _ (a : View) {x : ℕ → Type 0} where
  pub safe_w : (EC a → ⊥) → Safe a W x
  safe_w n = record { prepared = λ e. absurd e; aborted = λ e. absurd e; committed = λ e. absurd e; beside_a = λ _. tt; beside_c = n }

  pub safe_p : MayPrepare a → (EA a → ⊥) → Safe a P x
  safe_p p n = record { prepared = λ _. p; aborted = λ e. absurd e; committed = λ e. absurd e; beside_a = n; beside_c = λ _. tt }

  pub safe_a : MayAbort a x → Safe a A x
  safe_a o = record { prepared = λ e. absurd e; aborted = λ _. o; committed = λ e. absurd e; beside_a = λ _. tt; beside_c = o.decided.apart }

  pub safe_c : MayPrepare a → MayCommit a → Safe a C x
  safe_c p o = record { prepared = λ _. p; aborted = λ e. absurd e; committed = λ _. o; beside_a = o.apart; beside_c = λ _. tt }

pub c_is_p : (a : View) → EC a → EP a
c_is_p a (seen i x) = seen i (c_in_pc (a.st i) x)
c_is_p a (told κ k j c x) = told κ k j (rw c tt) x

-- Where nothing was prepared, an abort of j is safe if it bars what is open.
pub unprepared : (a : View) (j : ℕ) → (EP a → ⊥) → ((i : ℕ) → Open a i → (i ≡ j) ⊎ Mute a (λ i. i ≡ j)) → MayAbort a (λ i. i ≡ j)
unprepared a j h b =
    record {
      decided = record { each = λ i _. rest_in_qwa (a.st i) (λ p. h (seen i p)); deaf = λ k i m _. absurd (h (told MoveP k i tt m)); apart = λ e. h (c_is_p a e) };
      barred = b;
    }

-- Site j comes to follow l, and to be in state s: who could rely on it still can, where s is in the class that counts for the one who relies.
still_relies : (a : View) (j l : ℕ) → a.ld j ≤ l → (s : State) (k : ℕ) → (a.st k ≡ W → k ≤ a.ld j → WA (a.st j) → WA s) → (a.st k ≡ P → k ≤ a.ld j → PC (a.st j) → PC s)
    → Relies (a.st k) k (a.st j) (a.ld j) → Relies (a.st k) k s l
still_relies a j l rise s k f g h =
    relies_if (a.st k) k s l
    (λ e. let x : (k ≤ a.ld j) × WA (a.st j) = relied e in (omega (arith, x.0), f e x.0 x.1))
    (λ e. let x : (k ≤ a.ld j) × PC (a.st j) = relied e in (omega (arith, x.0), g e x.0 x.1))
  where
    relied : {t : State} → a.st k ≡ t → Relies t k (a.st j) (a.ld j)
    relied e = subst (λ (t : State). Relies t k (a.st j) (a.ld j)) e h

-- Site j runs and changes to a state of some class, following l.
module _ (a : View) (j l : ℕ) (w : ℕ → Type 0) (v : Inv a) (r : a.runs j) (g : Votes a j w) (rise : a.ld j ≤ l) (own : l ≤ j) where
  -- who is left to the first phase afterwards was so before
  earlier : Early a.by j l → Early a.by j (a.ld j)
  earlier = early_before a.by j (a.ld j) l rise

  -- the state stays
  pub fits_same : (w j → a.voted j) → Safe a (a.st j) (λ i. i ≡ j) → Fits a j (a.st j) l w
  fits_same quiet o =
      record {
        run = r;
        votes = g;
        rise = rise;
        own = own;
        left = λ q. q;
        unvoted = λ q x. v.unvoted j r q (quiet x);
        first = λ f. (earlier f.0, f.1);
        waiting = λ f q. g.old j (v.waiting j (r, (earlier f.0, f.1)) q);
        lead = λ _. stays;
        relied = λ k _ _ _. still_relies a j l rise (a.st j) k (λ _ _ x. x) (λ _ _ x. x);
        safe = o;
        silent = λ _. quiet;
      }

  -- who relied on j can rely on it in state s
  abbrev Relied : State → Type 0
  Relied s = (k : ℕ) → k ≢ j → a.runs k → a.live Ack j k → Relies (a.st k) k (a.st j) (a.ld j) → Relies (a.st k) k s l

  -- to another state than q
  fits_to : (s : State) → (IsQ s → ⊥) → (First a.by j s l → First a.by j (a.st j) (a.ld j)) → (First a.by j s l → w j) → (Lead a j → Onward (a.st j) s) → Relied s → (IsA s → w j → a.voted j)
      → Safe a s (λ i. i ≡ j) → Fits a j s l w
  fits_to s n first waiting lead relied silent safe =
      record {
        run = r;
        votes = g;
        rise = rise;
        own = own;
        left = λ q. absurd (n q);
        unvoted = λ q. absurd (n q);
        first = first;
        waiting = λ f _. waiting f;
        lead = lead;
        relied = relied;
        safe = safe;
        silent = silent;
      }

  -- to a
  onward_a : (s : State) → QWA s → Onward s A
  onward_a Q x = drops
  onward_a W x = gives_up
  onward_a P x = absurd x
  onward_a A x = stays
  onward_a C x = absurd x

  pub fits_a : QWA (a.st j) → (w j → a.voted j) → Safe a A (λ i. i ≡ j) → Fits a j A l w
  fits_a q quiet =
      fits_to A (λ e. e) (λ f. absurd f.1) (λ f. absurd f.1) (λ _. onward_a (a.st j) q)
      (λ k _ _ _. still_relies a j l rise A k (λ _ _ _. tt) (λ _ _ x. absurd (pc_not_qwa (a.st j) x q))) (λ _. quiet)

  -- to c
  onward_c : (s : State) → PC s → Onward s C
  onward_c Q x = absurd x
  onward_c W x = absurd x
  onward_c P x = commits
  onward_c A x = absurd x
  onward_c C x = stays

  pub fits_c : PC (a.st j) → Safe a C (λ i. i ≡ j) → Fits a j C l w
  fits_c q =
      fits_to C (λ e. e) (λ f. absurd f.1) (λ f. absurd f.1) (λ _. onward_c (a.st j) q)
      (λ k _ _ _. still_relies a j l rise C k (λ _ _ x. absurd (pc_not_wa (a.st j) q x)) (λ _ _ _. tt)) (λ e. absurd e)

  -- to w or p, at a site that does not lead
  pub fits_w : (Early a.by j l → First a.by j (a.st j) (a.ld j)) → (Early a.by j l → w j) → (Lead a j → ⊥) → Relied W → Safe a W (λ i. i ≡ j) → Fits a j W l w
  fits_w first waiting idle relied = fits_to W (λ e. e) (λ f. first f.0) (λ f. waiting f.0) (λ h. absurd (idle h)) relied (λ e. absurd e)

  pub fits_p : (Lead a j → ⊥) → Relied P → Safe a P (λ i. i ≡ j) → Fits a j P l w
  fits_p idle relied = fits_to P (λ e. e) (λ f. absurd f.1) (λ f. absurd f.1) (λ h. absurd (idle h)) relied (λ e. absurd e)

  -- who relies on a site that follows nobody does so for nothing
  pub relies_none : (s : State) (k : ℕ) → a.ld j ≡ 0 → a.runs k → Relies (a.st k) k (a.st j) (a.ld j) → Relies (a.st k) k s l
  relies_none s k e x = still_relies a j l rise s k (λ _ q _. absurd (high q)) (λ _ q _. absurd (high q))
    where
      high : k ≤ a.ld j → ⊥
      high q = let c : 1 ≤ k = v.site k x in omega arith

  -- in q a site acknowledged nobody that waits for p
  pub relies_q : (k : ℕ) → IsQ (a.st j) → Relies (a.st k) k (a.st j) (a.ld j) → Relies (a.st k) k W l
  relies_q k q = still_relies a j l rise W k (λ _ _ _. tt) (λ _ _ x. absurd (pc_not_q (a.st j) x q))

-- An order of k that j obeys: a running site i that j follows, or that is below it, is k, and stands as the order says.
module _ (a : View) (k j : ℕ) (v : Inv a) (rise : a.ld j ≤ k) where
  pub obeyed : (κ : Kind) → Order κ → a.live κ k j → (i : ℕ) → i ≤ a.ld j → a.runs i → Stands κ (a.st i)
  obeyed κ o m i h x = go (dec_lt i k)
    where
      go : Dec (i < k) → Stands κ (a.st i)
      go (yes q) = absurd (v.lowest κ k j o m i q x)
      go (no q) = subst (λ (i : ℕ). Stands κ (a.st i)) e (v.orders κ k j o m (rw e x)).1
        where
          e : k ≡ i
          e = omega arith

  pub obey_p : a.live MoveP k j → (i : ℕ) → a.runs i → Relies (a.st i) i (a.st j) (a.ld j) → Relies (a.st i) i P k
  obey_p m i x = still_relies a j k rise P i (λ e h _. absurd (rw e at (obeyed MoveP tt m i h x))) (λ _ _ _. tt)

  pub obey_w : a.live MoveW k j → (i : ℕ) → a.runs i → Relies (a.st i) i (a.st j) (a.ld j) → Relies (a.st i) i W k
  obey_w m i x = still_relies a j k rise W i (λ _ _ _. tt) (λ e h _. absurd (rw e at (obeyed MoveW tt m i h x)))
