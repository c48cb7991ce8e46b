-- What only takes away keeps the invariant: lost messages, stops, and the votes that a stop still lets out.
-- Assumes nothing.
use Prim.Native.Nat.{ℕ}
use mathlib.Core.Path.{◌≡◌, refl, subst, fun_ext}
use mathlib.Core.Logic.{◌≢◌, ◌⊎◌, inl, inr, ⊎_elim}
use Rattle.site.specs.declared.State.{State}
use Rattle.promise.proofs.Classes.{Protocol, Kind, Yes, No, Ack, IsQ}
use Rattle.promise.proofs.View.{View, Evidence, seen, told, Open, Muted, Mute, Decided, MayAbort, MayCommit, nobody, Inv}

-- b is a with fewer running sites and live messages, the same states and leaders, and the same votes but for those of sites that stop in q.
pub record Less (b a : View) : Type 0 where
  pub by : a.by ≡ b.by
  pub absent : (i : ℕ) → b.absent i → a.absent i
  pub st : (i : ℕ) → a.st i ≡ b.st i
  pub ld : (i : ℕ) → a.ld i ≡ b.ld i
  pub runs : (i : ℕ) → b.runs i → a.runs i
  pub old : (i : ℕ) → a.voted i → b.voted i
  pub new : (i : ℕ) → b.voted i → a.voted i ⊎ (a.runs i × IsQ (a.st i) × (b.runs i → ⊥))
  pub live : (κ : Kind) (k j : ℕ) → b.live κ k j → a.live κ k j

module _ (a b : View) (h : Less b a) where
  -- b, written with the states and leaders of a
  abbrev with_a : Protocol → (ℕ → State) → (ℕ → ℕ) → View
  with_a p s l = record { by = p; runs = b.runs; stopped = b.stopped; st = s; ld = l; voted = b.voted; absent = b.absent; live = b.live }

  abbrev m : View
  m = with_a a.by a.st a.ld

  less_evidence : {S : State → Type 0} {K : Kind → Type 0} → Evidence S K a.st b.live → Evidence S K a.st a.live
  less_evidence (seen i x) = seen i x
  less_evidence (told κ k j c x) = told κ k j c (h.live κ k j x)

  less_open : (j : ℕ) → Open m j → Open a j
  less_open j o = (h.runs j o.0, o.1)

  less_decided : {S T : State → Type 0} {κ : Kind} {K : Kind → Type 0} → Decided a S κ (Evidence T K a.st a.live) → Decided m S κ (Evidence T K a.st b.live)
  less_decided {κ = κ} p =
      record { each = λ j r. p.each j (h.runs j r); deaf = λ k j x r. p.deaf k j (h.live κ k j x) (h.runs j r); apart = λ e. p.apart (less_evidence e) }

  -- an exempt site runs no more, and gives no vote in stopping
  module _ (exempt : ℕ → Type 0) (out : (i : ℕ) → exempt i → b.runs i → ⊥) (dumb : (i : ℕ) → exempt i → b.voted i → a.voted i) where
    less_muted : (k : ℕ) → Muted a exempt k → Muted m nobody k
    less_muted k u =
        record {
          silent = λ x. u.silent (⊎_elim (λ y. y) (λ y. dumb k (u.past y.0 y.1) x) (h.new k x));
          past = λ r q. out k (u.past (h.runs k r) q) r;
        }

    less_mute : Mute a exempt → Mute m nobody
    less_mute u = record { site = u.site; muted = less_muted u.site u.muted }

    less_abort : MayAbort a exempt → MayAbort m nobody
    less_abort p =
        record { decided = less_decided p.decided; barred = λ j o. ⊎_elim (λ e. absurd (out j e o.0)) (λ u. inr (less_mute u)) (p.barred j (less_open j o)) }

  less_m : Inv a → Inv m
  less_m v =
      record {
        site = λ i r. v.site i (h.runs i r);
        low = v.low;
        up = λ κ k j o x. v.up κ k j o (h.live κ k j x);
        down = λ k j x. v.down k j (h.live Ack j k x);
        lowest = λ κ k j o x i l r. v.lowest κ k j o (h.live κ k j x) i l (h.runs i r);
        unvoted = λ j r q w. ⊎_elim (v.unvoted j (h.runs j r) q) (λ y. y.2 r) (h.new j w);
        waiting = λ j o w. h.old j (v.waiting j (less_open j o) w);
        yes = λ k j x. h.old k (v.yes k j (h.live Yes k j x));
        no = λ k j x. less_muted nobody (λ i e. absurd e) (λ i e. absurd e) k (v.no k j (h.live No k j x));
        orders = λ κ k j o x r. v.orders κ k j o (h.live κ k j x) (h.runs k r);
        leader = λ k j x r. v.leader k j (h.live Ack j k x) (h.runs k r);
        follower = λ k j x r t. v.follower k j (h.live Ack j k x) (h.runs k r) (h.runs j t);
        prepared = λ e j. h.old j (v.prepared (less_evidence e) j);
        aborted = λ e. less_abort nobody (λ i x. absurd x) (λ i x. absurd x) (v.aborted (less_evidence e));
        committed = λ e. less_decided (v.committed (less_evidence e));
      }

  pub less : Inv a → Inv b
  less v = subst Inv (λ i. with_a (h.by i) (fun_ext h.st i) (fun_ext h.ld i)) (less_m v)

-- Site k stops; the votes given are then w.
abbrev pub stop : View → ℕ → (ℕ → Type 0) → View
stop a k w = record { by = a.by; runs = λ i. a.runs i × (i ≢ k); stopped = λ i. a.stopped i ⊎ (i ≡ k); st = a.st; ld = a.ld; voted = w; absent = a.absent; live = a.live }

-- the votes w are those of a, perhaps with that of a running site j in q
pub record Votes (a : View) (j : ℕ) (w : ℕ → Type 0) : Type 0 where
  pub old : (i : ℕ) → a.voted i → w i
  pub new : (i : ℕ) → w i → a.voted i ⊎ ((i ≡ j) × IsQ (a.st j))

module _ (a : View) (k : ℕ) (w : ℕ → Type 0) (r : a.runs k) (g : Votes a k w) where
  pub stop_less : Less (stop a k w) a
  stop_less =
      record {
        by = refl;
        absent = λ i x. x;
        st = λ i. refl;
        ld = λ i. refl;
        runs = λ i x. x.0;
        old = g.old;
        new = λ i x. ⊎_elim (λ y. inl y) (λ e. inr (rw e.0 r, rw e.0 e.1, λ y. y.1 e.0)) (g.new i x);
        live = λ κ i j x. x;
      }

  pub stop_inv : Inv a → Inv (stop a k w)
  stop_inv = less a (stop a k w) stop_less

  abbrev self : ℕ → Type 0
  self i = i ≡ k

  -- what k may order, in the run from which it has just stopped
  module _ (same : w k → a.voted k) where
    dumb : (i : ℕ) → i ≡ k → w i → a.voted i
    dumb i e x = rw e (same (rw e at x))

    pub stop_abort : MayAbort a self → MayAbort (stop a k w) nobody
    stop_abort = less_abort a (stop a k w) stop_less self (λ i e x. x.1 e) dumb

    pub stop_commit : MayCommit a → MayCommit (stop a k w)
    stop_commit = less_decided a (stop a k w) stop_less
