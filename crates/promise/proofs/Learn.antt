-- A site that has stopped takes over the state of another: an enquiry of a returned site. What every run keeps is kept, in both protocols, with no clause of its own.
-- Assumes nothing.
use Prim.Native.Nat.{ℕ}
use mathlib.Core.Path.{◌≡◌, subst}
use mathlib.Core.Logic.{inl, inr, ⊎_elim}
use Rattle.site.specs.declared.State.{State}
use Rattle.promise.proofs.Classes.{Kind}
use Rattle.promise.proofs.View.{View, Evidence, seen, told, Open, Muted, Decided, nobody, Inv}
use Rattle.promise.proofs.First.{Left, nowhere, written, standing, Dead, Yielded, aborted, moved, waits, Own}
use Rattle.promise.proofs.Become.{by_site, upd, upd_same, upd_other}
use Rattle.promise.proofs.Kept.{Kept}

-- Site k is in state s.
abbrev pub learn : View → ℕ → State → View
learn a k s = record { by = a.by; runs = a.runs; stopped = a.stopped; absent = a.absent; st = upd a.st k s; ld = a.ld; voted = a.voted; live = a.live }

module _ (a : View) (k o : ℕ) (gone : a.runs k → ⊥) where
  abbrev b : View
  b = learn a k (a.st o)

  stay : (i : ℕ) → a.runs i → b.st i ≡ a.st i
  stay i x = upd_other a.st k (a.st o) i (λ e. gone (subst a.runs e x))

  was : {S : State → Type 0} {K : Kind → Type 0} → Evidence S K b.st b.live → Evidence S K a.st a.live
  was {S} {K} (seen i x) =
      by_site (λ i. S (b.st i) → Evidence S K a.st a.live) k (λ x. seen o (subst S (upd_same a.st k (a.st o)) x)) (λ i ne x. seen i (subst S (upd_other a.st k (a.st o) i ne) x)) i x
  was (told κ i j c x) = told κ i j c x

  was_open : (j : ℕ) → Open b j → Open a j
  was_open j x = (x.0, rw (stay j x.0) at x.1)

  muted : (i : ℕ) → Muted a nobody i → Muted b nobody i
  muted i u = record { silent = u.silent; past = λ x q. u.past x (rw (stay i x) at q) }

  decided : {S : State → Type 0} {κ : Kind} {E F : Type 0} → (F → E) → Decided a S κ E → Decided b S κ F
  decided f d = record { each = λ j x. rw (stay j x) (d.each j x); deaf = d.deaf; apart = λ e. d.apart (f e) }

  learn_inv : Inv a → Inv b
  learn_inv v =
      record {
        site = v.site;
        low = v.low;
        up = v.up;
        down = v.down;
        lowest = v.lowest;
        unvoted = λ j x q. v.unvoted j x (rw (stay j x) at q);
        waiting = λ j x w. v.waiting j (was_open j x) (rw (stay j x.0) at w);
        yes = v.yes;
        no = λ i j m. muted i (v.no i j m);
        orders = λ κ i j c m x. rw (stay i x) (v.orders κ i j c m x);
        leader = λ i j m x. rw (stay i x) (v.leader i j m x);
        follower = λ i j m x y. rw (stay i x, stay j y) (v.follower i j m x y);
        prepared = λ e. v.prepared (was e);
        aborted = λ e. let d = v.aborted (was e) in
            record { decided = decided was d.decided; barred = λ j x. ⊎_elim (λ z. inl z) (λ u. inr (record { site = u.site; muted = muted u.site u.muted })) (d.barred j (was_open j x)) };
        committed = λ e. decided was (v.committed (was e));
      }

  was_left : (i : ℕ) → Left b i → Left a i
  was_left i (nowhere x) = nowhere x
  was_left i (written j m) = written j m
  was_left i (standing x e q) = standing x e (rw (stay i x) at q)

  yielded : Yielded b → Yielded a
  yielded (aborted e) = aborted (was e)
  yielded (moved i j m) = moved i j m
  yielded (waits j x h q) = waits j x h (rw (stay j x) at q)

  still : Dead a → Dead b
  still u = record { site = u.site; unprepared = λ x. u.unprepared (was_left u.site x); past = λ x e. rw (stay u.site x) (u.past x e) }

  learn_own : Own a → Own b
  learn_own d =
      record {
        central = λ e. record { shut = λ x j y. (d.central e).shut (was x) j (was_open j y) };
        peers = λ e. let c = d.peers e in record { there = c.there; stood = λ j i m x z. rw (stay j x) (c.stood j i m x z); dead = λ y. still (c.dead (yielded y)) };
      }

  pub learn_kept : Kept a → Kept b
  learn_kept h = record { shared = learn_inv h.shared; first = learn_own h.first }
