-- What every run of either protocol keeps, and that steps, cuts and losses keep it.
-- Assumes nothing.
use Prim.Native.Nat.{ℕ}
use mathlib.Core.Path.{refl, sym, subst, ◌∙◌}
use mathlib.Core.Logic.{inl, inr, ⊎_elim}
use Rattle.site.specs.declared.State.{State}
use Rattle.promise.proofs.Classes.{Kind, MoveW, Prepare, IsA, PC, IsYes, Gives}
use Rattle.promise.proofs.View.{View, Evidence, seen, told, Open, Inv}
use Rattle.promise.proofs.First.{Left, nowhere, written, standing, Dead, Yielded, aborted, moved, waits, Own}
use Rattle.promise.proofs.Less.{Less, less, stop, Votes}
use Rattle.promise.proofs.Become.{upd_same, upd_other, become}
use Rattle.promise.proofs.Send.{send}
use Rattle.promise.proofs.Does.{Uses, Does}
use Rattle.promise.proofs.Safety.{whole, cut}
use Rattle.promise.proofs.Own.{own}

-- What every run of either protocol keeps.
pub record Kept (a : View) : Type 0 where
  pub shared : Inv a
  pub first : Own a

-- ---- less of everything

module _ (a b : View) (h : Less b a) where
  was : {S : State → Type 0} {K : Kind → Type 0} → Evidence S K b.st b.live → Evidence S K a.st a.live
  was {S} (seen i x) = seen i (subst S (sym (h.st i)) x)
  was (told κ k j c x) = told κ k j c (h.live κ k j x)

  was_open : (j : ℕ) → Open b j → Open a j
  was_open j o = (h.runs j o.0, rw (h.by, h.st j, h.ld j) o.1)

  was_left : (k : ℕ) → Left b k → Left a k
  was_left k (nowhere x) = nowhere (h.absent k x)
  was_left k (written j x) = written j (h.live Prepare k j x)
  was_left k (standing r e x) = standing (h.runs k r) (h.ld k ∙ e) (rw (h.st k) x)

  still : Dead a → Dead b
  still u =
      record {
        site = u.site;
        unprepared = λ x. u.unprepared (was_left u.site x);
        past = λ r e. subst IsA (h.st u.site) (u.past (h.runs u.site r) (h.ld u.site ∙ e));
      }

  yielded : Yielded b → Yielded a
  yielded (aborted e) = aborted (was e)
  yielded (moved k j x) = moved k j (h.live MoveW k j x)
  yielded (waits j r m q) = waits j (h.runs j r) (rw (h.ld j) m) (rw (h.st j) q)

  pub own_less : Own a → Own b
  own_less d =
      record {
        central = λ e. record { shut = λ x j o. (d.central (h.by ∙ e)).shut (was x) j (was_open j o) };
        peers = λ e. let o = d.peers (h.by ∙ e) in
            record {
              there = λ j r x. o.there j (h.runs j r) (h.absent j x);
              stood = λ j i x r z. subst PC (h.st j) (o.stood j i (h.live Prepare j i x) (h.runs j r) (h.ld j ∙ z));
              dead = λ x. still (o.dead (yielded x));
            };
      }

  pub kept_less : Kept a → Kept b
  kept_less k = record { shared = less a b h k.shared; first = own_less k.first }

-- ---- a step

module _ (a : View) (j : ℕ) (k : Kept a) (r : a.runs j) (w : ℕ → Type 0) (g : Votes a j w) (s : State) (l : ℕ) (κ : Kind) (y : Uses) (T R : ℕ → Type 0)
    (c : Does a j T s l κ y) (within : (i : ℕ) → R i → T i) where
  pub kept_whole : (Gives κ → w j) → ((Gives κ → ⊥) → w j → a.voted j) → Kept (send (become a j s l w) κ j R)
  kept_whole yes_w no_w =
      record {
        shared = whole a j k.shared k.first r w g s l κ y T R c within yes_w no_w;
        first = own a (send (become a j s l w) κ j R) j k.shared r s l κ y T c
            (record {
              by = refl;
              runs = λ i x. x;
              st_other = upd_other a.st j s;
              ld_other = upd_other a.ld j l;
              st_here = λ _. upd_same a.st j s;
              ld_here = λ _. upd_same a.ld j l;
              st_ever = inl (upd_same a.st j s);
              live = λ c i k. ⊎_elim (λ x. inl x) (λ x. inr (x.0, x.1));
              absent = λ i x. x;
            }) k.first;
      }

  pub kept_cut : (IsYes κ → (i : ℕ) → R i → w j) → ((Gives κ → ⊥) → w j → a.voted j) → Kept (send (stop a j w) κ j R)
  kept_cut yes_w no_w =
      record {
        shared = cut a j k.shared k.first r w g s l κ y T R c within yes_w no_w;
        first = own a (send (stop a j w) κ j R) j k.shared r s l κ y T c
            (record {
              by = refl;
              runs = λ i x. x.0;
              st_other = λ i _. refl;
              ld_other = λ i _. refl;
              st_here = λ x. absurd (x.1 refl);
              ld_here = λ x. absurd (x.1 refl);
              st_ever = inr refl;
              live = λ c i k. ⊎_elim (λ x. inl x) (λ x. inr (x.0, x.1));
              absent = λ i x. x;
            }) k.first;
      }
