-- Small laws behind RunLaws and GoodRuns: what a changed test, set or list says of the one before.
-- Assumes nothing.
use Prim.Native.Nat.{ℕ, ◌<◌}
use mathlib.Core.Bool.{Bool, true, false, not, ◌&&◌, ◌||◌, true≢false}
use mathlib.Core.Path.{◌≡◌, refl, sym, ap, ◌∙◌}
use mathlib.Core.List.{List}
use mathlib.Core.Logic.{◌≢◌, ◌⊎◌, inl, inr, ⊎_elim}
use native.Mathlib.Omega.{arith}
use native.Mathlib.Decide.{dec_lt, ℕ_discrete}
use lib.Dec.{eqb}
use lib.ListN.{length, get_or, set}
use lib.Seq.{set_out, get_or-set_same, get_or-set_other}
use borrow.Author.Tests.{eqb-true}
use Rattle.sets.specs.Sets.{is_site, has, with_site}
use Rattle.sets.proofs.SetLaws.{has_with}
use Rattle.sets.proofs.Truths.{and_l, and_r, or_e, or_l}
use Rattle.run.specs.declared.Run.{Run}
use Rattle.run.specs.Run.{has_stopped}

-- what is found in a list with one element anew: the old one, or at its place the new one
pub set_either : {A : Type 0} (l : List A) (p q : ℕ) (x d : A) → get_or (set l p x) q d ≡ get_or l q d ⊎ (q ≡ p) × (get_or (set l p x) q d ≡ x)
set_either {A} l p q x d = go (ℕ_discrete q p) (dec_lt p (length l))
  where
    go : Dec (q ≡ p) → Dec (p < length l) → get_or (set l p x) q d ≡ get_or l q d ⊎ (q ≡ p) × (get_or (set l p x) q d ≡ x)
    go (yes e) (yes h) = inr (e, rw e (get_or-set_same l p x d h))
    go (yes e) (no h) = inl (ap (λ (m : List A). get_or m q d) (set_out l p x (omega arith)))
    go (no e) h = inl (get_or-set_other l p q x d e)

-- a message that is there (w) was there before (o) and has not been taken (a), or has come (b)
pub old_new : (w o a b : Bool) → w ≡ (o && a || b) → w ≡ true → ((o ≡ true) × (a ≡ true)) ⊎ b ≡ true
old_new w o a b e h = ⊎_elim (λ x. inl (and_l o a x, and_r o a x)) inr (or_e (o && a) b (sym e ∙ h))

-- one that was there is there, if not both taken (d) and addressed to the site (c)
pub old_stays : (w o d c b : Bool) → w ≡ (o && not (d && c) || b) → o ≡ true → c ≡ false → w ≡ true
old_stays w o true true b e p q = absurd (true≢false q)
old_stays w o true false b e p q = e ∙ rw p refl
old_stays w o false c b e p q = e ∙ rw p refl

-- after a stop of site s: who had stopped, and s
module _ (r w : Run) (s : ℕ) (e : w.stopped ≡ with_site r.stopped s) where
  pub stopped_then : (i : ℕ) → has_stopped w i ≡ (has_stopped r i || is_site i && eqb i s)
  unfolding has_stopped
  stopped_then i = ap (λ (m : ℕ). has m i) e ∙ has_with r.stopped s i

  pub stopped_still : (i : ℕ) → has_stopped r i ≡ true → has_stopped w i ≡ true
  stopped_still i h = stopped_then i ∙ or_l (has_stopped r i) (is_site i && eqb i s) h

  pub stopped_only : (i : ℕ) → i ≢ s → has_stopped w i ≡ true → has_stopped r i ≡ true
  stopped_only i d h =
      ⊎_elim (λ x. x) (λ x. absurd (d (eqb-true i s (and_r (is_site i) (eqb i s) x)))) (or_e (has_stopped r i) (is_site i && eqb i s) (sym (stopped_then i) ∙ h))
