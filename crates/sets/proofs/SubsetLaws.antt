-- Masks below 2 ^ 8, and what lies within what. A set within a set of sites is a mask of eight places: with it, members decide.
-- Assumes nothing.
use Prim.Native.Nat.{ℕ, ◌-◌, ◌^◌, ◌<◌}
use mathlib.Core.Bool.{Bool, true, false, cond, ◌&&◌}
use mathlib.Core.Path.{◌≡◌, refl, sym, subst, ◌∙◌}
use mathlib.Core.Logic.{⊎_elim}
use native.Mathlib.Nat.{lt_of_le_of_lt, lt_of_lt_of_le}
use native.Mathlib.Omega.{arith}
use native.Mathlib.Decide.{dec_lt}
use lib.Dec.{eqb, ltb, lit<}
use lib.Pow.{pow_mono, pow-lt, ones_lt}
use lib.Count.{ones}
use lib.Bits.{bit_and, and_le_l, and_le_r, and_zero_l, and_self, or_lt, xor_lt, or_add_and}
use borrow.Author.Tests.{lt-ltb, le-ltb, eq-eqb, eqb-true}
use Rattle.sets.specs.Sets.{is_site, has, weight_of, union, both, minus, with_site, without, subset, all_of, others_of, count_of}
use Rattle.sets.proofs.SetLaws.{is_site_lem, has_none, has_union, has_with, ext, subset_has, subset_of}
use Rattle.sets.proofs.Truths.{or_e, or_l, or_r, and_r}

-- ---- masks of eight places

pub minus_lt : (a b : ℕ) → a < 2 ^ 8 → minus a b < 2 ^ 8
unfolding minus
minus_lt a b h = xor_lt 8 a (bit_and a b) h (lt_of_le_of_lt (and_le_l a b) h)

pub union_lt : (a b : ℕ) → a < 2 ^ 8 → b < 2 ^ 8 → union a b < 2 ^ 8
unfolding union
union_lt a b = or_lt 8 a b

pub both_lt : (a b : ℕ) → a < 2 ^ 8 → both a b < 2 ^ 8
unfolding both
both_lt a b h = lt_of_le_of_lt (and_le_l a b) h

pub all_lt : (n : ℕ) → all_of n < 2 ^ 8
unfolding all_of
all_lt n = go (dec_lt n 8)
  where
    go : Dec (n < 8) → cond (ltb n 8) (2 ^ n - 1) 255 < 2 ^ 8
    go (yes h) = rw (lt-ltb n 8 h) (lt_of_lt_of_le (ones_lt n) (pow_mono {j = 8} (omega arith)))
    go (no h) = rw (le-ltb n 8 (omega arith)) (lit< tt)

pub weight_lt : (j : ℕ) → weight_of j < 2 ^ 8
unfolding weight_of
weight_lt j = go (is_site j) refl
  where
    go : (b : Bool) → is_site j ≡ b → cond b (2 ^ (j - 1)) 0 < 2 ^ 8
    go true e = pow-lt {j = 8} (omega (arith, (is_site_lem j e).least, (is_site_lem j e).most))
    go false e = lit< tt

pub others_lt : (n j : ℕ) → others_of n j < 2 ^ 8
unfolding others_of without
others_lt n j = minus_lt (all_of n) (weight_of j) (all_lt n)

pub with_lt : (m j : ℕ) → m < 2 ^ 8 → with_site m j < 2 ^ 8
unfolding with_site
with_lt m j h = union_lt m (weight_of j) h (weight_lt j)

-- what lies within a mask of eight places is one
pub subset_lt : (a b : ℕ) → subset a b ≡ true → b < 2 ^ 8 → a < 2 ^ 8
unfolding subset
subset_lt a b e h = subst (λ (m : ℕ). m < 2 ^ 8) (eqb-true (bit_and a b) a e) (lt_of_le_of_lt (and_le_r a b) h)

-- a set without members is empty
pub nobody : (m : ℕ) → m < 2 ^ 8 → ((j : ℕ) → has m j ≡ false) → m ≡ 0
nobody m h f = ext m 0 h (lit< tt) (λ j. f j ∙ sym (has_none j))

-- and counts no one
pub count_none : count_of 0 ≡ 0
unfolding count_of ones
count_none = refl

-- ---- within

pub subset_none : (b : ℕ) → subset 0 b ≡ true
unfolding subset
subset_none b = eq-eqb (bit_and 0 b) 0 (and_zero_l b)

pub subset_self : (a : ℕ) → subset a a ≡ true
unfolding subset
subset_self a = eq-eqb (bit_and a a) a (and_self a)

pub subset_trans : (a b c : ℕ) → b < 2 ^ 8 → subset a b ≡ true → subset b c ≡ true → subset a c ≡ true
subset_trans a b c h p q = subset_of a c (subset_lt a b p h) (λ j m. subset_has b c j q (subset_has a b j p m))

-- a set lies within itself with one site more
pub within_with : (a j : ℕ) → a < 2 ^ 8 → subset a (with_site a j) ≡ true
within_with a j h = subset_of a (with_site a j) h (λ i m. has_with a j i ∙ or_l (has a i) (is_site i && eqb i j) m)

module _ (a b c : ℕ) (h : c < 2 ^ 8) where
  -- a union lies within a set exactly when both of its parts do
  pub union_within : subset a c ≡ true → subset b c ≡ true → subset (union a b) c ≡ true
  union_within p q =
      subset_of (union a b) c (union_lt a b (subset_lt a c p h) (subset_lt b c q h))
      (λ j m. ⊎_elim (subset_has a c j p) (subset_has b c j q) (or_e (has a j) (has b j) (sym (has_union a b j) ∙ m)))

  pub within_l : subset (union a b) c ≡ true → subset a c ≡ true
  unfolding union
  within_l p =
      subset_of a c (lt_of_le_of_lt (omega (arith, or_add_and a b, and_le_r a b)) (subset_lt (union a b) c p h))
      (λ j m. subset_has (union a b) c j p (has_union a b j ∙ or_l (has a j) (has b j) m))

  pub within_r : subset (union a b) c ≡ true → subset b c ≡ true
  unfolding union
  within_r p =
      subset_of b c (lt_of_le_of_lt (omega (arith, or_add_and a b, and_le_l a b)) (subset_lt (union a b) c p h))
      (λ j m. subset_has (union a b) c j p (has_union a b j ∙ or_r (has a j) (has b j) m))

-- a set within c stays within it with one more site of c
pub with_within : (a j c : ℕ) → c < 2 ^ 8 → subset a c ≡ true → has c j ≡ true → subset (with_site a j) c ≡ true
with_within a j c h p q =
    subset_of (with_site a j) c (with_lt a j (subset_lt a c p h)) (λ i m. ⊎_elim (subset_has a c i p) (λ x. subst (λ (k : ℕ). has c k ≡ true) (sym (eqb-true i j (and_r (is_site i) (eqb i j) x))) q) (or_e (has a i) (is_site i && eqb i j) (sym (has_with a j i) ∙ m)))
