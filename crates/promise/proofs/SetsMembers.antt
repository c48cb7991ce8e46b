-- Membership in a set of sites as a type, with one law for each operation, in both directions.
-- Assumes nothing.
use Prim.Native.Nat.{ℕ, ◌≤◌, ◌<◌}
use mathlib.Core.Bool.{true, false, not, ◌&&◌}
use mathlib.Core.Path.{◌≡◌, refl, sym, ap, ◌∙◌}
use mathlib.Core.Logic.{◌≢◌, ◌⊎◌, inl, inr, ⊎_elim}
use lib.Dec.{eqb, leb, ltb}
use borrow.Author.Tests.{eqb-true, eqb-false, eq-eqb, ne_eqb, leb-true, le-leb, ltb-true, lt-ltb, not-true}
use Rattle.sets.specs.Sets.{is_site, has, weight_of, union, both, minus, with_site, without, others_of, below_of}
use Rattle.sets.proofs.Truths.{and_l, and_r, and_i, or_e, or_l, or_r, clash}
use Rattle.sets.proofs.SetLaws.{Site, site_is, has_none, has_union, has_both, has_minus, has_weight, has_with, has_without, has_others, has_below}

-- Site j is in m.
abbrev pub In : ℕ → ℕ → Type 0
In m j = has m j ≡ true

pub in_none : (j : ℕ) → In 0 j → ⊥
in_none j h = clash h (has_none j)

module _ (a b j : ℕ) where
  pub union_in : In (union a b) j → In a j ⊎ In b j
  union_in h = or_e (has a j) (has b j) (sym (has_union a b j) ∙ h)

  pub in_left : In a j → In (union a b) j
  in_left h = has_union a b j ∙ or_l (has a j) (has b j) h

  pub in_right : In b j → In (union a b) j
  in_right h = has_union a b j ∙ or_r (has a j) (has b j) h

  pub both_l : In (both a b) j → In a j
  both_l h = and_l (has a j) (has b j) (sym (has_both a b j) ∙ h)

  pub both_r : In (both a b) j → In b j
  both_r h = and_r (has a j) (has b j) (sym (has_both a b j) ∙ h)

  pub minus_in : In (minus a b) j → In a j
  minus_in h = and_l (has a j) (not (has b j)) (sym (has_minus a b j) ∙ h)

  pub minus_out : In (minus a b) j → has b j ≡ false
  minus_out h = not-true (has b j) (and_r (has a j) (not (has b j)) (sym (has_minus a b j) ∙ h))

  pub in_minus : In a j → has b j ≡ false → In (minus a b) j
  in_minus p q = has_minus a b j ∙ and_i (has a j) (not (has b j)) p (ap not q)

module _ (m j i : ℕ) where
  pub with_in : In (with_site m j) i → In m i ⊎ (i ≡ j)
  with_in h = ⊎_elim (λ e. inl e) (λ e. inr (eqb-true i j (and_r (is_site i) (eqb i j) e))) (or_e (has m i) (is_site i && eqb i j) (sym (has_with m j i) ∙ h))

  pub in_with : In m i → In (with_site m j) i
  in_with h = has_with m j i ∙ or_l (has m i) (is_site i && eqb i j) h

  pub in_with_new : Site i → i ≡ j → In (with_site m j) i
  in_with_new s e = has_with m j i ∙ or_r (has m i) (is_site i && eqb i j) (and_i (is_site i) (eqb i j) (site_is i s.least s.most) (eq-eqb i j e))

  pub without_in : In (without m j) i → In m i
  without_in h = and_l (has m i) (not (eqb i j)) (sym (has_without m j i) ∙ h)

  pub without_out : In (without m j) i → i ≢ j
  without_out h = eqb-false i j (not-true (eqb i j) (and_r (has m i) (not (eqb i j)) (sym (has_without m j i) ∙ h)))

  pub in_without : In m i → i ≢ j → In (without m j) i
  in_without p q = has_without m j i ∙ and_i (has m i) (not (eqb i j)) p (ap not (ne_eqb i j q))

module _ (j i : ℕ) where
  pub weight_in : In (weight_of j) i → i ≡ j
  weight_in h = eqb-true i j (and_r (is_site i) (eqb i j) (sym (has_weight j i) ∙ h))

  pub below_in : In (below_of j) i → i < j
  below_in h = ltb-true i j (and_r (is_site i) (ltb i j) (sym (has_below j i) ∙ h))

  pub in_below : Site i → i < j → In (below_of j) i
  in_below s h = has_below j i ∙ and_i (is_site i) (ltb i j) (site_is i s.least s.most) (lt-ltb i j h)

pub in_weight : (j : ℕ) → Site j → In (weight_of j) j
in_weight j s = has_weight j j ∙ and_i (is_site j) (eqb j j) (site_is j s.least s.most) (eq-eqb j j refl)

module _ (n j i : ℕ) where
  others_of_lem : In (others_of n j) i → (is_site i && leb i n && not (eqb i j)) ≡ true
  others_of_lem h = sym (has_others n j i) ∙ h

  pub others_in : In (others_of n j) i → i ≤ n
  others_in h = leb-true i n (and_r (is_site i) (leb i n) (and_l (is_site i && leb i n) (not (eqb i j)) (others_of_lem h)))

  pub others_out : In (others_of n j) i → i ≢ j
  others_out h = eqb-false i j (not-true (eqb i j) (and_r (is_site i && leb i n) (not (eqb i j)) (others_of_lem h)))

  pub in_others : Site i → i ≤ n → i ≢ j → In (others_of n j) i
  in_others s p q =
      has_others n j i
      ∙ and_i (is_site i && leb i n) (not (eqb i j)) (and_i (is_site i) (leb i n) (site_is i s.least s.most) (le-leb i n p)) (ap not (ne_eqb i j q))
