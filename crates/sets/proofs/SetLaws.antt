-- What the sets of sites mean: the members of each operation, equality by members, subset, number of members, lowest member.
-- The laws on places hold for every mask, or for masks of any width w; those on sites read the eight places of a byte.
-- Assumes nothing.
use Prim.Native.Nat.{ℕ, zero, suc, ◌+◌, ◌-◌, ◌*◌, ◌/◌, ◌%◌, ◌^◌, ◌<◌, ◌≤◌}
use mathlib.Core.Bool.{Bool, true, false, cond, not, ◌&&◌, ◌||◌, true≢false, false≢true}
use mathlib.Core.Path.{◌≡◌, refl, sym, ap, ◌∙◌}
use native.Mathlib.Nat.{mod-lt, pow-suc, pow-succ', div-one, div-div-eq-div-mul, lt_of_le_of_lt, one-mul}
use native.Mathlib.Omega.{arith}
use native.Mathlib.Decide.{dec_lt, ℕ_discrete}
use lib.Dec.{eqb, leb, ltb, lit<, lit≤, eqb-suc-zero, eqb-zero-suc, eqb-suc-suc, leb-suc-suc}
use lib.Arith.{lt-one}
use lib.Pow.{pow_pos, shl_exact}
use lib.Count.{ones, ones_step, count_trailing_zeros, under}
use lib.Bits.{bit_and, bit_or, bit_xor, and_shr, and_mod, or_shr, or_mod, xor_shr, xor_mod, and_le_l}
use borrow.Author.Tests.{le-leb, lt-leb, lt-ltb, le-ltb, leb-true, eq-eqb, ne_eqb, eqb-true}
use Rattle.sets.proofs.Truths.{and_l, and_r}
use Rattle.sets.specs.Sets.{bit, is_site, has, weight_of, union, both, minus, with_site, without, subset, all_of, others_of, below_of, count_of, lowest_of}

-- a one moved up n of eight places is 2 ^ n
pub shifted : (n : ℕ) → n ≤ 7 → 1 * 2 ^ n % 2 ^ 8 ≡ 2 ^ n
shifted n h = shl_exact 1 n 8 (lit< tt) (omega arith) ∙ one-mul _

-- ---- places of a mask

-- what one binary digit gives is what the Bools give
module _ (op : ℕ → ℕ → ℕ) (f : Bool → Bool → Bool) where
  digit : (x y : ℕ) → x < 2 → y < 2
      → eqb (op 0 0) 1 ≡ f false false → eqb (op 0 1) 1 ≡ f false true → eqb (op 1 0) 1 ≡ f true false → eqb (op 1 1) 1 ≡ f true true
      → eqb (op x y) 1 ≡ f (eqb x 1) (eqb y 1)
  digit zero zero hx hy a b c d = a
  digit zero (suc zero) hx hy a b c d = b
  digit zero (suc (suc y)) hx hy a b c d = absurd (omega arith)
  digit (suc zero) zero hx hy a b c d = c
  digit (suc zero) (suc zero) hx hy a b c d = d
  digit (suc zero) (suc (suc y)) hx hy a b c d = absurd (omega arith)
  digit (suc (suc x)) y hx hy a b c d = absurd (omega arith)

module _ (a b k : ℕ) where
  low : (m : ℕ) → m / 2 ^ k % 2 < 2
  low m = mod-lt (m / 2 ^ k) (lit< tt)

  pub bit_and_lem : bit (bit_and a b) k ≡ (bit a k && bit b k)
  unfolding bit
  bit_and_lem =
      ap (λ (x : ℕ). eqb (x % 2) 1) (and_shr a b k) ∙ ap (λ (x : ℕ). eqb x 1) (and_mod (a / 2 ^ k) (b / 2 ^ k) 1)
      ∙ digit bit_and (λ x y. x && y) (a / 2 ^ k % 2) (b / 2 ^ k % 2) (low a) (low b) refl refl refl refl

  pub bit_or_lem : bit (bit_or a b) k ≡ (bit a k || bit b k)
  unfolding bit
  bit_or_lem =
      ap (λ (x : ℕ). eqb (x % 2) 1) (or_shr a b k) ∙ ap (λ (x : ℕ). eqb x 1) (or_mod (a / 2 ^ k) (b / 2 ^ k) 1)
      ∙ digit bit_or (λ x y. x || y) (a / 2 ^ k % 2) (b / 2 ^ k % 2) (low a) (low b) refl refl refl refl

  bit_xor_lem : bit (bit_xor a b) k ≡ cond (bit a k) (not (bit b k)) (bit b k)
  unfolding bit
  bit_xor_lem =
      ap (λ (x : ℕ). eqb (x % 2) 1) (xor_shr a b k) ∙ ap (λ (x : ℕ). eqb x 1) (xor_mod (a / 2 ^ k) (b / 2 ^ k) 1)
      ∙ digit bit_xor (λ x y. cond x (not y) y) (a / 2 ^ k % 2) (b / 2 ^ k % 2) (low a) (low b) refl refl refl refl

pub bit_minus : (a b k : ℕ) → bit (minus a b) k ≡ (bit a k && not (bit b k))
unfolding minus
bit_minus a b k = bit_xor_lem a (bit_and a b) k ∙ ap (λ (y : Bool). cond (bit a k) (not y) y) (bit_and_lem a b k) ∙ go (bit a k) (bit b k)
  where
    go : (x y : Bool) → cond x (not (x && y)) (x && y) ≡ (x && not y)
    go true y = refl
    go false y = refl

pub bit_half : (m k : ℕ) → bit m (suc k) ≡ bit (m / 2) k
unfolding bit
bit_half m k =
    ap (λ (x : ℕ). eqb (m / x % 2) 1) (pow-succ' 2 k) ∙ ap (λ (x : ℕ). eqb (x % 2) 1) (sym (div-div-eq-div-mul m 2 (2 ^ k)))

pub bit_zero : (m : ℕ) → bit m 0 ≡ eqb (m % 2) 1
unfolding bit
bit_zero m = ap (λ (x : ℕ). eqb (x % 2) 1) (div-one m)

pub bit_none : (k : ℕ) → bit 0 k ≡ false
bit_none zero = bit_zero 0
bit_none (suc k) = bit_half 0 k ∙ bit_none k

pub bit_one : (i k : ℕ) → bit (2 ^ i) k ≡ eqb k i
bit_one zero zero = bit_zero 1
bit_one zero (suc k) = bit_half 1 k ∙ bit_none k ∙ sym (eqb-suc-zero k)
bit_one (suc i) zero =
    let e : 2 ^ suc i % 2 ≡ 0 = omega (arith, pow-suc 2 i) in
    bit_zero (2 ^ suc i) ∙ ap (λ (x : ℕ). eqb x 1) e ∙ sym (eqb-zero-suc i)
bit_one (suc i) (suc k) =
    let e : 2 ^ suc i / 2 ≡ 2 ^ i = omega (arith, pow-suc 2 i) in
    bit_half (2 ^ suc i) k ∙ ap (λ (x : ℕ). bit x k) e ∙ bit_one i k ∙ sym (eqb-suc-suc k i)

half_lt : (w a : ℕ) → a < 2 ^ suc w → a / 2 < 2 ^ w
half_lt w a h = omega (arith, pow-suc 2 w)

-- the lowest n places, and no others, are taken in 2 ^ n - 1
pub bit_full : (n k : ℕ) → bit (2 ^ n - 1) k ≡ ltb k n
bit_full zero k = bit_none k ∙ sym (le-ltb k 0 (omega arith))
bit_full (suc n) zero =
    let e : (2 ^ suc n - 1) % 2 ≡ 1 = omega (arith, pow-suc 2 n, pow_pos n) in
    bit_zero (2 ^ suc n - 1) ∙ ap (λ (x : ℕ). eqb x 1) e ∙ sym (lt-ltb 0 (suc n) (omega arith))
bit_full (suc n) (suc k) =
    let e : (2 ^ suc n - 1) / 2 ≡ 2 ^ n - 1 = omega (arith, pow-suc 2 n, pow_pos n) in
    bit_half (2 ^ suc n - 1) k ∙ ap (λ (x : ℕ). bit x k) e ∙ bit_full n k ∙ sym (leb-suc-suc (suc k) n)

-- ---- masks with the same places are the same mask

low_eq : (x y : ℕ) → x < 2 → y < 2 → eqb x 1 ≡ eqb y 1 → x ≡ y
low_eq zero zero hx hy e = refl
low_eq zero (suc zero) hx hy e = absurd (false≢true e)
low_eq zero (suc (suc y)) hx hy e = absurd (omega arith)
low_eq (suc zero) zero hx hy e = absurd (true≢false e)
low_eq (suc zero) (suc zero) hx hy e = refl
low_eq (suc zero) (suc (suc y)) hx hy e = absurd (omega arith)
low_eq (suc (suc x)) y hx hy e = absurd (omega arith)

pub bit_ext : (w a b : ℕ) → a < 2 ^ w → b < 2 ^ w → ((k : ℕ) → k < w → bit a k ≡ bit b k) → a ≡ b
bit_ext zero a b ha hb e = omega arith
bit_ext (suc w) a b ha hb e =
    let h : a / 2 ≡ b / 2 =
    bit_ext w (a / 2) (b / 2) (half_lt w a ha) (half_lt w b hb) (λ k l. sym (bit_half a k) ∙ e (suc k) (omega arith) ∙ bit_half b k) in
    let l : a % 2 ≡ b % 2 = low_eq (a % 2) (b % 2) (mod-lt a (lit< tt)) (mod-lt b (lit< tt)) (sym (bit_zero a) ∙ e 0 (omega arith) ∙ bit_zero b) in
    omega arith

-- ---- members

-- 1 to 8 are sites, and no other number is
pub site_is : (j : ℕ) → 1 ≤ j → j ≤ 8 → is_site j ≡ true
unfolding is_site
site_is j l h = simp (le-leb 1 j l, le-leb j 8 h)

pub record Site (j : ℕ) : Type 0 where
  pub least : 1 ≤ j
  pub most : j ≤ 8

pub is_site_lem : (j : ℕ) → is_site j ≡ true → Site j
unfolding is_site
is_site_lem j e = record { least = leb-true 1 j (and_l (leb 1 j) (leb j 8) e); most = leb-true j 8 (and_r (leb 1 j) (leb j 8) e) }

-- only sites are members
pub has_site : (m j : ℕ) → has m j ≡ true → Site j
unfolding has
has_site m j e = is_site_lem j (and_l (is_site j) (bit m (j - 1)) e)

-- the empty set has no member
pub has_none : (j : ℕ) → has 0 j ≡ false
unfolding has
has_none j = ap (λ (x : Bool). is_site j && x) (bit_none (j - 1)) ∙ mathlib.Core.Bool.and-false (is_site j)

-- site k + 1 stands at place k
pub has_place : (m k : ℕ) → is_site (suc k) ≡ true → has m (suc k) ≡ bit m k
unfolding has
has_place m k s = simp s (ap (bit m) (omega arith))

module _ (a b j : ℕ) where
  pub has_union : has (union a b) j ≡ (has a j || has b j)
  unfolding has union
  has_union = ap (λ (x : Bool). is_site j && x) (bit_or_lem a b (j - 1)) ∙ go (is_site j) (bit a (j - 1)) (bit b (j - 1))
    where
      go : (s x y : Bool) → (s && (x || y)) ≡ (s && x || s && y)
      go true x y = refl
      go false x y = refl

  pub has_both : has (both a b) j ≡ (has a j && has b j)
  unfolding has both
  has_both = ap (λ (x : Bool). is_site j && x) (bit_and_lem a b (j - 1)) ∙ go (is_site j) (bit a (j - 1)) (bit b (j - 1))
    where
      go : (s x y : Bool) → (s && (x && y)) ≡ (s && x && (s && y))
      go true x y = refl
      go false x y = refl

  pub has_minus : has (minus a b) j ≡ (has a j && not (has b j))
  unfolding has
  has_minus = ap (λ (x : Bool). is_site j && x) (bit_minus a b (j - 1)) ∙ go (is_site j) (bit a (j - 1)) (bit b (j - 1))
    where
      go : (s x y : Bool) → (s && (x && not y)) ≡ (s && x && not (s && y))
      go true x y = refl
      go false x y = refl

-- a site's weight holds that site alone
pub has_weight : (j i : ℕ) → has (weight_of j) i ≡ (is_site i && eqb i j)
unfolding has weight_of
has_weight j i = go (is_site i) (is_site j) refl refl
  where
    same : is_site i ≡ true → is_site j ≡ true → eqb (i - 1) (j - 1) ≡ eqb i j
    same p q = cases (ℕ_discrete i j)
      where
        cases : Dec (i ≡ j) → eqb (i - 1) (j - 1) ≡ eqb i j
        cases (yes e) = eq-eqb (i - 1) (j - 1) (ap (λ (x : ℕ). x - 1) e) ∙ sym (eq-eqb i j e)
        cases (no n) =
            ne_eqb (i - 1) (j - 1) (λ e. n (omega (arith, (is_site_lem i p).least, (is_site_lem j q).least, e))) ∙ sym (ne_eqb i j n)

    other : is_site i ≡ true → is_site j ≡ false → eqb i j ≡ false
    other p q = ne_eqb i j (λ e. true≢false (sym p ∙ ap is_site e ∙ q))

    go : (s t : Bool) → is_site i ≡ s → is_site j ≡ t → (s && bit (cond t (2 ^ (j - 1)) 0) (i - 1)) ≡ (s && eqb i j)
    go true true p q = bit_one (j - 1) (i - 1) ∙ same p q
    go true false p q = bit_none (i - 1) ∙ sym (other p q)
    go false t p q = refl

pub has_with : (m j i : ℕ) → has (with_site m j) i ≡ (has m i || is_site i && eqb i j)
unfolding with_site
has_with m j i = has_union m (weight_of j) i ∙ ap (λ (x : Bool). has m i || x) (has_weight j i)

pub has_without : (m j i : ℕ) → has (without m j) i ≡ (has m i && not (eqb i j))
unfolding without
has_without m j i = has_minus m (weight_of j) i ∙ ap (λ (x : Bool). has m i && not x) (has_weight j i) ∙ go (has m i) (is_site i) refl refl
  where
    go : (x s : Bool) → has m i ≡ x → is_site i ≡ s → (x && not (s && eqb i j)) ≡ (x && not (eqb i j))
    go true true p q = refl
    go true false p q = absurd (true≢false (sym (site_is i (has_site m i p).least (has_site m i p).most) ∙ q))
    go false s p q = refl

pub has_all : (n j : ℕ) → has (all_of n) j ≡ (is_site j && leb j n)
unfolding has all_of
has_all n j = go (is_site j) refl
  where
    full : (k : ℕ) → k < 8 → bit 255 k ≡ true
    full k h = bit_full 8 k ∙ lt-ltb k 8 h

    shifted_test : 1 ≤ j → ltb (j - 1) n ≡ leb j n
    shifted_test l = ap (λ (x : ℕ). leb x n) (omega arith)

    at : Site j → Dec (n < 8) → bit (cond (ltb n 8) (2 ^ n - 1) 255) (j - 1) ≡ leb j n
    at s (yes h) = rw (lt-ltb n 8 h) (bit_full n (j - 1) ∙ shifted_test s.least)
    at s (no h) =
        rw (le-ltb n 8 (omega arith)) (full (j - 1) (omega (arith, s.least, s.most)) ∙ sym (le-leb j n (omega (arith, s.most))))

    go : (b : Bool) → is_site j ≡ b → (b && bit (cond (ltb n 8) (2 ^ n - 1) 255) (j - 1)) ≡ (b && leb j n)
    go true e = at (is_site_lem j e) (dec_lt n 8)
    go false e = refl

pub has_others : (n j i : ℕ) → has (others_of n j) i ≡ (is_site i && leb i n && not (eqb i j))
unfolding others_of
has_others n j i = has_without (all_of n) j i ∙ ap (λ (x : Bool). x && not (eqb i j)) (has_all n i)

pub has_below : (j i : ℕ) → has (below_of j) i ≡ (is_site i && ltb i j)
unfolding below_of
has_below j i = has_all (j - 1) i ∙ go (is_site i) refl
  where
    at : Site i → Dec (i < j) → leb i (j - 1) ≡ ltb i j
    at s (yes h) = le-leb i (j - 1) (omega arith) ∙ sym (lt-ltb i j h)
    at s (no h) = lt-leb i (j - 1) (omega (arith, s.least)) ∙ sym (le-ltb i j (omega arith))

    go : (b : Bool) → is_site i ≡ b → (b && leb i (j - 1)) ≡ (b && ltb i j)
    go true e = at (is_site_lem i e) (dec_lt i j)
    go false e = refl

-- sets of sites with the same members are the same mask
pub ext : (a b : ℕ) → a < 2 ^ 8 → b < 2 ^ 8 → ((j : ℕ) → has a j ≡ has b j) → a ≡ b
unfolding has
ext a b ha hb e =
    bit_ext 8 a b ha hb (λ k h. let s : is_site (k + 1) ≡ true = site_is (k + 1) (omega arith) (omega arith) in at k s (e (k + 1)))
  where
    at : (k : ℕ) → is_site (k + 1) ≡ true → (is_site (k + 1) && bit a (k + 1 - 1)) ≡ (is_site (k + 1) && bit b (k + 1 - 1)) → bit a k ≡ bit b k
    at k s h =
        let q : k + 1 - 1 ≡ k = omega arith in
        let g : bit a (k + 1 - 1) ≡ bit b (k + 1 - 1) = rw s at h in
        rw q at g

-- a is within b exactly when every member of a is one of b
pub subset_has : (a b j : ℕ) → subset a b ≡ true → has a j ≡ true → has b j ≡ true
unfolding subset both
subset_has a b j e h = and_r (has a j) (has b j) (sym has_and ∙ h)
  where
    has_and : has a j ≡ (has a j && has b j)
    has_and = ap (λ (x : ℕ). has x j) (sym (eqb-true (bit_and a b) a e)) ∙ has_both a b j

pub subset_of : (a b : ℕ) → a < 2 ^ 8 → ((j : ℕ) → has a j ≡ true → has b j ≡ true) → subset a b ≡ true
unfolding subset both
subset_of a b ha s = eq-eqb (bit_and a b) a (ext (bit_and a b) a (lt_of_le_of_lt (and_le_l a b) ha) ha (λ j. has_both a b j ∙ go (has a j) (has b j) (s j)))
  where
    go : (x y : Bool) → (x ≡ true → y ≡ true) → (x && y) ≡ x
    go true y f = f refl
    go false y f = refl

-- ---- how many members

abbrev pub one_if : Bool → ℕ
one_if true = 1
one_if false = 0

-- how many of the places below w are taken in m
unfoldable pub size : ℕ → ℕ → ℕ
size m zero = 0
size m (suc w) = size m w + one_if (bit m w)

low_one : (x : ℕ) → x < 2 → one_if (eqb x 1) ≡ x
low_one zero h = refl
low_one (suc zero) h = refl
low_one (suc (suc x)) h = absurd (omega arith)

size_low : (m w : ℕ) → size m (suc w) ≡ m % 2 + size (m / 2) w
unfolding size
size_low m zero =
    let e : one_if (bit m 0) ≡ m % 2 = ap one_if (bit_zero m) ∙ low_one (m % 2) (mod-lt m (lit< tt)) in
    omega arith
size_low m (suc w) =
    let ih : size m (suc w) ≡ m % 2 + size (m / 2) w = size_low m w in
    let e : one_if (bit m (suc w)) ≡ one_if (bit (m / 2) w) = ap one_if (bit_half m w) in
    omega arith

ones_none : ones 0 ≡ 0
unfolding ones
ones_none = refl

-- the count of ones of a mask of width w is the number of its places
pub ones_size : (w m : ℕ) → m < 2 ^ w → ones m ≡ size m w
unfolding size
ones_size zero m h = ap ones (lt-one h) ∙ ones_none
ones_size (suc w) m h = ones_step m ∙ ap (λ (x : ℕ). m % 2 + x) (ones_size w (m / 2) (half_lt w m h)) ∙ sym (size_low m w)

-- how many of the sites 1 to j are in m
unfoldable pub members : ℕ → ℕ → ℕ
members m zero = 0
members m (suc j) = members m j + one_if (has m (suc j))

members_size : (m w : ℕ) → w ≤ 8 → members m w ≡ size m w
unfolding members size
members_size m zero h = refl
members_size m (suc w) h =
    let ih : members m w ≡ size m w = members_size m w (omega arith) in
    let e : one_if (has m (suc w)) ≡ one_if (bit m w) = ap one_if (has_place m w (site_is (suc w) (omega arith) h)) in
    omega arith

-- the count of a set is the number of its members
pub count_is : (m : ℕ) → m < 2 ^ 8 → count_of m ≡ members m 8
unfolding count_of
count_is m h = ones_size 8 m h ∙ sym (members_size m 8 (lit≤ tt))

-- ---- the lowest member

-- t is the lowest of the w places that is taken in m
pub record LowestPlace (w m t : ℕ) : Type 0 where
  pub within : t < w
  pub taken : bit m t ≡ true
  pub below : (k : ℕ) → k < t → bit m k ≡ false

low_pick : (w m d : ℕ) → m % 2 ≡ d → d < 2 → (d ≡ 0 → LowestPlace w (m / 2) (count_trailing_zeros w (m / 2)))
    → LowestPlace (suc w) m (under d (count_trailing_zeros w (m / 2)))
low_pick w m zero e l ih =
    record {
      within = omega (arith, (ih refl).within);
      taken = bit_half m _ ∙ (ih refl).taken;
      below = λ k h. go k h;
    }
  where
    go : (k : ℕ) → k < suc (count_trailing_zeros w (m / 2)) → bit m k ≡ false
    go zero h = bit_zero m ∙ ap (λ (x : ℕ). eqb x 1) e
    go (suc k) h = bit_half m k ∙ (ih refl).below k (omega arith)
low_pick w m (suc zero) e l ih =
    record {
      within = omega arith;
      taken = bit_zero m ∙ ap (λ (x : ℕ). eqb x 1) e;
      below = λ k h. absurd (omega arith);
    }
low_pick w m (suc (suc d)) e l ih = absurd (omega arith)

-- the trailing zeros of a mask of width w that is not empty are its lowest place
pub lowest_place : (w m : ℕ) → 0 < m → m < 2 ^ w → LowestPlace w m (count_trailing_zeros w m)
unfolding count_trailing_zeros
lowest_place zero m p h = absurd (omega arith)
lowest_place (suc w) m p h =
    low_pick w m (m % 2) refl (mod-lt m (lit< tt)) (λ e. lowest_place w (m / 2) (omega arith) (half_lt w m h))

-- j is the least member of m
pub record Lowest (m j : ℕ) : Type 0 where
  pub member : has m j ≡ true
  pub least : (i : ℕ) → i < j → has m i ≡ false

-- a set that is not empty has its lowest site; of none, the lowest is 0
pub lowest_is : (m : ℕ) → 0 < m → m < 2 ^ 8 → Lowest m (lowest_of m)
unfolding lowest_of has
lowest_is m p h =
    rw (ne_eqb m 0 (λ e. omega arith)) (go (count_trailing_zeros 8 m) (lowest_place 8 m p h))
  where
    go : (t : ℕ) → LowestPlace 8 m t → Lowest m (t + 1)
    go t l =
        record {
          member = simp (site_is (t + 1) (omega arith) (omega (arith, l.within))) (ap (bit m) (omega arith) ∙ l.taken);
          least = λ i g. below i g (is_site i) refl;
        }
      where
        below : (i : ℕ) → i < t + 1 → (b : Bool) → is_site i ≡ b → has m i ≡ false
        below i g true e = simp e (l.below (i - 1) (omega (arith, (is_site_lem i e).least)))
        below i g false e = simp e
