-- Numbers of sites, sums over the first numbers, and how many sites are in a set.
-- Assumes nothing.
use Prim.Native.Nat.{ℕ, zero, suc, ◌+◌, ◌-◌, ◌≤◌, ◌<◌}
use mathlib.Core.Bool.{false}
use mathlib.Core.Path.{◌≡◌, refl, sym, ap}
use mathlib.Core.Logic.{◌≢◌, ◌⊎◌, inl, inr, ⊎_elim}
use native.Mathlib.Decide.{ℕ_discrete, dec_lt}
use native.Mathlib.Omega.{arith}
use Rattle.sets.specs.Sets.{has, union, without}
use Rattle.sets.proofs.SetLaws.{has_site, one_if, members}
use Rattle.sets.proofs.Truths.{clash, either}
use Rattle.promise.proofs.SetsMembers.{In, union_in, without_in, without_out}

-- What holds of 2, 3, .. and 8 holds of each number of sites.
pub by_size : (M : ℕ → Type 0) → M 2 → M 3 → M 4 → M 5 → M 6 → M 7 → M 8 → (n : ℕ) → 2 ≤ n → n ≤ 8 → M n
by_size M a b c d e f g zero p q = absurd (omega arith)
by_size M a b c d e f g (suc zero) p q = absurd (omega arith)
by_size M a b c d e f g (suc (suc zero)) p q = a
by_size M a b c d e f g (suc (suc (suc zero))) p q = b
by_size M a b c d e f g (suc (suc (suc (suc zero)))) p q = c
by_size M a b c d e f g (suc (suc (suc (suc (suc zero))))) p q = d
by_size M a b c d e f g (suc (suc (suc (suc (suc (suc zero)))))) p q = e
by_size M a b c d e f g (suc (suc (suc (suc (suc (suc (suc zero))))))) p q = f
by_size M a b c d e f g (suc (suc (suc (suc (suc (suc (suc (suc zero)))))))) p q = g
by_size M a b c d e f g (suc (suc (suc (suc (suc (suc (suc (suc (suc n))))))))) p q = absurd (omega arith)

-- f 0 + .. + f (n - 1)
unfoldable pub sum : ℕ → (ℕ → ℕ) → ℕ
sum zero f = 0
sum (suc n) f = sum n f + f n

pub sum_le : (n : ℕ) (f g : ℕ → ℕ) → ((i : ℕ) → i < n → f i ≤ g i) → sum n f ≤ sum n g
unfolding sum
sum_le zero f g h = omega arith
sum_le (suc n) f g h = omega (arith, sum_le n f g (λ i q. h i (omega arith)), h n (omega arith))

-- where one of the terms is less, so is the sum
pub sum_lt : (n : ℕ) (f g : ℕ → ℕ) → ((i : ℕ) → i < n → f i ≤ g i) → (j : ℕ) → j < n → f j + 1 ≤ g j → sum n f + 1 ≤ sum n g
unfolding sum
sum_lt zero f g h j q l = absurd (omega arith)
sum_lt (suc n) f g h j q l = go (λ p. sum_lt n f g (λ i q. h i (omega arith)) j p l) (ℕ_discrete j n)
  where
    go : (j < n → sum n f + 1 ≤ sum n g) → Dec (j ≡ n) → sum n f + f n + 1 ≤ sum n g + g n
    go r (yes e) = let l' : f n + 1 ≤ g n = rw e at l in omega (arith, sum_le n f g (λ i q. h i (omega arith)))
    go r (no e) = omega (arith, r (omega arith), h n (omega arith))

-- two sums that differ in one term
pub sum_at : (n : ℕ) (f g : ℕ → ℕ) (j : ℕ) → j < n → ((i : ℕ) → i ≢ j → f i ≡ g i) → sum n f + g j ≡ sum n g + f j
unfolding sum
sum_at zero f g j q h = absurd (omega arith)
sum_at (suc n) f g j q h = go (λ p. sum_at n f g j p h) (ℕ_discrete j n)
  where
    same : (m : ℕ) → m ≤ j → sum m f ≡ sum m g
    same zero l = refl
    same (suc m) l = omega (arith, same m (omega arith), h m (λ e. omega arith))

    go : (j < n → sum n f + g j ≡ sum n g + f j) → Dec (j ≡ n) → sum n f + f n + g j ≡ sum n g + g n + f j
    go r (yes e) = rw e (omega (arith, same n (omega arith)))
    go r (no e) = omega (arith, r (omega arith), h n (λ d. e (sym d)))

-- ---- members

-- site i is in m and counts 1, or is not and counts 0
abbrev Spot : ℕ → ℕ → Type 0
Spot m i = ((one_if (has m i) ≡ 1) × In m i) ⊎ ((one_if (has m i) ≡ 0) × (has m i ≡ false))

spot : (m i : ℕ) → Spot m i
spot m i = ⊎_elim (λ e. inl (ap one_if e, e)) (λ e. inr (ap one_if e, e)) (either (has m i))

pub members_union : (a b w : ℕ) → members (union a b) w ≤ members a w + members b w
unfolding members
members_union a b zero = omega arith
members_union a b (suc w) = go (members_union a b w) (spot (union a b) (suc w)) (spot a (suc w)) (spot b (suc w))
  where
    go : members (union a b) w ≤ members a w + members b w → Spot (union a b) (suc w)
        → Spot a (suc w)
        → Spot b (suc w)
        → members (union a b) w + one_if (has (union a b) (suc w)) ≤ members a w + one_if (has a (suc w)) + (members b w + one_if (has b (suc w)))
    go ih (inr p) q r = omega arith
    go ih (inl p) (inl q) r = omega arith
    go ih (inl p) (inr q) (inl r) = omega arith
    go ih (inl p) (inr q) (inr r) = absurd (⊎_elim (λ h. clash h q.1) (λ h. clash h r.1) (union_in a b (suc w) p.1))

pub members_le : (a b w : ℕ) → ((i : ℕ) → In a i → In b i) → members a w ≤ members b w
unfolding members
members_le a b zero h = omega arith
members_le a b (suc w) h = go (members_le a b w h) (spot a (suc w)) (spot b (suc w))
  where
    go : members a w ≤ members b w → Spot a (suc w)
        → Spot b (suc w)
        → members a w + one_if (has a (suc w)) ≤ members b w + one_if (has b (suc w))
    go ih (inr p) q = omega arith
    go ih (inl p) (inl q) = omega arith
    go ih (inl p) (inr q) = absurd (clash (h (suc w) p.1) q.1)

-- a member taken out
pub members_without : (m j w : ℕ) → In m j → 1 ≤ j → j ≤ w → members (without m j) w + 1 ≤ members m w
unfolding members
members_without m j zero x p q = absurd (omega arith)
members_without m j (suc w) x p q = go (λ l. members_without m j w x p l) (ℕ_discrete j (suc w)) (spot (without m j) (suc w)) (spot m (suc w))
  where
    go : (j ≤ w → members (without m j) w + 1 ≤ members m w) → Dec (j ≡ suc w)
        → Spot (without m j) (suc w)
        → Spot m (suc w)
        → members (without m j) w + one_if (has (without m j) (suc w)) + 1 ≤ members m w + one_if (has m (suc w))
    go r (yes e) (inl a) b = absurd (without_out m j (suc w) a.1 (sym e))
    go r (yes e) (inr a) (inl b) = omega (arith, members_le (without m j) m w (without_in m j))
    go r (yes e) (inr a) (inr b) = absurd (clash (rw e at x) b.1)
    go r (no e) (inl a) (inl b) = omega (arith, r (omega arith))
    go r (no e) (inl a) (inr b) = absurd (clash (without_in m j (suc w) a.1) b.1)
    go r (no e) (inr a) b = omega (arith, r (omega arith))

-- members only above k and up to n
pub members_range : (m k n w : ℕ) → ((i : ℕ) → In m i → (k < i) × (i ≤ n)) → (members m w ≤ n - k) × (members m w ≤ w - k)
unfolding members
members_range m k n zero h = (omega arith, omega arith)
members_range m k n (suc w) h = go (members_range m k n w h) (spot m (suc w))
  where
    go : (members m w ≤ n - k) × (members m w ≤ w - k) → Spot m (suc w)
        → (members m w + one_if (has m (suc w)) ≤ n - k) × (members m w + one_if (has m (suc w)) ≤ suc w - k)
    go r (inl p) = (omega (arith, h (suc w) p.1, r.0, r.1), omega (arith, h (suc w) p.1, r.0, r.1))
    go r (inr p) = (omega (arith, r.0), omega (arith, r.1))

pub members_above : (m k n w : ℕ) → ((i : ℕ) → In m i → (k < i) × (i ≤ n)) → members m w ≤ n - k
members_above m k n w h = (members_range m k n w h).0

-- members up to n, and not j
pub members_others : (m j n w : ℕ) → 1 ≤ j → j ≤ n → ((i : ℕ) → In m i → (i ≢ j) × (i ≤ n)) → (members m w ≤ n - 1) × (members m w ≤ w) × (j ≤ w → members m w ≤ w - 1)
unfolding members
members_others m j n zero p q h = (omega arith, omega arith, λ l. omega arith)
members_others m j n (suc w) p q h = go (members_others m j n w p q h) (spot m (suc w)) (dec_lt w j)
  where
    go : (members m w ≤ n - 1) × (members m w ≤ w) × (j ≤ w → members m w ≤ w - 1) → Spot m (suc w) → Dec (w < j)
        → (members m w + one_if (has m (suc w)) ≤ n - 1) × (members m w + one_if (has m (suc w)) ≤ suc w) × (j ≤ suc w → members m w + one_if (has m (suc w)) ≤ suc w - 1)
    go r (inr s) d = (omega (arith, r.0, s.0), omega (arith, r.1, s.0), λ l. omega (arith, r.1, s.0))
    go r (inl s) (yes d) = let t = h (suc w) s.1 in let u : suc w ≢ j = t.0 in (omega (arith, r.1, s.0), omega (arith, r.1, s.0), λ l. absurd (omega arith))
    go r (inl s) (no d) = let t = h (suc w) s.1 in let e : members m w ≤ w - 1 = r.2 (omega arith) in (omega (arith, s.0, t.1), omega (arith, s.0), λ l. omega (arith, s.0))

pub members_only : (m k w : ℕ) → ((i : ℕ) → In m i → i ≡ k) → members m w ≤ 1
members_only m k w h = omega (arith, members_above m (k - 1) k w (λ i x. (omega (arith, h i x, (has_site m i x).least), omega (arith, h i x))))

pub members_none : (m w : ℕ) → ((i : ℕ) → In m i → ⊥) → members m w ≡ 0
members_none m w h = omega (arith, members_above m 0 0 w (λ i x. absurd (h i x)))

-- a set without members counts 0, and one that counts has a member
pub members_some : (m w : ℕ) → (members m w ≡ 0) ⊎ ((i : ℕ) × In m i)
unfolding members
members_some m zero = inl refl
members_some m (suc w) = go (members_some m w) (spot m (suc w))
  where
    go : (members m w ≡ 0) ⊎ ((i : ℕ) × In m i) → Spot m (suc w) → (members m w + one_if (has m (suc w)) ≡ 0) ⊎ ((i : ℕ) × In m i)
    go (inr x) q = inr x
    go (inl e) (inl p) = inr (suc w, p.1)
    go (inl e) (inr p) = inl (omega (arith, p.0))
