-- Laws of some_below, sum_below and table, and what they are to std's `list_any` and `sum_by`.
-- Assumes nothing.
use Prim.Native.Nat.{ℕ, zero, suc, ◌+◌, ◌-◌, ◌≤◌, ◌<◌}
use mathlib.Core.Bool.{Bool, true, false, ◌&&◌, ◌||◌, false≢true, or-true, or-false}
use mathlib.Core.List.{List, [], ◌∷◌, ◌++◌}
use mathlib.Core.Path.{◌≡◌, refl, sym, ap, ap₂, ◌∙◌}
use native.Mathlib.Decide.{ℕ_discrete, dec_lt}
use native.Mathlib.Nat.{add-suc, zero-add}
use native.Mathlib.Numerals.{add-one}
use native.Mathlib.Omega.{arith}
use borrow.Author.Tests.{le-leb, lt-leb}
use lib.Dec.{leb}
use lib.ListN.{length, get_or, take, drop, length-append, length-drop, drop_of_length-le, get_or-append}
use lib.Seq.{get_or_at, get_or-drop, get_or-take, length-take-le, ext_get_or, take_all, take-append-le, drop-append-le}
use Rattle.std.specs.List.{list_any, sum_by, enumerate_from, range_with_len}
use Rattle.std.proofs.lemmas.List.{get_or_past}
use Rattle.std.proofs.lemmas.List.FromFn.{length-enumerate_from, get_or-enumerate_from, length-range_with_len, get_or-range_with_len}
use Rattle.std.proofs.lemmas.List.Folds.{list_any_more}
use Rattle.std.proofs.lemmas.List.Sums.{sum_by_more}
use Rattle.sheet.specs.Index.{some_below, sum_below, table}

or_left : (a b : Bool) → a ≡ true → (a || b) ≡ true
or_left true b e = refl
or_left false b e = absurd (false≢true e)

-- both halves of what holds, and of what does not
pub and_both : (a b : Bool) → (a && b) ≡ true → (a ≡ true) × (b ≡ true)
and_both true b e = (refl, e)
and_both false b e = absurd (false≢true e)

pub or_neither : (a b : Bool) → (a || b) ≡ false → (a ≡ false) × (b ≡ false)
or_neither true b e = absurd (false≢true (sym e))
or_neither false b e = (refl, e)

-- a number that passes is found
pub some_found : (f : ℕ → Bool) (n k : ℕ) → k < n → f k ≡ true → some_below f n ≡ true
unfolding some_below
some_found f zero k h e = absurd (omega arith)
some_found f (suc n) k h e = go (λ l. some_found f n k l e) (ℕ_discrete k n)
  where
    go : (k < n → some_below f n ≡ true) → Dec (k ≡ n) → (some_below f n || f n) ≡ true
    go r (yes q) = ap (λ (b : Bool). some_below f n || b) (ap f (sym q) ∙ e) ∙ or-true (some_below f n)
    go r (no q) = or_left (some_below f n) (f n) (r (omega arith))

-- where nothing is found, no number passes
pub none_at : (f : ℕ → Bool) (n k : ℕ) → some_below f n ≡ false → k < n → f k ≡ false
none_at f n k e h = go (f k) refl
  where
    go : (b : Bool) → f k ≡ b → f k ≡ false
    go false p = p
    go true p = absurd (false≢true (sym e ∙ some_found f n k h p))

-- where none passes, nothing is found
pub none_found : (f : ℕ → Bool) (n : ℕ) → ((k : ℕ) → k < n → f k ≡ false) → some_below f n ≡ false
unfolding some_below
none_found f zero h = refl
none_found f (suc n) h = ap₂ (λ (a b : Bool). a || b) (none_found f n (λ k b. h k (omega arith))) (h n (omega arith))

-- a number below n that passes
pub record Found (f : ℕ → Bool) (n : ℕ) : Type 0 where
  pub place : ℕ
  pub below : place < n
  pub passes : f place ≡ true

pub found_some : (f : ℕ → Bool) (n : ℕ) → some_below f n ≡ true → Found f n
unfolding some_below
found_some f zero e = absurd (false≢true e)
found_some f (suc n) e = go (found_some f n) (f n) refl (some_below f n) refl
  where
    go : (some_below f n ≡ true → Found f n) → (b : Bool) → f n ≡ b → (a : Bool) → some_below f n ≡ a → Found f (suc n)
    go before true p a q = record { place = n; below = omega arith; passes = p }
    go before false p true q =
        let r : Found f n = before q in
        record { place = r.place; below = omega (arith, r.below); passes = r.passes }
    go before false p false q = absurd (false≢true (sym (ap₂ (λ (x y : Bool). x || y) q p) ∙ e))

-- a search below n that has passed i numbers and found nothing
pub record Unfound (f : ℕ → Bool) (n i : ℕ) : Type 0 where
  pub within : i ≤ n
  pub none : some_below f i ≡ false

pub search_begins : (f : ℕ → Bool) (n : ℕ) → Unfound f n 0
unfolding some_below
search_begins f n = record { within = omega arith; none = refl }

pub search_goes_on : {f : ℕ → Bool} {n i : ℕ} → Unfound f n i → i < n → f i ≡ false → Unfound f n (i + 1)
unfolding some_below
search_goes_on {f} {n} {i} u h e =
    record { within = omega arith; none = ap (some_below f) (add-one i) ∙ ap₂ (λ (a b : Bool). a || b) u.none e }

pub search_ends : {f : ℕ → Bool} {n i : ℕ} → Unfound f n i → n ≤ i → some_below f n ≡ false
search_ends {f} {n} {i} u h = ap (some_below f) (omega (arith, u.within)) ∙ u.none

-- two tests that agree below n find the same
pub some_same : (f g : ℕ → Bool) (n : ℕ) → ((k : ℕ) → k < n → f k ≡ g k) → some_below f n ≡ some_below g n
unfolding some_below
some_same f g zero h = refl
some_same f g (suc n) h =
    ap₂ (λ (a b : Bool). a || b) (some_same f g n (λ k l. h k (omega arith))) (h n (omega arith))

-- a search that goes on finds no more where the rest does not pass
pub some_fewer : (f g : ℕ → Bool) (n m : ℕ) → n ≤ m → ((k : ℕ) → k < n → f k ≡ g k) → ((k : ℕ) → n ≤ k → k < m → g k ≡ false)
    → some_below f n ≡ some_below g m
unfolding some_below
some_fewer f g n zero h same none = ap (some_below f) (let e : n ≡ 0 = omega arith in e)
some_fewer f g n (suc m) h same none = go (some_fewer f g n m) (dec_lt m n)
  where
    go : (n ≤ m → ((k : ℕ) → k < n → f k ≡ g k) → ((k : ℕ) → n ≤ k → k < m → g k ≡ false) → some_below f n ≡ some_below g m)
        → Dec (m < n) → some_below f n ≡ (some_below g m || g m)
    go before (yes l) = ap (some_below f) (let e : n ≡ suc m = omega arith in e) ∙ some_same f g (suc m) (λ k b. same k (omega arith))
    go before (no l) =
        before (omega arith) same (λ k a b. none k a (omega arith))
        ∙ sym (ap (λ (b : Bool). some_below g m || b) (none m (omega arith) (omega arith)) ∙ or-false (some_below g m))

-- a search that begins at m finds what one from the start finds that passes over the numbers before m
some_from : (f : ℕ → Bool) (m n : ℕ) → some_below (λ (i : ℕ). f (m + i)) n ≡ some_below (λ (i : ℕ). leb m i && f i) (m + n)
unfolding some_below
some_from f m zero = sym (none_found (λ (i : ℕ). leb m i && f i) (m + 0) (λ k h. simp (lt-leb m k (omega arith))))
some_from f m (suc n) =
    ap₂ (λ (a b : Bool). a || b) (some_from f m n) (sym (simp (le-leb m (m + n) (omega arith))))
    ∙ sym (ap (some_below (λ (i : ℕ). leb m i && f i)) (add-suc m n))

-- some element of a list's first n passes a test exactly where the test at some place below n does
pub any_take : {A : Type 0} (p : A → Bool) (d : A) (xs : List A) (n : ℕ) → n ≤ length xs → list_any p (take n xs) ≡ some_below (λ (i : ℕ). p (get_or xs i d)) n
unfolding some_below
any_take p d xs zero h = refl
any_take p d xs (suc n) h =
    ap (λ (k : ℕ). list_any p (take k xs)) (sym (add-one n))
    ∙ list_any_more p xs n d (omega arith)
    ∙ ap (λ (b : Bool). b || p (get_or xs n d)) (any_take p d xs n (omega arith))

-- and of any n, where what is read past the end does not pass
pub any_padded : {A : Type 0} (p : A → Bool) (d : A) (xs : List A) (n : ℕ) → p d ≡ false → list_any p (take n xs) ≡ some_below (λ (i : ℕ). p (get_or xs i d)) n
unfolding some_below
any_padded p d xs zero none = refl
any_padded p d xs (suc n) none = go (any_padded p d xs n none) (dec_lt n (length xs))
  where
    go : list_any p (take n xs) ≡ some_below (λ (i : ℕ). p (get_or xs i d)) n → Dec (n < length xs)
        → list_any p (take (suc n) xs) ≡ (some_below (λ (i : ℕ). p (get_or xs i d)) n || p (get_or xs n d))
    go before (yes h) = any_take p d xs (suc n) (omega arith)
    go before (no h) =
        ap (list_any p) (take_all (suc n) xs (omega (arith, h)) ∙ sym (take_all n xs (omega (arith, h))))
        ∙ before
        ∙ sym (or-false _)
        ∙ ap (λ (b : Bool). some_below (λ (i : ℕ). p (get_or xs i d)) n || b) (sym (ap p (get_or_past xs n d (omega (arith, h))) ∙ none))

-- and of all, where there are n
pub any_of : {A : Type 0} (p : A → Bool) (d : A) (xs : List A) (n : ℕ) → length xs ≡ n → list_any p xs ≡ some_below (λ (i : ℕ). p (get_or xs i d)) n
any_of p d xs n e = ap (list_any p) (sym (take_all n xs (omega arith))) ∙ any_take p d xs n (omega arith)

-- and of the numbers below n
pub any_range : (p : ℕ → Bool) (n : ℕ) → list_any p (range_with_len 0 n) ≡ some_below p n
any_range p n =
    any_of p 0 (range_with_len 0 n) n (length-range_with_len 0 n)
    ∙ some_same _ p n (λ k h. ap p (get_or-range_with_len 0 n k 0 h ∙ omega arith))

-- of the elements from m on, up to the n that there are
pub any_beyond : {A : Type 0} (p : A → Bool) (d : A) (xs : List A) (m n : ℕ) → length xs ≡ n → m ≤ n
    → list_any p (take (n - m) (drop m xs)) ≡ some_below (λ (i : ℕ). leb m i && p (get_or xs i d)) n
any_beyond p d xs m n e h =
    any_take p d (drop m xs) (n - m) (omega (arith, length-drop m xs))
    ∙ some_same _ _ (n - m) (λ k b. ap p (get_or-drop m xs k d))
    ∙ some_from (λ (i : ℕ). p (get_or xs i d)) m (n - m)
    ∙ ap (some_below (λ (i : ℕ). leb m i && p (get_or xs i d))) (let all : m + (n - m) ≡ n = omega arith in all)

-- the same of a test that is given the place too
pub any_placed : {A : Type 0} (p : ℕ × A → Bool) (d : A) (xs : List A) (n : ℕ) → length xs ≡ n → list_any p (enumerate_from 0 xs) ≡ some_below (λ (i : ℕ). p (i, get_or xs i d)) n
any_placed p d xs n e =
    any_of p (0, d) (enumerate_from 0 xs) n (length-enumerate_from 0 xs ∙ e)
    ∙ some_same _ _ n (λ k b. ap p (get_or-enumerate_from 0 xs k (0, d) (omega (arith, e)) ∙ ap (λ (i : ℕ). (i, get_or xs k d)) (zero-add k)))

pub sum_none : (f : ℕ → ℕ) → sum_below f 0 ≡ 0
unfolding sum_below
sum_none f = refl

-- a sum below a number is within the sum below a larger one
pub sum_within : (f : ℕ → ℕ) (i n : ℕ) → i < n → sum_below f i + f i ≤ sum_below f n
unfolding sum_below
sum_within f i zero h = absurd (omega arith)
sum_within f i (suc n) h = go (sum_within f i n) (ℕ_discrete i n)
  where
    go : (i < n → sum_below f i + f i ≤ sum_below f n) → Dec (i ≡ n) → sum_below f i + f i ≤ sum_below f n + f n
    go before (yes e) = omega (arith, ap (sum_below f) e, ap f e)
    go before (no d) = omega (arith, before (omega arith))

pub sum_more : (f : ℕ → ℕ) (n : ℕ) → sum_below f (n + 1) ≡ sum_below f n + f n
unfolding sum_below
sum_more f n = ap (sum_below f) (add-one n)

-- what f gives of a list's first n elements, summed up
sum_take : {A : Type 0} (f : A → ℕ) (d : A) (xs : List A) (n : ℕ) → n ≤ length xs → sum_by f (take n xs) ≡ sum_below (λ (i : ℕ). f (get_or xs i d)) n
unfolding sum_below
sum_take f d xs zero h = refl
sum_take f d xs (suc n) h =
    ap (λ (k : ℕ). sum_by f (take k xs)) (sym (add-one n))
    ∙ sum_by_more f xs n d (omega arith)
    ∙ ap (λ (k : ℕ). k + f (get_or xs n d)) (sum_take f d xs n (omega arith))

-- and of all, where there are n
pub sum_of : {A : Type 0} (f : A → ℕ) (d : A) (xs : List A) (n : ℕ) → length xs ≡ n → sum_by f xs ≡ sum_below (λ (i : ℕ). f (get_or xs i d)) n
sum_of f d xs n e = ap (sum_by f) (sym (take_all n xs (omega arith))) ∙ sum_take f d xs n (omega arith)

module _ {A : Type 0} where
  pub length_table : (f : ℕ → A) (n : ℕ) → length (table f n) ≡ n
  unfolding table
  length_table f zero = refl
  length_table f (suc n) = length-append (table f n) (f n ∷ []) ∙ omega (arith, length_table f n)

  pub table_same : (f g : ℕ → A) (n : ℕ) → ((k : ℕ) → k < n → f k ≡ g k) → table f n ≡ table g n
  unfolding table
  table_same f g zero h = refl
  table_same f g (suc n) h =
      ap₂ (λ (x : List A) (y : A). x ++ (y ∷ [])) (table_same f g n (λ k b. h k (omega arith))) (h n (omega arith))

  pub table_take : (f : ℕ → A) (n m : ℕ) → m ≤ n → take m (table f n) ≡ table f m
  unfolding table
  table_take f zero m h = none m (omega arith)
    where
      none : (m : ℕ) → m ≡ 0 → take m (table f zero) ≡ table f m
      none m e = ap (λ (k : ℕ). take k []) e ∙ ap (table f) (sym e)
  table_take f (suc n) m h = go (table_take f n m) (ℕ_discrete m (suc n))
    where
      go : (m ≤ n → take m (table f n) ≡ table f m) → Dec (m ≡ suc n) → take m (table f n ++ (f n ∷ [])) ≡ table f m
      go before (yes q) = take_all m (table f n ++ (f n ∷ [])) (omega (arith, q, length-append (table f n) (f n ∷ []), length_table f n)) ∙ ap (table f) (sym q)
      go before (no q) =
          take-append-le m (table f n) (f n ∷ []) (omega (arith, length_table f n)) ∙ before (omega arith)

  -- the places from m on
  pub table_drop : (f : ℕ → A) (m n : ℕ) → drop m (table f (m + n)) ≡ table (λ (k : ℕ). f (m + k)) n
  unfolding table
  table_drop f m zero = drop_of_length-le (table f (m + 0)) {i = m} (omega (arith, length_table f (m + 0)))
  table_drop f m (suc n) =
      ap (λ (k : ℕ). drop m (table f k)) (add-suc m n)
      ∙ drop-append-le m (table f (m + n)) (f (m + n) ∷ []) (omega (arith, length_table f (m + n)))
      ∙ ap (λ (l : List A). l ++ (f (m + n) ∷ [])) (table_drop f m n)

  pub table_at : (f : ℕ → A) (n k : ℕ) (d : A) → k < n → get_or (table f n) k d ≡ f k
  unfolding table
  table_at f zero k d h = absurd (omega arith)
  table_at f (suc n) k d h = go (table_at f n k d) (ℕ_discrete k n)
    where
      go : (k < n → get_or (table f n) k d ≡ f k) → Dec (k ≡ n) → get_or (table f n ++ (f n ∷ [])) k d ≡ f k
      go before (yes q) = get_or_at (table f n) (f n) [] d k (length_table f n ∙ sym q) ∙ ap f (sym q)
      go before (no q) =
          let l : k < length (table f n) = omega (arith, length_table f n) in
          get_or-append (table f n) (f n ∷ []) d k l ∙ before (omega arith)

  -- n elements from a place on
  pub part_table : (l : List A) (d : A) (at n : ℕ) → at + n ≤ length l → take n (drop at l) ≡ table (λ (k : ℕ). get_or l (at + k) d) n
  part_table l d at n h =
      let f : ℕ → A = λ k. get_or l (at + k) d in
      let long : length (take n (drop at l)) ≡ n = length-take-le n (drop at l) (omega (arith, length-drop at l)) in
      ext_get_or d (take n (drop at l)) (table f n) (long ∙ sym (length_table f n))
      (λ k b. get_or-take n (drop at l) k d (omega (arith, long)) ∙ get_or-drop at l k d ∙ sym (table_at f n k d (omega (arith, long))))
