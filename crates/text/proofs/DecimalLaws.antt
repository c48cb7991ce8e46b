-- Laws of decimal numbers: digit by digit, what the digits mean, and how many there are.
-- Assumes nothing.
use Prim.Native.Nat.{ℕ, zero, suc, ◌+◌, ◌*◌, ◌-◌, ◌/◌, ◌%◌, ◌^◌, ◌≤◌, ◌<◌}
use mathlib.Core.Bool.{Bool, true, false, cond}
use mathlib.Core.List.{List, [], ◌∷◌, ◌++◌}
use mathlib.Core.Path.{◌≡◌, refl, ap, ◌∙◌}
use native.Mathlib.Nat.{pow-suc}
use native.Mathlib.Omega.{arith}
use native.Mathlib.Decide.{dec_lt}
use borrow.Author.Tests.{lt-ltb, le-ltb, ltb-false}
use lib.Dec.{ltb}
use lib.ListN.{length, length-append}
use Rattle.text.specs.Decimal.{digits_in, decimal, value_from, value_of}

-- ---- digit by digit

enough : (k j n : ℕ) → n < k → n < j → digits_in k n ≡ digits_in j n
enough zero j n h i = absurd (omega arith)
enough (suc k) zero n h i = absurd (omega arith)
enough (suc k) (suc j) n h i = go (ltb n 10) refl (λ l. enough k j (n / 10) (omega arith) (omega arith))
  where
    go : (b : Bool) → ltb n 10 ≡ b → (10 ≤ n → digits_in k (n / 10) ≡ digits_in j (n / 10))
        → cond b ((48 + n) ∷ []) (digits_in k (n / 10) ++ ((48 + n % 10) ∷ [])) ≡ cond b ((48 + n) ∷ []) (digits_in j (n / 10) ++ ((48 + n % 10) ∷ []))
    go true p e = refl
    go false p e = ap (λ (l : List ℕ). l ++ ((48 + n % 10) ∷ [])) (e (ltb-false n 10 p))

-- a number below ten is one digit
pub decimal_one : (n : ℕ) → n < 10 → decimal n ≡ (48 + n) ∷ []
unfolding decimal
decimal_one n h = simp (lt-ltb n 10 h)

-- any other is the digits of its tens, then its ones
pub decimal_more : (n : ℕ) → 10 ≤ n → decimal n ≡ decimal (n / 10) ++ ((48 + n % 10) ∷ [])
unfolding decimal
decimal_more n h =
    simp (le-ltb n 10 h) (ap (λ (l : List ℕ). l ++ ((48 + n % 10) ∷ [])) (enough n (suc (n / 10)) (n / 10) (omega arith) (omega arith)))

-- a claim that holds of the digits below ten, and goes from the tens to the number, holds of every number
by_digits : (P : ℕ → Type 0) → ((n : ℕ) → n < 10 → P n) → ((n : ℕ) → 10 ≤ n → P (n / 10) → P n) → (k n : ℕ) → n < k → P n
by_digits P one more zero n h = absurd (omega arith)
by_digits P one more (suc k) n h = go (dec_lt n 10) (λ l. by_digits P one more k (n / 10) (omega arith))
  where
    go : Dec (n < 10) → (10 ≤ n → P (n / 10)) → P n
    go (yes l) e = one n l
    go (no l) e = more n (omega arith) (e (omega arith))

-- ---- what the digits mean

value_append : (v : ℕ) (xs ys : List ℕ) → value_from v (xs ++ ys) ≡ value_from (value_from v xs) ys
value_append v [] ys = refl
value_append v (x ∷ xs) ys = value_append (10 * v + (x - 48)) xs ys

-- the digits of a number are worth that number
pub value_decimal : (n : ℕ) → value_of (decimal n) ≡ n
value_decimal n =
    by_digits (λ (m : ℕ). value_of (decimal m) ≡ m)
    (λ m h. ap value_of (decimal_one m h) ∙ omega arith)
    (λ m h e. ap value_of (decimal_more m h) ∙ value_append 0 (decimal (m / 10)) ((48 + m % 10) ∷ []) ∙ ap (λ (v : ℕ). 10 * v + (48 + m % 10 - 48)) e ∙ omega arith)
    (suc n) n (omega arith)

-- ---- how many there are

-- one more than its tens have
pub width_more : (n : ℕ) → 10 ≤ n → length (decimal n) ≡ length (decimal (n / 10)) + 1
width_more n h = ap length (decimal_more n h) ∙ length-append (decimal (n / 10)) ((48 + n % 10) ∷ [])

-- a number below 10 ^ k, with k at least 1, has at most k digits
pub width_decimal : (k n : ℕ) → n < 10 ^ suc k → length (decimal n) ≤ suc k
width_decimal zero n h = omega (arith, ap length (decimal_one n (omega (arith, pow-suc 10 0))))
width_decimal (suc k) n h = go (dec_lt n 10) (λ l. width_decimal k (n / 10) (omega (arith, pow-suc 10 (suc k))))
  where
    go : Dec (n < 10) → (10 ≤ n → length (decimal (n / 10)) ≤ suc k) → length (decimal n) ≤ suc (suc k)
    go (yes l) e = omega (arith, ap length (decimal_one n l))
    go (no l) e = omega (arith, width_more n (omega arith), e (omega arith))
