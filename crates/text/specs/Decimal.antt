-- Decimal numbers.
-- Assumes nothing.
use Rattle.std.specs.Prelude.{ℕ, zero, suc, ◌+◌, ◌*◌, ◌-◌, ◌/◌, ◌%◌, cond, List, [], ◌∷◌, ◌++◌, ltb}

-- at most so many digits of n, the last ones; the digit d is the byte 48 + d
abbrev pub digits_in : ℕ → ℕ → List ℕ
digits_in zero n = []
digits_in (suc k) n = cond (ltb n 10) ((48 + n) ∷ []) (digits_in k (n / 10) ++ ((48 + n % 10) ∷ []))

-- all digits of n, of which there are at most n + 1
unfoldable pub decimal : ℕ → List ℕ
decimal n = digits_in (suc n) n

-- what digits mean: each one is worth ten times the next
abbrev pub value_from : ℕ → List ℕ → ℕ
value_from v [] = v
value_from v (d ∷ ds) = value_from (10 * v + (d - 48)) ds

-- the number that digits mean
abbrev pub value_of : List ℕ → ℕ
value_of ds = value_from 0 ds
