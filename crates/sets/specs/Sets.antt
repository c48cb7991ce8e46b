-- Sets of sites as masks: what each operation computes. What it means, member by member, is in SetLaws.
-- Site j has weight 2 ^ (j - 1) (01, "Event record"). Sites are 1 to 8: any other number is in no set.
-- Assumes nothing.
use Rattle.std.specs.Prelude.{ℕ, ◌+◌, ◌-◌, ◌/◌, ◌%◌, ◌^◌, Bool, cond, ◌&&◌, eqb, leb, ltb}
use Rattle.std.specs.Int.Bits.{bit_and, bit_or, bit_xor}
use Rattle.std.specs.Int.Count.{ones, count_trailing_zeros}

-- the place of weight 2 ^ k is taken in m
unfoldable pub bit : ℕ → ℕ → Bool
bit m k = eqb (m / 2 ^ k % 2) 1

-- a number that a site can have: 1 to 8
unfoldable pub is_site : ℕ → Bool
is_site j = leb 1 j && leb j 8

-- site j is in m
unfoldable pub has : ℕ → ℕ → Bool
has m j = is_site j && bit m (j - 1)

-- the set of site j alone
unfoldable pub weight_of : ℕ → ℕ
weight_of j = cond (is_site j) (2 ^ (j - 1)) 0

-- the sites of either, of both, and of the first but not the second
unfoldable pub union : ℕ → ℕ → ℕ
union a b = bit_or a b

unfoldable pub both : ℕ → ℕ → ℕ
both a b = bit_and a b

unfoldable pub minus : ℕ → ℕ → ℕ
minus a b = bit_xor a (bit_and a b)

-- m with site j in it, and out of it
unfoldable pub with_site : ℕ → ℕ → ℕ
with_site m j = union m (weight_of j)

unfoldable pub without : ℕ → ℕ → ℕ
without m j = minus m (weight_of j)

-- every site of a is in b
unfoldable pub subset : ℕ → ℕ → Bool
subset a b = eqb (bit_and a b) a

-- sites 1 to n; 1 to n but for j; those below j
unfoldable pub all_of : ℕ → ℕ
all_of n = cond (ltb n 8) (2 ^ n - 1) 255

unfoldable pub others_of : ℕ → ℕ → ℕ
others_of n j = without (all_of n) j

unfoldable pub below_of : ℕ → ℕ
below_of j = all_of (j - 1)

-- how many sites are in m
unfoldable pub count_of : ℕ → ℕ
count_of m = ones m

-- the lowest site of m, 0 for none
unfoldable pub lowest_of : ℕ → ℕ
lowest_of m = cond (eqb m 0) 0 (count_trailing_zeros 8 m + 1)
