-- `is_miscounted` meets its contract: a count that is missing is 0, which is outside the range of one.
-- Assumes nothing.
use Prim.Native.Nat.{ℕ, ◌+◌, ◌-◌, ◌≤◌, ◌<◌}
use mathlib.Core.Bool.{true}
use mathlib.Core.List.{List}
use mathlib.Core.Path.{◌≡◌, sym, ap, ◌∙◌}
use native.Mathlib.Omega.{arith}
use lib.ListN.{length, get_or, drop, get_or-eq_default}
use lib.Seq.{get_or-take, get_or-drop}
use Rattle.std.specs.List.{list_any, slice_range}
use Rattle.sheet.specs.Index.{some_below}
use Rattle.sheet.specs.Grounds.{outside, miscounted_at, miscounted}
use Rattle.sheet.proofs.FineLaws.{among}
use Rattle.sheet.proofs.IndexLaws.{some_found, any_of, some_same}
use Rattle.sheet.proofs.frame.is_miscounted.Goals as goal

-- where a count is missing, the last one is
missing : (l : List ℕ) (n : ℕ) → 1 ≤ n → length l < 4 + n → some_below (miscounted_at l) n ≡ true
unfolding miscounted_at outside
missing l n some few =
    some_found (miscounted_at l) n (n - 1) (omega arith) (ap (outside 1 8) (get_or-eq_default l 0 {n = 4 + (n - 1)} (omega arith)))

-- the counts that are there
there : (l cs : List ℕ) (n : ℕ) → cs ≡ slice_range l 4 (4 + n) → length cs + 4 ≡ 4 + n → list_any (outside 1 8) cs ≡ some_below (miscounted_at l) n
unfolding miscounted_at
there l cs n e long =
    any_of (outside 1 8) 0 cs n (omega arith)
    ∙ some_same _ _ n (λ k h. ap (outside 1 8) (ap (λ (x : List ℕ). get_or x k 0) e ∙ get_or-take (4 + n - 4) (drop 4 l) k 0 (omega arith) ∙ get_or-drop 4 l k 0))

pub returns-then-is_outside : goal.returns-then-is_outside
unfolding miscounted
returns-then-is_outside c = simp (← c.byte_at-sites.ensures, ← c.is_outside.ensures, c.if-is_outside.true)

pub returns-in_default : goal.returns-in_default
unfolding miscounted
returns-in_default c =
    let sites : 2 ≤ c.byte_at-sites.result = (among 2 4 _ (sym c.is_outside.ensures ∙ c.if-is_outside.false)).low in
    let few : length c.args.bytes.now < 4 + c.byte_at-sites.result = omega (arith, c.in_default.ensures.lookup.0) in
    simp (← c.byte_at-sites.ensures, ← c.is_outside.ensures, c.if-is_outside.false) (sym (missing c.args.bytes.now c.byte_at-sites.result (omega arith) few))

pub returns : goal.returns
unfolding miscounted
returns c =
    let found = c.in-Some.ensures.lookup.0 in
    simp (← c.byte_at-sites.ensures, ← c.is_outside.ensures, c.if-is_outside.false) (c.has_wrong_count.ensures ∙ there c.args.bytes.now c.in-Some.counts.now c.byte_at-sites.result found.2 found.3)
