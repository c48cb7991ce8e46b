-- A transition reads a message of another site exactly where it reads one of those that the others read, put together.
-- Assumes nothing.
use Prim.Native.Nat.{ℕ, zero, suc, ◌+◌, ◌-◌, ◌≤◌, ◌*◌, ◌/◌, ◌%◌, ◌<◌, min, max}
use native.Mathlib.Nat.{zero-min, min-zero, zero-max, max-zero, suc-min-suc, suc-max-suc}
use mathlib.Core.Bool.{Bool, false, not, ◌||◌, or-false, and-false}
use Rattle.std.proofs.Math.Bool.{or_assoc}
use Rattle.std.specs.List.{fold, filter, list_any}
use mathlib.Core.List.{List, [], ◌∷◌}
use mathlib.Core.Path.{◌≡◌, refl, sym, ap, ap₂, ◌∙◌}
use native.Mathlib.Decide.{ℕ_discrete}
use native.Mathlib.Omega.{arith}
use borrow.Author.Tests.{eq-eqb, ne_eqb}
use lib.Arith.{bin_ind}
use lib.Bits.{bit_and, bit_or, and_step, or_step, and_comm, and_le_r, or_add_and}
use lib.Dec.{eqb}
use lib.ListN.{get_or, take}
use Rattle.sheet.specs.Index.{table}
use Rattle.sheet.proofs.IndexLaws.{table_at, any_padded}
use Rattle.sheet.specs.Record.{no_transition}
use Rattle.sheet.specs.Grounds.{shares, read_elsewhere}
use Rattle.sheet.specs.Faults.{read_beside}
use Rattle.sheet.specs.declared.Transition.{Transition}
use Rattle.sheet.specs.declared.Sheet.{Sheet}

-- a digit in common with one of two
min_of_max : (z x y : ℕ) → min z (max x y) ≡ max (min z x) (min z y)
min_of_max zero x y = simp (zero-min, zero-max)
min_of_max (suc z) zero y = simp (zero-max, min-zero)
min_of_max (suc z) (suc x) zero = simp (max-zero, min-zero)
min_of_max (suc z) (suc x) (suc y) = simp (suc-max-suc, suc-min-suc, min_of_max z x y)

max_small : (x y : ℕ) → x < 2 → y < 2 → max x y < 2
max_small x y a b = omega arith

min_small : (x y : ℕ) → x < 2 → min x y < 2
min_small x y a = omega arith

-- what a set has in common with a union is the union of what it has in common with each
and_or : (m a b : ℕ) → bit_and m (bit_or a b) ≡ bit_or (bit_and m a) (bit_and m b)
and_or = bin_ind (λ (n : ℕ). (a b : ℕ) → bit_and n (bit_or a b) ≡ bit_or (bit_and n a) (bit_and n b)) (λ a b. refl) step
  where
    step : (n : ℕ) → ((a b : ℕ) → bit_and (n / 2) (bit_or a b) ≡ bit_or (bit_and (n / 2) a) (bit_and (n / 2) b))
        → (a b : ℕ) → bit_and n (bit_or a b) ≡ bit_or (bit_and n a) (bit_and n b)
    step n ih a b =
        let half : bit_or a b / 2 ≡ bit_or (a / 2) (b / 2) = omega (arith, or_step a b, max_small (a % 2) (b % 2) (omega arith) (omega arith)) in
        let odd : bit_or a b % 2 ≡ max (a % 2) (b % 2) = omega (arith, or_step a b, max_small (a % 2) (b % 2) (omega arith) (omega arith)) in
        let half_a : bit_and n a / 2 ≡ bit_and (n / 2) (a / 2) = omega (arith, and_step n a, min_small (n % 2) (a % 2) (omega arith)) in
        let odd_a : bit_and n a % 2 ≡ min (n % 2) (a % 2) = omega (arith, and_step n a, min_small (n % 2) (a % 2) (omega arith)) in
        let half_b : bit_and n b / 2 ≡ bit_and (n / 2) (b / 2) = omega (arith, and_step n b, min_small (n % 2) (b % 2) (omega arith)) in
        let odd_b : bit_and n b % 2 ≡ min (n % 2) (b % 2) = omega (arith, and_step n b, min_small (n % 2) (b % 2) (omega arith)) in
        and_step n (bit_or a b)
        ∙ ap₂ (λ (x y : ℕ). x * 2 + y) (ap (bit_and (n / 2)) half ∙ ih (a / 2) (b / 2)) (ap (min (n % 2)) odd ∙ min_of_max (n % 2) (a % 2) (b % 2))
        ∙ sym (or_step (bit_and n a) (bit_and n b)
        ∙ ap₂ (λ (x y : ℕ). x * 2 + y) (ap₂ bit_or half_a half_b) (ap₂ max odd_a odd_b))

-- two sets have a message in common
abbrev meets : ℕ → ℕ → Bool
meets a m = not (eqb (bit_and a m) 0)

-- a union is empty where both sets are
some_or : (a b : ℕ) → not (eqb (bit_or a b) 0) ≡ (not (eqb a 0) || not (eqb b 0))
some_or a b = go (ℕ_discrete a 0)
  where
    go : Dec (a ≡ 0) → not (eqb (bit_or a b) 0) ≡ (not (eqb a 0) || not (eqb b 0))
    go (yes e) = rw (e)
    go (no d) = simp (ne_eqb _ _ d, ne_eqb (bit_or a b) 0 (λ z. d (omega (arith, z, or_add_and a b, and_le_r a b))))

meets_or : (m a b : ℕ) → meets (bit_or a b) m ≡ (meets a m || meets b m)
meets_or m a b =
    ap (λ (x : ℕ). not (eqb x 0)) (and_comm (bit_or a b) m ∙ and_or m a b ∙ ap₂ bit_or (and_comm m a) (and_comm m b))
    ∙ some_or (bit_and a m) (bit_and b m)

-- where a sheet has no transition, none is shared
shares_none : (t : Transition) → shares t no_transition ≡ false
unfolding shares
shares_none t = and-false (not (eqb 0 t.site))

module _ (t : Transition) where
  -- a set that takes in what transitions of other sites read meets a message that t reads where it did, or one of them shares it
  read_among : (m : ℕ) (l : List Transition)
      → meets (fold (λ (reads : ℕ) (u : Transition). bit_or reads u.reads) m (filter (λ (u : Transition). not (eqb u.site t.site)) l)) t.reads
      ≡ (meets m t.reads || list_any (shares t) l)
  unfolding shares
  read_among m [] = sym (or-false (meets m t.reads))
  read_among m (u ∷ l) = go (λ k. read_among k l) (ℕ_discrete u.site t.site)
    where
      rest : ℕ → ℕ
      rest k = fold (λ (reads : ℕ) (v : Transition). bit_or reads v.reads) k (filter (λ (v : Transition). not (eqb v.site t.site)) l)

      go : ((k : ℕ) → meets (rest k) t.reads ≡ (meets k t.reads || list_any (shares t) l)) → Dec (u.site ≡ t.site)
          → meets (fold (λ (reads : ℕ) (v : Transition). bit_or reads v.reads) m (filter (λ (v : Transition). not (eqb v.site t.site)) (u ∷ l))) t.reads
          ≡ (meets m t.reads || (shares t u || list_any (shares t) l))
      go before (yes e) = simp (eq-eqb _ _ e) (before m)
      go before (no d) =
          simp (ne_eqb _ _ d)
          (before (bit_or m u.reads) ∙ ap (λ (x : Bool). x || list_any (shares t) l) (meets_or t.reads m u.reads) ∙ or_assoc (meets m t.reads) _ _)

  -- what the others of its site read, of four sites
  pub shared : (moves : List Transition) (l : List ℕ) → l ≡ table (λ (p : ℕ). read_beside (p + 1) moves) 4 → 1 ≤ t.site → t.site ≤ 4
      → meets (get_or l (t.site - 1) 0) t.reads ≡ list_any (shares t) moves
  shared moves l e least most =
      ap (λ (x : ℕ). meets x t.reads)
      (ap (λ (x : List ℕ). get_or x (t.site - 1) 0) e ∙ table_at _ 4 (t.site - 1) 0 (omega arith) ∙ ap (λ (x : ℕ). read_beside x moves) (omega arith))
      ∙ read_among 0 moves

module _ (s : Sheet) (t : Transition) where
  -- what the others of its site read of a sheet's transitions, of four sites
  pub read_elsewhere_lem : (l : List ℕ) → l ≡ table (λ (p : ℕ). read_beside (p + 1) (take s.moves s.transitions)) 4 → t.site - 1 < 4 → t.site ≡ t.site - 1 + 1
      → meets (get_or l (t.site - 1) 0) t.reads ≡ read_elsewhere s t
  unfolding read_elsewhere
  read_elsewhere_lem l e h one =
      shared t (take s.moves s.transitions) l e (omega (arith, one)) (omega (arith, h, one))
      ∙ any_padded (shares t) no_transition s.transitions s.moves (shares_none t)
