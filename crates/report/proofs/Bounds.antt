-- No text is longer than 3,731 bytes.
-- Assumes nothing.
use Prim.Native.Nat.{ℕ, zero, suc, ◌+◌, ◌-◌, ◌*◌, ◌/◌, ◌%◌, ◌≤◌, ◌<◌}
use mathlib.Core.Bool.{Bool, true, false, cond, not}
use mathlib.Core.List.{List, [], ◌∷◌, ◌++◌, flatten}
use mathlib.Core.Path.{◌≡◌, refl, ap, ◌∙◌}
use mathlib.Core.Logic.{◌≢◌}
use native.Mathlib.Omega.{arith}
use native.Mathlib.Decide.{dec_lt}
use borrow.Author.Tests.{ne_eqb, lt-ltb, le-ltb}
use Rattle.std.proofs.Common.{Option, Some, None}
use Rattle.std.specs.Option.{unwrap_or}
use lib.Dec.{eqb, leb, ltb, lit≤}
use lib.ListN.{length, get_or, length-append}
use Rattle.text.specs.Said.{said}
use Rattle.text.specs.Decimal.{decimal}
use Rattle.text.proofs.DecimalLaws.{width_decimal}
use Rattle.sets.specs.Sets.{bit}
use Rattle.sets.proofs.SetLaws.{one_if}
use Rattle.sheet.specs.Index.{sum_below}
use Rattle.sheet.specs.Fine.{Fine}
use Rattle.sheet.specs.declared.Sheet.{Sheet}
use Rattle.judge.specs.Facts.{tolerance_of, condition_number, stands, mark_of, no_local, Ruling, Obeying, Says}
use Rattle.judge.specs.Facts.Ruling.{nonblocking, blocking}
use Rattle.judge.specs.Facts.Obeying.{start, more, same}
use Rattle.judge.specs.declared.Condition.{Condition}
use Rattle.judge.specs.declared.Condition.TheVariants.{First, Second}
use Rattle.judge.specs.declared.Decision.{Decision}
use Rattle.judge.specs.declared.Decision.TheVariants.{Unreached, Abort, Commit, Blocked}
use Rattle.judge.specs.declared.Local.{Local}
use Rattle.judge.specs.declared.Verdict.{Verdict}
use Rattle.report.specs.Report.{up_to, name_of, mark_word, yes_word, decision_word, member_of, member_in, members_of, set_word, state_line, line_in, state_lines, head_line, blocking_line, blocking_or_none, ruling_line, tolerance_line, refused_line, accepted_text}

-- ---- pieces

-- a piece more
join_more : (p : List ℕ) (ps : List (List ℕ)) → length (flatten (p ∷ ps)) ≡ length p + length (flatten ps)
unfolding flatten
join_more p ps = length-append p (flatten ps)

join_none : length (flatten {A = ℕ} []) ≡ 0
unfolding flatten
join_none = refl

digit : (n : ℕ) → n < 10 → length (decimal n) ≤ 1
digit n h = width_decimal 0 n (omega arith)

name_size : (p : ℕ) → p < 32 → length (name_of p) ≤ 3
unfolding name_of
name_size p h =
    omega (
      arith,
      join_more (decimal (p / 8 + 1)) (said "." ∷ decimal (p % 8) ∷ []),
      join_more (said ".") (decimal (p % 8) ∷ []),
      join_more (decimal (p % 8)) [],
      join_none,
      digit (p / 8 + 1) (omega arith),
      digit (p % 8) (omega arith),
    )

mark_size : (m : ℕ) → length (mark_word m) ≤ 3
unfolding mark_word
mark_size m = go (eqb m 0) (eqb m 1)
  where
    go : (a b : Bool) → length (cond a (said " w ") (cond b (said " a ") (said " c "))) ≤ 3
    go true b = omega arith
    go false true = omega arith
    go false false = omega arith

yes_size : (b : Bool) → length (yes_word b) ≤ 2
unfolding yes_word
yes_size true = omega arith
yes_size false = omega arith

decision_size : (d : Decision) → length (decision_word d) ≤ 8
unfolding decision_word
decision_size Unreached = omega arith
decision_size Abort = omega arith
decision_size Commit = omega arith
decision_size Blocked = omega arith

-- ---- a set: of 32 local states, 24 are of other sites

-- so many of the first k local states are not of site i + 1
others : ℕ → ℕ → ℕ
others i k = sum_below (λ q. one_if (not (eqb (q / 8) i))) k

others_24 : (i : ℕ) → i < 4 → others i 32 ≡ 24
unfolding others sum_below
others_24 zero h = refl
others_24 (suc zero) h = refl
others_24 (suc (suc zero)) h = refl
others_24 (suc (suc (suc zero))) h = refl
others_24 (suc (suc (suc (suc i)))) h = absurd (omega arith)

member_size : (later : Bool) (q : ℕ) → q < 32 → length (member_of later q) ≤ 3 + one_if later
unfolding member_of
member_size true q h = omega (arith, join_more (said ",") (name_of q ∷ []), join_more (name_of q) [], join_none, name_size q h)
member_size false q h = omega (arith, name_size q h)

module _ (m i : ℕ) (out : (q : ℕ) → bit m q ≡ true → q / 8 ≢ i) where
  abbrev below : ℕ → List ℕ
  below k = up_to (λ q before. member_in m q (ltb 0 (length before))) k

  -- the members below k take four bytes each, but the first three
  members_size : (k : ℕ) → k ≤ 32 → length (below k) ≤ 4 * others i k - 1
  unfolding up_to others sum_below member_in
  members_size zero h = omega arith
  members_size (suc k) h = go (bit m k) refl (dec_lt 0 (length (below k))) (members_size k (omega arith))
    where
      piece : Bool → List ℕ
      piece b = cond b (member_of (ltb 0 (length (below k))) k) []

      grown : (b : Bool) → bit m k ≡ b → length (below k ++ piece (bit m k)) ≡ length (below k) + length (piece b)
      grown b e = length-append (below k) (piece (bit m k)) ∙ ap (λ (x : Bool). length (below k) + length (piece x)) e

      go : (b : Bool) → bit m k ≡ b → Dec (0 < length (below k)) → length (below k) ≤ 4 * others i k - 1
          → length (below k ++ piece (bit m k)) ≤ 4 * (others i k + one_if (not (eqb (k / 8) i))) - 1
      go true e (yes l) r =
          omega (arith, grown true e, member_size (ltb 0 (length (below k))) k h, ap one_if (lt-ltb 0 (length (below k)) l), ap (λ (x : Bool). one_if (not x)) (ne_eqb (k / 8) i (out k e)))
      go true e (no l) r =
          omega (arith, grown true e, member_size (ltb 0 (length (below k))) k h, ap one_if (le-ltb 0 (length (below k)) (omega arith)), ap (λ (x : Bool). one_if (not x)) (ne_eqb (k / 8) i (out k e)))
      go false e d r = omega (arith, grown false e)

set_size : (m i : ℕ) → i < 4 → ((q : ℕ) → bit m q ≡ true → q / 8 ≢ i) → length (set_word m) ≤ 95
unfolding set_word
set_size m i h out = go (eqb m 0)
  where
    go : (b : Bool) → length (cond b (said "-") (members_of m)) ≤ 95
    go true = omega arith
    go false = omega (arith, members_size m i out 32 (omega arith), others_24 i h)

-- ---- lines

line_size : (p mark i : ℕ) (l : Local) → p < 32 → i < 4 → ((q : ℕ) → bit l.concurrent q ≡ true → q / 8 ≢ i) → length (state_line p mark l) ≤ 114
unfolding state_line
line_size p mark i l h j out =
    let rest6 : List (List ℕ) = decision_word l.decision ∷ [] in
    let rest5 : List (List ℕ) = yes_word l.committable ∷ rest6 in
    let rest4 : List (List ℕ) = said " " ∷ rest5 in
    let rest3 : List (List ℕ) = set_word l.concurrent ∷ rest4 in
    let rest2 : List (List ℕ) = yes_word l.reached ∷ rest3 in
    let rest1 : List (List ℕ) = mark_word mark ∷ rest2 in
    omega (
      arith,
      join_more (name_of p) rest1,
      join_more (mark_word mark) rest2,
      join_more (yes_word l.reached) rest3,
      join_more (set_word l.concurrent) rest4,
      join_more (said " ") rest5,
      join_more (yes_word l.committable) rest6,
      join_more (decision_word l.decision) [],
      join_none,
      name_size p h,
      mark_size mark,
      yes_size l.reached,
      set_size l.concurrent i j out,
      yes_size l.committable,
      decision_size l.decision,
    )

lines_size : (s : Sheet) (l : List Local) → ((p : ℕ) → p < 32 → length (line_in s l p) ≤ 114) → (k : ℕ) → k ≤ 32
    → length (up_to (λ p before. line_in s l p) k) ≤ 114 * k
unfolding up_to
lines_size s l each zero h = omega arith
lines_size s l each (suc k) h =
    omega (arith, lines_size s l each k (omega arith), each k h, length-append (up_to (λ p before. line_in s l p) k) (line_in s l k))

-- ---- the whole

head_size : (n m : ℕ) → n < 10 → m < 10000 → length (head_line n m) ≤ 26
unfolding head_line
head_size n m h l =
    let rest4 : List (List ℕ) = said " states\n" ∷ [] in
    let rest3 : List (List ℕ) = decimal m ∷ rest4 in
    let rest2 : List (List ℕ) = said " sites " ∷ rest3 in
    let rest1 : List (List ℕ) = decimal n ∷ rest2 in
    omega (
      arith,
      join_more (said "sheet ") rest1,
      join_more (decimal n) rest2,
      join_more (said " sites ") rest3,
      join_more (decimal m) rest4,
      join_more (said " states\n") [],
      join_none,
      digit n h,
      width_decimal 3 m (omega arith),
    )

blocking_size : (i j c : ℕ) → i < 10 → j < 10 → c < 10 → length (blocking_line i j c) ≤ 36
unfolding blocking_line
blocking_size i j c h k l =
    let rest6 : List (List ℕ) = said "\n" ∷ [] in
    let rest5 : List (List ℕ) = decimal c ∷ rest6 in
    let rest4 : List (List ℕ) = said " condition " ∷ rest5 in
    let rest3 : List (List ℕ) = decimal j ∷ rest4 in
    let rest2 : List (List ℕ) = said "." ∷ rest3 in
    let rest1 : List (List ℕ) = decimal i ∷ rest2 in
    omega (
      arith,
      join_more (said "verdict blocking at ") rest1,
      join_more (decimal i) rest2,
      join_more (said ".") rest3,
      join_more (decimal j) rest4,
      join_more (said " condition ") rest5,
      join_more (decimal c) rest6,
      join_more (said "\n") [],
      join_none,
      digit i h,
      digit j k,
      digit c l,
    )

tolerance_size : (t : Option ℕ) → unwrap_or t 0 < 10 → length (tolerance_line t) ≤ 21
unfolding tolerance_line
tolerance_size None h = lit≤ tt
tolerance_size (Some t) h =
    omega (arith, join_more (said "tolerance ") (decimal t ∷ said "\n" ∷ []), join_more (decimal t) (said "\n" ∷ []), join_more (said "\n") [], join_none, digit t h)

-- a tolerance is no more than the sites that obey
tolerance_most : (m : ℕ) → unwrap_or (tolerance_of m) 0 ≤ m
unfolding tolerance_of
tolerance_most m = go (leb 3 m)
  where
    go : (b : Bool) → unwrap_or (cond b (Some (m - 1)) None) 0 ≤ m
    go true = omega arith
    go false = omega arith

pub refused_size : (g : ℕ) → g < 256 → length (refused_line g) ≤ 12
unfolding refused_line
refused_size g h =
    omega (arith, join_more (said "refused ") (decimal g ∷ said "\n" ∷ []), join_more (decimal g) (said "\n" ∷ []), join_more (said "\n") [], join_none, width_decimal 2 g (omega arith))

-- at most all sites obey
obeying_most : {s : Sheet} {k m : ℕ} → Obeying s k m → m ≤ k
obeying_most start = omega arith
obeying_most (more o e) = omega (arith, obeying_most o)
obeying_most (same o e) = omega (arith, obeying_most o)

condition_low : (c : Condition) → condition_number c < 10
condition_low First = omega arith
condition_low Second = omega arith

ruling_size : (s : Sheet) (v : Verdict) → s.sites ≤ 4 → Ruling s v → length (ruling_line v) ≤ 36
unfolding blocking_or_none
ruling_size s v h (nonblocking e n) = simp e (omega arith)
ruling_size s v h (blocking w e l) =
    simp e (blocking_size w.site w.state (condition_number w.condition) (omega (arith, l.most)) (omega (arith, l.small)) (condition_low w.condition))

pub accepted_size : (s : Sheet) (v : Verdict) → Fine s → v.states ≤ 4096 → Says s v → length (accepted_text s v) ≤ 3731
unfolding accepted_text line_in
accepted_size s v f n a =
    let rest3 : List (List ℕ) = tolerance_line v.tolerance ∷ [] in
    let rest2 : List (List ℕ) = ruling_line v ∷ rest3 in
    let rest1 : List (List ℕ) = state_lines s v.locals ∷ rest2 in
    omega (
      arith,
      join_more (head_line v.sites v.states) rest1,
      join_more (state_lines s v.locals) rest2,
      join_more (ruling_line v) rest3,
      join_more (tolerance_line v.tolerance) [],
      join_none,
      head_size v.sites v.states (omega (arith, a.sites, f.most)) (omega arith),
      lines_size s v.locals each 32 (omega arith),
      ruling_size s v f.most a.ruling,
      tolerance_size v.tolerance
          (omega (arith, ap (λ (t : Option ℕ). unwrap_or t 0) a.tolerance.is, tolerance_most a.tolerance.sites, obeying_most a.tolerance.obeying, f.most)),
    )
  where
    each : (p : ℕ) → p < 32 → length (line_in s v.locals p) ≤ 114
    each p h = go (stands s p) refl
      where
        go : (b : Bool) → stands s p ≡ b → length (cond b (state_line p (mark_of s p) (get_or v.locals p no_local)) []) ≤ 114
        go true e =
            line_size p (mark_of s p) (p / 8) (get_or v.locals p no_local) h (omega arith) (λ q b. ((a.facts p h e).set.only q b).apart)
        go false e = omega arith
