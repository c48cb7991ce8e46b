-- The marks of a record, read site by site.
-- Assumes nothing.
use Prim.Native.Nat.{ℕ, ◌+◌, ◌-◌, ◌*◌, ◌/◌, ◌%◌, ◌≤◌, ◌<◌}
use mathlib.Core.List.{List, ◌++◌}
use mathlib.Core.Path.{◌≡◌, refl, sym, ap, ◌∙◌}
use native.Mathlib.Decide.{dec_lt}
use native.Mathlib.Omega.{arith}
use borrow.Author.Tests.{lt-ltb, le-ltb}
use mir.Syntax.{w8}
use mir.Val.{Fits}
use lib.ListN.{length, get_or, take, drop, replicate, length-drop, get_or-append, get_or-replicate}
use lib.Seq.{length-take-le, get_or-append_right, get_or-drop, ext_get_or}
use Rattle.std.proofs.lemmas.List.{get_or-take}
use Rattle.std.proofs.lemmas.Grind.{common_steps}
use borrow.Rule.Slice.PartMut.{put_mid}
use Rattle.sheet.specs.Index.{sum_below, table}
use Rattle.sheet.specs.Record.{byte, states_before, mark_read}
use Rattle.sheet.proofs.IndexLaws.{sum_none, sum_more, sum_within, length_table, table_at}

-- the states of a site more
pub one_more : (cs : List ℕ) (n : ℕ) → states_before cs (n + 1) ≡ states_before cs n + get_or cs n 0
unfolding states_before
one_more cs n = sum_more (λ (j : ℕ). get_or cs j 0) n

pub none_before : (cs : List ℕ) → states_before cs 0 ≡ 0
unfolding states_before
none_before cs = sum_none (λ (j : ℕ). get_or cs j 0)

-- they are among those of all four
pub all_before : (cs : List ℕ) (n : ℕ) → n < 4 → states_before cs n + get_or cs n 0 ≤ states_before cs 4
unfolding states_before
all_before cs n h = sum_within (λ (j : ℕ). get_or cs j 0) n 4 h

-- four counts of a byte each
pub states_few : (cs : List ℕ) → ((k : ℕ) → Fits w8 (get_or cs k 0)) → states_before cs 4 ≤ 1020
unfolding states_before sum_below
states_few cs h = omega (arith, (h 0).fits, (h 1).fits, (h 2).fits, (h 3).fits)

-- of a list of 32, the places of the first n sites hold their marks, and the others zero
pub record MarksRead (l : List ℕ) (sites : ℕ) (cs : List ℕ) (n : ℕ) (marks : List ℕ) : Type 0 where
  pub within : n ≤ 4
  pub long : length marks ≡ 32
  pub read : (k : ℕ) → k < 8 * n → get_or marks k 0 ≡ mark_read l sites cs k
  pub rest : (k : ℕ) → 8 * n ≤ k → k < 32 → get_or marks k 0 ≡ 0

module _ (xs ys : List ℕ) (a k : ℕ) (room : a + k ≤ length xs) (size : length ys ≡ k) where
  front : length (take a xs) ≡ a
  front = length-take-le a xs (omega arith)

  put_long : length (put_mid a k xs ys) ≡ length xs
  put_long = grind (arith, common_steps)

  put_before : (j : ℕ) → j < a → get_or (put_mid a k xs ys) j 0 ≡ get_or xs j 0
  put_before j h = get_or-append (take a xs) _ 0 j (omega (arith, front)) ∙ get_or-take a xs j 0 h

  put_here : (j : ℕ) → a ≤ j → j < a + k → get_or (put_mid a k xs ys) j 0 ≡ get_or ys (j - a) 0
  put_here j low high =
      get_or-append_right (take a xs) _ j 0 (omega (arith, front))
      ∙ ap (λ (n : ℕ). get_or (ys ++ drop k (drop a xs)) (j - n) 0) front
      ∙ get_or-append ys _ 0 (j - a) (omega (arith, size))

  put_after : (j : ℕ) → a + k ≤ j → get_or (put_mid a k xs ys) j 0 ≡ get_or xs j 0
  put_after j h =
      get_or-append_right (take a xs) _ j 0 (omega (arith, front))
      ∙ ap (λ (n : ℕ). get_or (ys ++ drop k (drop a xs)) (j - n) 0) front
      ∙ get_or-append_right ys _ (j - a) 0 (omega (arith, size))
      ∙ get_or-drop k (drop a xs) (j - a - length ys) 0
      ∙ get_or-drop a xs (k + (j - a - length ys)) 0
      ∙ ap (λ (i : ℕ). get_or xs i 0) (omega (arith, size))

pub none_read : (l : List ℕ) (sites : ℕ) (cs : List ℕ) → MarksRead l sites cs 0 (replicate 32 0)
none_read l sites cs =
    record {
      within = omega arith;
      long = refl;
      read = λ k h. absurd (omega arith);
      rest = λ k a h. get_or-replicate 32 k 0 0 h;
    }

module _ {l : List ℕ} {sites : ℕ} {cs : List ℕ} {n : ℕ} {marks : List ℕ} (m : MarksRead l sites cs n marks) where
  -- the mark of state q of the site at place i, and of a state that is not there
  mark_here : (k i q : ℕ) → k / 8 ≡ i → k % 8 ≡ q → q < get_or cs i 0 → mark_read l sites cs k ≡ byte l (4 + sites + states_before cs i + q)
  unfolding mark_read
  mark_here k i q a b h = simp (a, b, lt-ltb q (get_or cs i 0) h)

  mark_gone : (k i q : ℕ) → k / 8 ≡ i → k % 8 ≡ q → get_or cs i 0 ≤ q → mark_read l sites cs k ≡ 0
  unfolding mark_read
  mark_gone k i q a b h = simp (a, b, le-ltb q (get_or cs i 0) h)

  -- the marks of one site more
  pub more_read : (at states : ℕ) (part : List ℕ) → n < 4 → states ≡ get_or cs n 0 → states ≤ 8 → at ≡ 4 + sites + states_before cs n → at + states ≤ length l
      → part ≡ take states (drop at l) → MarksRead l sites cs (n + 1) (put_mid (8 * n) states marks part)
  more_read at states part four is few place room e =
      let size : length part ≡ states = ap length e ∙ length-take-le states (drop at l) (omega (arith, length-drop at l)) in
      let fits : 8 * n + states ≤ length marks = omega (arith, m.long) in
      record {
        within = omega arith;
        long = put_long marks part (8 * n) states fits size ∙ m.long;
        read = λ k h. at_place k h (dec_lt k (8 * n)) (dec_lt k (8 * n + states));
        rest = λ k a h. put_after marks part (8 * n) states fits size k (omega arith) ∙ m.rest k (omega arith) h;
      }
    where
      at_place : (k : ℕ) → k < 8 * (n + 1) → Dec (k < 8 * n) → Dec (k < 8 * n + states) → get_or (put_mid (8 * n) states marks part) k 0 ≡ mark_read l sites cs k
      at_place k h (yes low) d =
          put_before marks part (8 * n) states (omega (arith, m.long)) (ap length e ∙ length-take-le states (drop at l) (omega (arith, length-drop at l))) k low
          ∙ m.read k low
      at_place k h (no high) (yes there) =
          put_here marks part (8 * n) states (omega (arith, m.long)) (ap length e ∙ length-take-le states (drop at l) (omega (arith, length-drop at l))) k (omega arith) there
          ∙ ap (λ (x : List ℕ). get_or x (k - 8 * n) 0) e
          ∙ get_or-take states (drop at l) (k - 8 * n) 0 (omega arith)
          ∙ get_or-drop at l (k - 8 * n) 0
          ∙ ap (byte l) (omega arith)
          ∙ sym (mark_here k n (k - 8 * n) (omega arith) (omega arith) (omega arith))
      at_place k h (no high) (no past) =
          put_after marks part (8 * n) states (omega (arith, m.long)) (ap length e ∙ length-take-le states (drop at l) (omega (arith, length-drop at l))) k (omega arith)
          ∙ m.rest k (omega arith) (omega arith)
          ∙ sym (mark_gone k n (k - 8 * n) (omega arith) (omega arith) (omega arith))

  pub all_read : 4 ≤ n → marks ≡ table (mark_read l sites cs) 32
  all_read h =
      ext_get_or 0 marks (table (mark_read l sites cs) 32) (m.long ∙ sym (length_table _ 32))
      (λ k b. m.read k (omega (arith, m.long)) ∙ sym (table_at (mark_read l sites cs) 32 k 0 (omega (arith, m.long))))
