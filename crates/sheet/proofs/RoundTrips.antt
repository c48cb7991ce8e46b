-- Reading and writing belong together: `round_trip` shows what specs/RoundTrip.antt says.
-- The record of the parts that the reader found is the bytes that it read, piece by piece.
-- Assumes nothing.
use Prim.Native.Nat.{ℕ, ◌+◌, ◌-◌, ◌*◌, ◌/◌, ◌%◌, ◌≤◌, ◌<◌}
use mathlib.Core.Bool.{Bool, true, false, cond, false≢true}
use mathlib.Core.List.{List, [], ◌∷◌, ◌++◌, flat_map, flatten, append-nil}
use mathlib.Core.Path.{◌≡◌, refl, sym, ap, ap₂, subst, ◌∙◌}
use native.Mathlib.Decide.{ℕ_discrete, dec_lt}
use native.Mathlib.Nat.{zero-add}
use native.Mathlib.Omega.{arith}
use borrow.Author.Tests.{eqb-true, eq-eqb, ne_eqb, not-false, lt-ltb}
use lib.Dec.{leb}
use lib.ListN.{length, get_or, take, drop}
use lib.Seq.{take_at}
use Rattle.text.proofs.TextLaws.{one_by_one}
use Rattle.std.specs.Prelude.{Result, Ok, Err}
use Rattle.std.specs.Option.{unwrap_or}
use Rattle.std.specs.Result.{result_ok, is_ok, IsOk}
use Rattle.refusal.specs.declared.Refusal.{Refusal}
use Rattle.refusal.specs.declared.Refusal.TheVariants.{SheetCounts, SheetNoRoom}
use Rattle.refusal.specs.Refusals.{Test, clear, checked}
use Rattle.sheet.specs.Index.{table}
use Rattle.sheet.specs.Record.{byte, size_of, sites_of, state_count, state_counts, states_before, first_at, moves_at, mark_read, moves_of, transition_from, transition_in, transition_of, parts_by, parts_of, no_sheet}
use Rattle.sheet.specs.Grounds.{outside, misversioned, sheet_ground, sheet_of}
use Rattle.sheet.specs.Write.{middle_bytes, transition_bytes, site_marks, marks_for, body_of, record_of, wrong_counts, write_ground, refusal_for, write_of}
use Rattle.sheet.specs.Parts.{parts_size, parts_in, parts_from}
use Rattle.sheet.specs.RoundTrip.{Shaped, record_written, RoundTrip}
use Rattle.sheet.specs.Fine.{Blank}
use Rattle.sheet.specs.declared.Sheet.{Sheet}
use Rattle.sheet.proofs.IndexLaws.{length_table, table_same, table_take, table_drop, sum_within}
use Rattle.sheet.proofs.GroundLaws.{Framed, frame_none, passes, sheet_is}
use Rattle.sheet.proofs.FineLaws.{framed_size, whole, sites_few, count_few, moves_few}
use Rattle.sheet.proofs.CycleLaws.{accepted_fine}
use Rattle.sheet.proofs.Pieces.{cut_at, cut_then, cut_whole, flat_cut}
use Rattle.sheet.proofs.Elements.{cut_four, four_again, transitions_again, bytes_again}
use Rattle.sheet.proofs.WriteLaws.{formed, blank, sized, pieces_are, record_length, refused_parts, refused_room, written}
use Rattle.sheet.proofs.ReadBack.{record_long, same_ground, parts_read}

-- ---- the parts of a record

pub shaped_parts : (l : List ℕ) → Shaped (parts_of l)
unfolding parts_by state_counts
shaped_parts l = record { counts = length_table _ 4; marks = length_table _ 32; transitions = length_table _ 64 }

-- the sheet of an accepted record has its shape, and few transitions
module _ (l : List ℕ) (accepted : sheet_ground l ≡ clear) where
  accepted_frame : Framed l
  accepted_frame = (passes clear (λ n a b z. absurd (omega arith)) l accepted).frame

  accepted_sheet : sheet_of l ≡ parts_of l
  accepted_sheet = sheet_is l (frame_none accepted_frame)

  pub accepted_shape : Shaped (sheet_of l)
  accepted_shape = subst Shaped (sym accepted_sheet) (shaped_parts l)

  pub accepted_few : (sheet_of l).moves < 256
  unfolding parts_by
  accepted_few = subst (λ (s : Sheet). s.moves < 256) (sym accepted_sheet) (let few = moves_few l accepted_frame in omega arith)

-- the pieces of a record against which no ground from 21 to 24 stands
module _ (l : List ℕ) (f : Framed l) where
  abbrev sheet : Sheet
  sheet = parts_of l

  abbrev counts : List ℕ
  counts = state_counts l

  abbrev marks_start : ℕ
  marks_start = 4 + sites_of l

  abbrev start : ℕ
  start = moves_at (sites_of l) counts + 1

  -- the states before a place fit before the first messages
  states_fit : (i : ℕ) → i < 4 → states_before counts i + get_or counts i 0 ≤ states_before counts 4
  unfolding states_before
  states_fit i h = sum_within (λ (j : ℕ). get_or counts j 0) i 4 h

  counts_again : take (sites_of l) counts ≡ cut_at l 4 (sites_of l)
  unfolding state_counts state_count
  counts_again =
      table_take (state_count l) 4 (sites_of l) (sites_few l f)
      ∙ table_same (state_count l) (λ (i : ℕ). byte l (4 + i)) (sites_of l) (λ i h. simp (lt-ltb i (sites_of l) h))
      ∙ bytes_again l 4 (sites_of l) (omega (arith, whole l f))

  -- the marks of one site
  site_again : (i : ℕ) → i < 4 → site_marks counts sheet.marks i ≡ cut_at l (marks_start + states_before counts i) (get_or counts i 0)
  unfolding site_marks parts_by mark_read
  site_again i h =
      let marks = mark_read l (sites_of l) counts in
      let states = get_or counts i 0 in
      let few = count_few l f i in
      let at = marks_start + states_before counts i in
      ap (λ (n : ℕ). take states (drop (8 * i) (table marks n))) (let e : 32 ≡ 8 * i + (32 - 8 * i) = omega arith in e)
      ∙ ap (take states) (table_drop marks (8 * i) (32 - 8 * i))
      ∙ table_take (λ (q : ℕ). marks (8 * i + q)) (32 - 8 * i) states (omega (arith, few))
      ∙ table_same (λ (q : ℕ). marks (8 * i + q)) (λ (q : ℕ). byte l (at + q)) states
      (λ q b.
      let place : (8 * i + q) / 8 ≡ i = omega (arith, few) in
      let state : (8 * i + q) % 8 ≡ q = omega (arith, few) in
      simp (place, state, lt-ltb q (get_or counts i 0) b))
      ∙ bytes_again l at states (omega (arith, whole l f, states_fit i h))

  marks_again : marks_for counts sheet.marks ≡ cut_at l marks_start (states_before counts 4)
  unfolding marks_for states_before
  marks_again = flat_cut l marks_start (site_marks counts sheet.marks) (λ (j : ℕ). get_or counts j 0) 4 site_again

  module _ (small : (k : ℕ) → byte l k < 256) where
    middle_again : middle_bytes sheet.first sheet.moves ≡ cut_at l (first_at (sites_of l) counts) 5
    unfolding middle_bytes parts_by
    middle_again =
        let at = first_at (sites_of l) counts in
        ap₂ (λ (x y : List ℕ). x ++ y) (four_again l small at (omega (arith, whole l f))) (sym (one_by_one 1 (at + 4) l (omega (arith, whole l f))))
        ∙ cut_then l at 4 1

    moves_again : flat_map transition_bytes (take sheet.moves sheet.transitions) ≡ cut_at l start (12 * sheet.moves)
    unfolding parts_by transition_in
    moves_again =
        let moves = moves_of l (sites_of l) counts in
        ap (flat_map transition_bytes)
        (table_take (transition_of l (sites_of l) counts) 64 moves (moves_few l f)
        ∙ table_same (transition_of l (sites_of l) counts) (λ (k : ℕ). transition_from l (start + 12 * k)) moves (λ k h. simp (lt-ltb k moves h)))
        ∙ transitions_again l small start moves (omega (arith, whole l f))

    -- length, version and number of sites
    head_again : length (body_of sheet) / 256 ∷ length (body_of sheet) % 256 ∷ 1 ∷ sites_of l ∷ [] ≡ cut_at l 0 4
    unfolding misversioned parts_by
    head_again =
        let long = record_length sheet (shaped_parts l) (sites_few l f) (count_few l f) (moves_few l f) in
        let size : length (body_of sheet) ≡ size_of l = omega (arith, long, record_long sheet, whole l f, framed_size l f) in
        let high : length (body_of sheet) / 256 ≡ byte l 0 = omega (arith, size, small 1) in
        let low : length (body_of sheet) % 256 ≡ byte l 1 = omega (arith, size, small 1) in
        let version : 1 ≡ byte l 2 = sym (eqb-true (byte l 2) 1 (not-false _ f.versioned)) in
        (λ i. high i ∷ low i ∷ version i ∷ sites_of l ∷ []) ∙ sym (cut_four l 0 (omega (arith, whole l f)))

    record_again : record_of sheet ≡ l
    unfolding flatten parts_by
    record_again =
        let n = sites_of l in
        let t = moves_of l n counts in
        let first = first_at n counts in
        sym (pieces_are sheet)
        ∙ ap₂ (λ (x y : List ℕ). x ++ y)
        (ap₂ (λ (x y : List ℕ). x ++ y) head_again counts_again ∙ cut_then l 0 4 n)
        (ap₂ (λ (x y : List ℕ). x ++ y) marks_again
        (ap₂ (λ (x y : List ℕ). x ++ y) middle_again (append-nil _ ∙ moves_again ∙ ap (λ (k : ℕ). cut_at l k (12 * t)) (let e : start ≡ first + 5 = omega arith in e))
        ∙ cut_then l first 5 (12 * t))
        ∙ cut_then l (4 + n) (states_before counts 4) (5 + 12 * t)
        ∙ ap (λ (k : ℕ). cut_at l k (states_before counts 4 + (5 + 12 * t))) (sym (zero-add (4 + n))))
        ∙ cut_then l 0 (4 + n) (states_before counts 4 + (5 + 12 * t))
        ∙ cut_whole l (4 + n + (states_before counts 4 + (5 + 12 * t))) (omega (arith, whole l f))

-- ---- the calls

module _ (l : List ℕ) (small : (k : ℕ) → byte l k < 256) (accepted : sheet_ground l ≡ clear) where
  same_record : record_of (sheet_of l) ≡ l
  same_record = ap record_of (accepted_sheet l accepted) ∙ record_again l (accepted_frame l accepted) small

  no_ground : write_ground (sheet_of l) ≡ clear
  no_ground =
      ap write_ground (accepted_sheet l accepted)
      ∙ sym (same_ground (parts_of l) (shaped_parts l) (accepted_fine l small accepted).blank)
      ∙ ap sheet_ground (record_again l (accepted_frame l accepted) small)
      ∙ accepted

  again : (room : List ℕ) → length l ≤ length room → write_of (sheet_of l) room ≡ (Ok (length l), l ++ drop (length l) room)
  again room h =
      written (sheet_of l) room no_ground (omega (arith, ap length same_record))
      ∙ ap (λ (x : List ℕ). (Ok (length x), x ++ drop (length x) room)) same_record

  cramped : (room : List ℕ) → length room < length l → write_of (sheet_of l) room ≡ (Err SheetNoRoom, room)
  cramped room h = refused_room (sheet_of l) room no_ground (omega (arith, ap length same_record))

-- what the writer did not refuse had no ground and room enough
record Wrote (s : Sheet) (room : List ℕ) : Type 0 where
  pub unrefused : write_ground s ≡ clear
  pub fits : length (record_of s) ≤ length room

-- a refusal is no answer that all is well
refused_not : {w : Result ℕ Refusal × List ℕ} {why : Refusal} {room : List ℕ} → w ≡ (Err why, room) → IsOk w.0 → ⊥
refused_not {why = why} q e = false≢true (sym (ap (λ (v : Result ℕ Refusal × List ℕ). is_ok v.0) q) ∙ e)

wrote : (s : Sheet) (room : List ℕ) → IsOk (write_of s room).0 → Wrote s room
wrote s room e = go (write_ground s) refl (dec_lt (length room) (length (record_of s)))
  where
    go : (t : Test) → write_ground s ≡ t → Dec (length room < length (record_of s)) → Wrote s room
    go (Err why) q b = absurd (refused_not (refused_parts s room q) e)
    go (Ok u) q (yes b) = absurd (refused_not (refused_room s room q b) e)
    go (Ok u) q (no b) = record { unrefused = q; fits = omega arith }

module _ (s : Sheet) (room : List ℕ) (shaped : Shaped s) (e : IsOk (write_of s room).0) where
  zeros : Blank s
  zeros = blank s shaped (formed s (wrote s room e).unrefused)

  left : record_written s room ≡ record_of s
  left =
      let w = wrote s room e in
      ap (λ (x : Result ℕ Refusal × List ℕ). take (unwrap_or (result_ok x.0) 0) x.1) (written s room w.unrefused w.fits)
      ∙ take_at (record_of s) (drop (length (record_of s)) room) (length (record_of s)) refl

  accepts : sheet_ground (record_of s) ≡ clear
  accepts = same_ground s shaped zeros ∙ (wrote s room e).unrefused

  read : sheet_of (record_of s) ≡ s
  read =
      let z = sized s shaped (wrote s room e).unrefused in
      accepted_sheet (record_of s) accepts
      ∙ parts_read s shaped zeros z.four z.few z.most

-- ---- what callers on bytes go by

-- the sheet that any bytes tell has its shape
pub told_shape : (l : List ℕ) → Shaped (parts_from l)
unfolding parts_from parts_in no_sheet
told_shape l = go (ℕ_discrete (length l) parts_size)
  where
    go : Dec (length l ≡ parts_size) → Shaped (parts_from l)
    go (yes e) = simp (eq-eqb (length l) parts_size e) (record { counts = length_table _ 4; marks = length_table _ 32; transitions = length_table _ 64 })
    go (no d) = simp (ne_eqb (length l) parts_size d) (record { counts = refl; marks = refl; transitions = refl })

-- the writer refuses parts that are all zero
pub untold : (room : List ℕ) → IsOk (write_of no_sheet room).0 → ⊥
unfolding write_ground wrong_counts outside no_sheet
untold room e = let none : Err SheetCounts ≡ clear = (wrote no_sheet room e).unrefused in cc

-- the length that a record written says is its own
pub record_size : (s : Sheet) (room : List ℕ) → IsOk (write_of s room).0 → 2 + size_of (write_of s room).1 ≡ unwrap_or (result_ok (write_of s room).0) 0
unfolding record_of
record_size s room e =
    let w = wrote s room e in
    let is = written s room w.unrefused w.fits in
    ap (λ (x : Result ℕ Refusal × List ℕ). 2 + size_of x.1) is
    ∙ (let long : 2 + (length (body_of s) / 256 * 256 + length (body_of s) % 256) ≡ length (record_of s) = omega arith in long)
    ∙ sym (ap (λ (x : Result ℕ Refusal × List ℕ). unwrap_or (result_ok x.0) 0) is)

-- the grounds against the parts come first, then the room
refusal_by_ground : (s : Sheet) (room : List ℕ)
    → (write_of s room).0 ≡ checked (write_ground s) (cond (leb (length (record_of s)) (length room)) (Ok (length (record_of s))) (Err SheetNoRoom))
unfolding write_of refusal_for
refusal_by_ground s room = go (write_ground s) (leb (length (record_of s)) (length room))
  where
    go : (t : Test) (b : Bool) → checked (checked t (cond b clear (Err SheetNoRoom))) (Ok (length (record_of s))) ≡ checked t (cond b (Ok (length (record_of s))) (Err SheetNoRoom))
    go (Err why) b = refl
    go (Ok u) true = refl
    go (Ok u) false = refl

pub round_trip : RoundTrip
round_trip =
    record {
      again = λ l room small e h. again l small e room h;
      cramped = λ l room small e h. cramped l small e room h;
      back = λ s room shaped e. (ap sheet_ground (left s room shaped e) ∙ accepts s room shaped e, ap sheet_of (left s room shaped e) ∙ read s room shaped e);
      blank = zeros;
      same = same_refusal;
    }
  where
    same_refusal : (s : Sheet) (room : List ℕ) → Shaped s → Blank s
        → (write_of s room).0
        ≡ checked (sheet_ground (record_of s)) (cond (leb (length (record_of s)) (length room)) (Ok (length (record_of s))) (Err SheetNoRoom))
    same_refusal s room shaped none =
        refusal_by_ground s room
        ∙ sym (ap (λ (g : Test). checked g (cond (leb (length (record_of s)) (length room)) (Ok (length (record_of s))) (Err SheetNoRoom))) (same_ground s shaped none))
