-- What the writer's grounds say of parts that pass them, and how long the pieces of their record are.
-- Assumes nothing.
use Prim.Native.Nat.{ℕ, ◌+◌, ◌-◌, ◌*◌, ◌/◌, ◌%◌, ◌^◌, ◌≤◌, ◌<◌}
use mathlib.Core.Bool.{false, not}
use mathlib.Core.List.{List, [], ◌∷◌, ◌++◌, flat_map, flatten, append-nil}
use mathlib.Core.Path.{◌≡◌, refl, sym, ap, subst, ◌∙◌}
use native.Mathlib.Decide.{dec_lt}
use native.Mathlib.Omega.{arith}
use borrow.Author.Tests.{eqb-true, lt-ltb, le-ltb, ltb-false, le-leb, lt-leb, not-false}
use lib.Dec.{eqb, ltb}
use lib.ListN.{length, get_or, take, drop, length-append, length-drop, get_or-eq_default}
use lib.Seq.{length-take-le}
use Rattle.std.specs.Int.{w16, w32, to_be_bytes}
use Rattle.text.specs.declared.Page.{Page}
use Rattle.text.specs.Text.{Put, end_of, spliced}
use Rattle.text.specs.Page.{Offered}
use Rattle.text.proofs.TextLaws.{put_as}
use Rattle.text.proofs.Putting.{Going, begin, next, next_by, ended, flat_length}
use Rattle.std.specs.Prelude.{Ok, Err}
use Rattle.refusal.specs.declared.Refusal.{Refusal}
use Rattle.refusal.specs.declared.Refusal.TheVariants.{SheetCounts, SheetLength, SheetRange, SheetNoRoom}
use Rattle.refusal.specs.Refusals.{clear}
use Rattle.sheet.specs.Index.{sum_below}
use Rattle.sheet.specs.Record.{states_before, length_for, move_of, no_transition}
use Rattle.sheet.specs.Grounds.{outside, parts_ground}
use Rattle.sheet.specs.Write.{four_bytes, middle_bytes, transition_bytes, site_marks, marks_for, body_of, record_of, wrong_count, wrong_counts, filled, stray_move, wrong_moves, stray_mark, stray_marks, write_ground, refusal_for, write_of}
use Rattle.sheet.specs.Fine.{Blank}
use Rattle.sheet.specs.RoundTrip.{Shaped}
use Rattle.sheet.specs.declared.Transition.{Transition}
use Rattle.sheet.specs.declared.Sheet.{Sheet}
use Rattle.sheet.proofs.IndexLaws.{or_neither, none_at}
use Rattle.sheet.proofs.GroundLaws.{past}
use Rattle.sheet.proofs.FineLaws.{Among, among}
use Rattle.sheet.proofs.Pieces.{up_to, flat_sum}

-- ---- the grounds

-- no ground of the writer holds
pub record Formed (s : Sheet) : Type 0 where
  pub counted : wrong_counts s ≡ false
  pub moved : wrong_moves s ≡ false
  pub marked : stray_marks s ≡ false
  pub parts : parts_ground s ≡ clear

pub formed : (s : Sheet) → write_ground s ≡ clear → Formed s
unfolding write_ground
formed s e =
    let a = past (wrong_counts s) SheetCounts _ clear (λ z. absurd (omega arith)) e in
    let b = past (wrong_moves s) SheetLength _ clear (λ z. absurd (omega arith)) a.rest in
    let c = past (stray_marks s) SheetRange (parts_ground s) clear (λ z. absurd (omega arith)) b.rest in
    record { counted = a.absent; moved = b.absent; marked = c.absent; parts = c.rest }

-- what is not other than 0 is 0
count_zero : (count : ℕ) → not (eqb count 0) ≡ false → count ≡ 0
count_zero count e = eqb-true count 0 (not-false _ e)

module _ (s : Sheet) (counted : wrong_counts s ≡ false) where
  -- two to four sites
  pub sites_among : Among 2 4 s.sites
  unfolding wrong_counts
  sites_among = among 2 4 s.sites (or_neither _ _ counted).0

  count_passes : (i : ℕ) → i < 4 → wrong_count (ltb i s.sites) (get_or s.counts i 0) ≡ false
  unfolding wrong_counts
  count_passes i h = none_at (λ j. wrong_count (ltb j s.sites) (get_or s.counts j 0)) 4 i (or_neither (outside 2 4 s.sites) _ counted).1 h

  pub count_there : (i : ℕ) → i < s.sites → Among 1 8 (get_or s.counts i 0)
  unfolding wrong_count
  count_there i h =
      let four = sites_among.high in
      among 1 8 (get_or s.counts i 0) (sym (simp (lt-ltb i s.sites h)) ∙ count_passes i (omega arith))

  module _ (shaped : Shaped s) where
    pub count_absent : (i : ℕ) → s.sites ≤ i → get_or s.counts i 0 ≡ 0
    unfolding wrong_count
    count_absent i h = go (dec_lt i 4)
      where
        go : Dec (i < 4) → get_or s.counts i 0 ≡ 0
        go (yes b) = count_zero _ (sym (simp (le-ltb i s.sites h)) ∙ count_passes i b)
        go (no b) = get_or-eq_default s.counts 0 {n = i} (omega (arith, shaped.counts))

    pub count_few : (i : ℕ) → get_or s.counts i 0 ≤ 8
    count_few i = go (dec_lt i s.sites)
      where
        go : Dec (i < s.sites) → get_or s.counts i 0 ≤ 8
        go (yes b) = (count_there i b).high
        go (no b) = omega (arith, count_absent i (omega arith))

-- at most 64 transitions
pub moves_few : (s : Sheet) → wrong_moves s ≡ false → s.moves ≤ 64
unfolding wrong_moves
moves_few s e = ltb-false _ _ (or_neither (ltb 64 s.moves) _ e).0

-- a transition whose fields are all 0 is none
unfilled : (t : Transition) → filled t ≡ false → t ≡ no_transition
unfolding filled
unfilled t e =
    let none : t.site + t.from + t.to + t.vote + t.reads + t.writes ≡ 0 = count_zero _ e in
    let site : t.site ≡ 0 = omega (arith, none) in
    let from : t.from ≡ 0 = omega (arith, none) in
    let to : t.to ≡ 0 = omega (arith, none) in
    let vote : t.vote ≡ 0 = omega (arith, none) in
    let reads : t.reads ≡ 0 = omega (arith, none) in
    let writes : t.writes ≡ 0 = omega (arith, none) in
    λ i. record { site = site i; from = from i; to = to i; vote = vote i; reads = reads i; writes = writes i }

pub filled_none : filled no_transition ≡ false
unfolding filled
filled_none = refl

-- parts that pass have zeros where a sheet has nothing
module _ (s : Sheet) (shaped : Shaped s) (f : Formed s) where
  mark_zero : (k : ℕ) → k < 32 → get_or s.counts (k / 8) 0 ≤ k % 8 → get_or s.marks k 0 ≡ 0
  unfolding stray_mark
  mark_zero k b h = count_zero _ (sym (simp (le-leb _ _ h)) ∙ none_at (stray_mark s.counts s.marks) 32 k f.marked b)

  move_zero : (k : ℕ) → k < 64 → s.moves ≤ k → move_of s k ≡ no_transition
  unfolding stray_move wrong_moves
  move_zero k b h =
      unfilled (move_of s k) (sym (simp (le-leb s.moves k h)) ∙ none_at (stray_move s) 64 k (or_neither (ltb 64 s.moves) _ f.moved).1 b)

  pub blank : Blank s
  blank =
      record {
        absent = count_absent s f.counted shaped;
        unmarked = λ k h. mark k h (dec_lt k 32);
        rest = λ k h. move k h (dec_lt k 64);
      }
    where
      mark : (k : ℕ) → get_or s.counts (k / 8) 0 ≤ k % 8 → Dec (k < 32) → get_or s.marks k 0 ≡ 0
      mark k h (yes b) = mark_zero k b h
      mark k h (no b) = get_or-eq_default s.marks 0 {n = k} (omega (arith, shaped.marks))

      move : (k : ℕ) → s.moves ≤ k → Dec (k < 64) → move_of s k ≡ no_transition
      move k h (yes b) = move_zero k b h
      move k h (no b) = get_or-eq_default s.transitions no_transition {n = k} (omega (arith, shaped.transitions))

-- ---- numbers as bytes, big-endian

pub two_are : (n : ℕ) → n < 2 ^ 16 → to_be_bytes w16 n ≡ n / 256 ∷ n % 256 ∷ []
two_are n h = ap (λ (b : ℕ). b ∷ n % 256 ∷ []) (omega (arith, h))

pub four_are : (x : ℕ) → x < 2 ^ 32 → to_be_bytes w32 x ≡ four_bytes x
unfolding four_bytes
four_are x h = ap (λ (b : ℕ). b ∷ x / 65536 % 256 ∷ x / 256 % 256 ∷ x % 256 ∷ []) (omega (arith, h))

-- ---- lengths

pub transition_length : (t : Transition) → length (transition_bytes t) ≡ 12
unfolding transition_bytes four_bytes
transition_length t = refl

pub transitions_length : (l : List Transition) → length (flat_map transition_bytes l) ≡ 12 * length l
transitions_length = flat_length transition_bytes 12 transition_length

-- the next piece is offered to the page that it fits on
pub offered : {text x : List ℕ} {at : ℕ} {piece part : List ℕ} {ps : List (List ℕ)} {p q : Page} → Going text at x (piece ∷ ps) p.text.now p.at → part ≡ piece → Offered p part q
    → Going text at x ps q.text.now q.at
offered {p = p} {q = q} g e o = next_by g (subst (λ (l : List ℕ). (q.at ≡ end_of p.text.now p.at l) × (q.text.now ≡ spliced p.text.now p.at l)) e (o.at, o.bytes))

module _ (counts marks : List ℕ) (few : (i : ℕ) → get_or counts i 0 ≤ 8) (all : length marks ≡ 32) where
  pub site_length : (i : ℕ) → i < 4 → length (site_marks counts marks i) ≡ get_or counts i 0
  unfolding site_marks
  site_length i h = length-take-le (get_or counts i 0) (drop (8 * i) marks) (omega (arith, length-drop (8 * i) marks, few i))

  -- the marks of the sites before place i
  pub marks_before : (i : ℕ) → i ≤ 4 → length (flat_map (site_marks counts marks) (up_to i)) ≡ states_before counts i
  unfolding states_before
  marks_before i h = flat_sum (site_marks counts marks) (λ (j : ℕ). get_or counts j 0) i (λ j b. site_length j (omega arith))

  pub marks_length : length (marks_for counts marks) ≡ states_before counts 4
  unfolding marks_for
  marks_length = marks_before 4 (omega arith)

-- the states of four sites of at most eight
pub states_few : (counts : List ℕ) → ((i : ℕ) → get_or counts i 0 ≤ 8) → states_before counts 4 ≤ 32
unfolding states_before sum_below
states_few counts few = omega (arith, few 0, few 1, few 2, few 3)

-- the length of the record, where the counts and the transitions are few enough
pub record_length : (s : Sheet) → Shaped s → s.sites ≤ 4 → ((i : ℕ) → get_or s.counts i 0 ≤ 8) → s.moves ≤ 64
    → length (record_of s) ≡ 2 + length_for s.sites s.counts s.moves
unfolding record_of body_of middle_bytes four_bytes
record_length s shaped four few most =
    let counts : length (take s.sites s.counts) ≡ s.sites = length-take-le s.sites s.counts (omega (arith, shaped.counts)) in
    let marks = marks_length s.counts s.marks few shaped.marks in
    let moves : length (flat_map transition_bytes (take s.moves s.transitions)) ≡ 12 * s.moves =
    transitions_length (take s.moves s.transitions) ∙ ap (λ (n : ℕ). 12 * n) (length-take-le s.moves s.transitions (omega (arith, shaped.transitions))) in
    omega (
      arith,
      length-append (take s.sites s.counts) (marks_for s.counts s.marks ++ (middle_bytes s.first s.moves ++ flat_map transition_bytes (take s.moves s.transitions))),
      length-append (marks_for s.counts s.marks) (middle_bytes s.first s.moves ++ flat_map transition_bytes (take s.moves s.transitions)),
      counts,
      marks,
      moves,
    )

-- ---- parts that pass

-- what their record's length rests on
pub record Sized (s : Sheet) : Type 0 where
  pub four : s.sites ≤ 4
  pub few : (i : ℕ) → get_or s.counts i 0 ≤ 8
  pub most : s.moves ≤ 64
  pub states : states_before s.counts 4 ≤ 32
  pub long : length (record_of s) ≡ 2 + length_for s.sites s.counts s.moves

pub sized : (s : Sheet) → Shaped s → write_ground s ≡ clear → Sized s
sized s shaped e =
    let f = formed s e in
    let four = (sites_among s f.counted).high in
    let few = count_few s f.counted shaped in
    let most = moves_few s f.moved in
    record { four = four; few = few; most = most; states = states_few s.counts few; long = record_length s shaped four few most }

-- the record in four pieces
abbrev pub pieces : Sheet → List (List ℕ)
pieces s =
    (length (body_of s) / 256 ∷ length (body_of s) % 256 ∷ 1 ∷ s.sites ∷ take s.sites s.counts)
    ∷ marks_for s.counts s.marks
    ∷ middle_bytes s.first s.moves
    ∷ flat_map transition_bytes (take s.moves s.transitions)
    ∷ []

pub pieces_are : (s : Sheet) → flatten (pieces s) ≡ record_of s
unfolding flatten record_of body_of
pieces_are s = simp append-nil

-- ---- the answer

module _ (s : Sheet) (room : List ℕ) where
  pub refused_parts : {why : Refusal} → write_ground s ≡ Err why → write_of s room ≡ (Err why, room)
  unfolding write_of refusal_for
  refused_parts e = rw e refl

  pub refused_room : write_ground s ≡ clear → length room < length (record_of s) → write_of s room ≡ (Err SheetNoRoom, room)
  unfolding write_of refusal_for
  refused_room e h = rw e (simp (lt-leb (length (record_of s)) (length room) h))

  pub written : write_ground s ≡ clear → length (record_of s) ≤ length room
      → write_of s room ≡ (Ok (length (record_of s)), record_of s ++ drop (length (record_of s)) room)
  unfolding write_of refusal_for
  written e h = rw e (simp (le-leb (length (record_of s)) (length room) h))

-- ---- the record, put piece by piece

module _ (s : Sheet) (room : List ℕ) (size : ℕ) (is : size ≡ length (record_of s)) (fits : size ≤ length room) where
  -- the head is put, with the length of what follows it
  pub headed : {last : List ℕ} {r : ℕ} → Put room 0 ((size - 2) / 256 ∷ (size - 2) % 256 ∷ 1 ∷ s.sites ∷ take s.sites s.counts) last r
      → Going room 0 (flatten (pieces s)) (marks_for s.counts s.marks ∷ middle_bytes s.first s.moves ∷ flat_map transition_bytes (take s.moves s.transitions) ∷ []) last r
  unfolding record_of
  headed p =
      let begun = begin room 0 (pieces s) (subst (λ (x : List ℕ). 0 + length x ≤ length room) (sym (pieces_are s)) (omega (arith, is, fits))) in
      let follows : size - 2 ≡ length (body_of s) = omega (arith, is) in
      next begun (put_as p (ap (λ (n : ℕ). n / 256 ∷ n % 256 ∷ 1 ∷ s.sites ∷ take s.sites s.counts) follows))

  -- all is put
  pub recorded : {last : List ℕ} {r : ℕ} → Going room 0 (flatten (pieces s)) [] last r → last ≡ record_of s ++ drop size room
  recorded g =
      (put_as (ended g) (pieces_are s)).bytes
      ∙ ap (λ (k : ℕ). record_of s ++ drop k room) (let all : 0 + length (record_of s) ≡ size = omega (arith, is) in all)
