-- The record of parts, read: where its pieces stand, that the reader finds the same parts, and that it gives the ground that the writer gives.
-- Assumes nothing.
use Prim.Native.Nat.{ℕ, ◌+◌, ◌*◌, ◌/◌, ◌%◌, ◌≤◌, ◌<◌}
use mathlib.Core.Bool.{Bool, true, false, ◌||◌, or-true}
use mathlib.Core.List.{List, [], ◌∷◌, ◌++◌, flat_map, flatten}
use mathlib.Core.Path.{◌≡◌, refl, sym, ap, ap₂, subst, ◌∙◌}
use native.Mathlib.Decide.{dec_lt}
use native.Mathlib.Omega.{arith}
use borrow.Author.Tests.{eq-eqb, ne_eqb, lt-ltb, le-ltb, le-leb, lt-leb}
use lib.Dec.{ltb}
use lib.ListN.{length, get_or, take, drop}
use lib.Seq.{ext_get_or, get_or-take, get_or-drop, length-take-le}
use Rattle.sheet.specs.Index.{some_below, table}
use Rattle.sheet.specs.Record.{byte, size_of, four_at, sites_of, state_count, state_counts, states_before, mark_at, first_at, moves_at, length_for, mark_read, moves_of, transition_from, transition_in, transition_of, parts_by, parts_of, no_transition, move_of}
use Rattle.sheet.specs.Grounds.{outside, misframed, misversioned, miscounted_at, miscounted, mismeasured_by, mismeasured, frame_ground, parts_ground, sheet_ground}
use Rattle.sheet.specs.Write.{four_bytes, middle_bytes, transition_bytes, site_marks, marks_for, body_of, record_of, wrong_count, wrong_counts, filled, stray_move, wrong_moves, stray_mark, stray_marks, write_ground}
use Rattle.sheet.specs.Fine.{Blank}
use Rattle.sheet.specs.RoundTrip.{Shaped}
use Rattle.sheet.specs.declared.Sheet.{Sheet}
use Rattle.sheet.proofs.IndexLaws.{none_found, some_fewer, length_table, table_at, table_take}
use Rattle.sheet.proofs.FineLaws.{among}
use Rattle.sheet.proofs.Pieces.{At, at_whole, at_as, at_first, at_next, piece_at, up_to, read_back}
use Rattle.sheet.proofs.Elements.{byte_read, four_read, transition_read, bytes_read}
use Rattle.sheet.proofs.WriteLaws.{sites_among, count_few, moves_few, filled_none, pieces, pieces_are, transition_length, site_length, marks_before, marks_length, record_length}

-- ---- the frame

module _ (s : Sheet) where
  body_size : size_of (record_of s) ≡ length (body_of s)
  unfolding record_of
  body_size = omega arith

  pub record_long : length (record_of s) ≡ 2 + length (body_of s)
  unfolding record_of
  record_long = omega arith

  body_some : 1 ≤ length (body_of s)
  unfolding body_of
  body_some = omega arith

  framing : misframed (record_of s) ≡ false
  unfolding misframed
  framing =
      simp (
        le-ltb (length (record_of s)) 2 (omega (arith, record_long)),
        eq-eqb (length (record_of s)) (2 + size_of (record_of s)) (omega (arith, record_long, body_size)),
        ne_eqb (size_of (record_of s)) 0 (λ z. absurd (omega (arith, body_size, body_some, z))),
      )

  versioning : misversioned (record_of s) ≡ false
  unfolding misversioned record_of body_of
  versioning = refl

  pub sites_read : sites_of (record_of s) ≡ s.sites
  unfolding record_of body_of
  sites_read = refl

-- ---- where the pieces stand

module _ (s : Sheet) (shaped : Shaped s) (four : s.sites ≤ 4) where
  counts_length : length (take s.sites s.counts) ≡ s.sites
  counts_length = length-take-le s.sites s.counts (omega (arith, shaped.counts))

  pieces_at : At (record_of s) 0 (flatten (pieces s))
  pieces_at = subst (At (record_of s) 0) (sym (pieces_are s)) (at_whole (record_of s))

  abbrev head_piece : List ℕ
  head_piece = length (body_of s) / 256 ∷ length (body_of s) % 256 ∷ 1 ∷ s.sites ∷ take s.sites s.counts

  abbrev last_pieces : List ℕ
  last_pieces = flatten (middle_bytes s.first s.moves ∷ flat_map transition_bytes (take s.moves s.transitions) ∷ [])

  counts_at : At (record_of s) 4 (take s.sites s.counts)
  unfolding flatten
  counts_at =
      at_next (length (body_of s) / 256 ∷ length (body_of s) % 256 ∷ 1 ∷ s.sites ∷ []) (take s.sites s.counts)
      (at_first head_piece (marks_for s.counts s.marks ++ last_pieces) pieces_at)

  rest_at : At (record_of s) (4 + s.sites) (marks_for s.counts s.marks ++ last_pieces)
  unfolding flatten
  rest_at = at_as (omega (arith, counts_length)) (at_next head_piece (marks_for s.counts s.marks ++ last_pieces) pieces_at)

  marks_at : At (record_of s) (4 + s.sites) (marks_for s.counts s.marks)
  marks_at = at_first (marks_for s.counts s.marks) last_pieces rest_at

  count_read : (i : ℕ) → i < s.sites → byte (record_of s) (4 + i) ≡ get_or s.counts i 0
  count_read i h =
      bytes_read (take s.sites s.counts) counts_at i (omega (arith, counts_length))
      ∙ get_or-take s.sites s.counts i 0 h

  module _ (few : (i : ℕ) → get_or s.counts i 0 ≤ 8) where
    last_at : At (record_of s) (first_at s.sites s.counts) last_pieces
    last_at =
        at_as (omega (arith, marks_length s.counts s.marks few shaped.marks))
        (at_next (marks_for s.counts s.marks) last_pieces rest_at)

    middle_at : At (record_of s) (first_at s.sites s.counts) (middle_bytes s.first s.moves)
    unfolding flatten
    middle_at = at_first (middle_bytes s.first s.moves) (flat_map transition_bytes (take s.moves s.transitions) ++ []) last_at

    first_read : four_at (record_of s) (first_at s.sites s.counts) ≡ s.first
    unfolding middle_bytes
    first_read = four_read s.first (first_at s.sites s.counts) (at_first (four_bytes s.first) (s.moves ∷ []) middle_at)

    moves_read : moves_of (record_of s) s.sites s.counts ≡ s.moves
    unfolding middle_bytes four_bytes
    moves_read = byte_read s.moves (moves_at s.sites s.counts) (at_next (four_bytes s.first) (s.moves ∷ []) middle_at)

    moves_at_lem : At (record_of s) (moves_at s.sites s.counts + 1) (flat_map transition_bytes (take s.moves s.transitions))
    unfolding flatten middle_bytes four_bytes
    moves_at_lem =
        at_first (flat_map transition_bytes (take s.moves s.transitions)) []
        (at_as (omega arith) (at_next (middle_bytes s.first s.moves) (flat_map transition_bytes (take s.moves s.transitions) ++ []) last_at))

    -- the mark of a state that is there
    mark_read_lem : (k : ℕ) → k < 32 → k % 8 < get_or s.counts (k / 8) 0
        → byte (record_of s) (mark_at s.sites s.counts (k / 8) (k % 8)) ≡ get_or s.marks k 0
    unfolding site_marks marks_for
    mark_read_lem k b h =
        let i = k / 8 in
        let piece = site_marks s.counts s.marks in
        let here : get_or (up_to 4) i 0 ≡ i = table_at (λ (j : ℕ). j) 4 i 0 (omega arith) in
        let before : length (flat_map piece (take i (up_to 4))) ≡ states_before s.counts i =
        ap (λ (x : List ℕ). length (flat_map piece x)) (table_take (λ (j : ℕ). j) 4 i (omega arith))
        ∙ marks_before s.counts s.marks few shaped.marks i (omega arith) in
        let there : At (record_of s) (4 + s.sites + states_before s.counts i) (piece i) =
        subst (λ (j : ℕ). At (record_of s) (4 + s.sites + states_before s.counts i) (piece j)) here
        (at_as (ap (λ (n : ℕ). 4 + s.sites + n) before)
        (piece_at piece 0 (up_to 4) (4 + s.sites) i marks_at (omega (arith, length_table (λ (j : ℕ). j) 4)))) in
        let long : length (piece i) ≡ get_or s.counts i 0 = length_of_lem i (omega arith) in
        bytes_read (piece i) there (k % 8) (omega (arith, long))
        ∙ get_or-take (get_or s.counts i 0) (drop (8 * i) s.marks) (k % 8) 0 h
        ∙ get_or-drop (8 * i) s.marks (k % 8) 0
        ∙ ap (λ (n : ℕ). get_or s.marks n 0) (let e : 8 * i + k % 8 ≡ k = omega arith in e)
      where
        length_of_lem : (i : ℕ) → i < 4 → length (site_marks s.counts s.marks i) ≡ get_or s.counts i 0
        length_of_lem i h = site_length s.counts s.marks few shaped.marks i h

    transition_is : (k : ℕ) → k < s.moves → s.moves ≤ 64
        → transition_from (record_of s) (moves_at s.sites s.counts + 1 + 12 * k) ≡ move_of s k
    transition_is k h most =
        read_back no_transition 12 transition_bytes transition_from transition_length {l = record_of s} {at = moves_at s.sites s.counts + 1} transition_read
        (take s.moves s.transitions) moves_at_lem k (omega (arith, length-take-le s.moves s.transitions (omega (arith, shaped.transitions))))
        ∙ get_or-take s.moves s.transitions k no_transition h

-- ---- the same parts

module _ (s : Sheet) (shaped : Shaped s) (blank : Blank s) (four : s.sites ≤ 4) where
  counts_read : state_counts (record_of s) ≡ s.counts
  unfolding state_counts state_count
  counts_read =
      ext_get_or 0 (table (state_count (record_of s)) 4) s.counts (length_table _ 4 ∙ sym shaped.counts)
      (λ i h. table_at (state_count (record_of s)) 4 i 0 (omega (arith, length_table (state_count (record_of s)) 4)) ∙ go i (dec_lt i s.sites))
    where
      go : (i : ℕ) → Dec (i < s.sites) → state_count (record_of s) i ≡ get_or s.counts i 0
      go i (yes h) = simp (sites_read s, lt-ltb i s.sites h) (count_read s shaped four i h)
      go i (no h) = simp (sites_read s, le-ltb i s.sites (omega arith)) (sym (blank.absent i (omega arith)))

  module _ (few : (i : ℕ) → get_or s.counts i 0 ≤ 8) (most : s.moves ≤ 64) where
    marks_read : table (mark_read (record_of s) s.sites s.counts) 32 ≡ s.marks
    unfolding mark_read
    marks_read =
        let f = mark_read (record_of s) s.sites s.counts in
        ext_get_or 0 (table f 32) s.marks (length_table f 32 ∙ sym shaped.marks)
        (λ k h. let b : k < 32 = omega (arith, length_table f 32) in table_at f 32 k 0 b ∙ go k b (dec_lt (k % 8) (get_or s.counts (k / 8) 0)))
      where
        go : (k : ℕ) → k < 32 → Dec (k % 8 < get_or s.counts (k / 8) 0) → mark_read (record_of s) s.sites s.counts k ≡ get_or s.marks k 0
        go k b (yes h) = simp (lt-ltb _ _ h) (mark_read_lem s shaped four few k b h)
        go k b (no h) = simp (le-ltb (k % 8) (get_or s.counts (k / 8) 0) (omega arith)) (sym (blank.unmarked k (omega arith)))

    transitions_read : table (transition_of (record_of s) s.sites s.counts) 64 ≡ s.transitions
    unfolding transition_in
    transitions_read =
        let f = transition_of (record_of s) s.sites s.counts in
        ext_get_or no_transition (table f 64) s.transitions (length_table f 64 ∙ sym shaped.transitions)
        (λ k h. table_at f 64 k no_transition (omega (arith, length_table f 64)) ∙ go k (dec_lt k s.moves))
      where
        go : (k : ℕ) → Dec (k < s.moves) → transition_of (record_of s) s.sites s.counts k ≡ move_of s k
        go k (yes h) = simp (moves_read s shaped four few, lt-ltb k s.moves h) (transition_is s shaped four few k h most)
        go k (no h) = simp (moves_read s shaped four few, le-ltb k s.moves (omega arith)) (sym (blank.rest k (omega arith)))

    pub parts_read : parts_of (record_of s) ≡ s
    unfolding parts_by
    parts_read =
        ap₂ (parts_by (record_of s)) (sites_read s) counts_read
        ∙ (λ i. record {
          sites = s.sites;
          counts = s.counts;
          marks = marks_read i;
          first = first_read s shaped four few i;
          moves = moves_read s shaped four few i;
          transitions = transitions_read i;
        })

-- ---- the same ground

module _ (s : Sheet) (shaped : Shaped s) (blank : Blank s) where
  -- a count is wrong in the parts exactly where it is in the record
  counts_same : miscounted (record_of s) ≡ wrong_counts s
  unfolding miscounted wrong_counts miscounted_at wrong_count
  counts_same = go (outside 2 4 s.sites) refl
    where
      go : (b : Bool) → outside 2 4 s.sites ≡ b
          → (outside 2 4 (sites_of (record_of s)) || some_below (miscounted_at (record_of s)) (sites_of (record_of s)))
          ≡ (outside 2 4 s.sites || some_below (λ (i : ℕ). wrong_count (ltb i s.sites) (get_or s.counts i 0)) 4)
      go true e = simp (sites_read s, e)
      go false e =
          let four = (among 2 4 s.sites e).high in
          simp (sites_read s, e)
          (some_fewer (miscounted_at (record_of s)) (λ (i : ℕ). wrong_count (ltb i s.sites) (get_or s.counts i 0)) s.sites 4 four
          (λ i h. simp (lt-ltb i s.sites h) (ap (outside 1 8) (count_read s shaped four i h)))
          (λ i h b. simp (le-ltb i s.sites h, eq-eqb (get_or s.counts i 0) 0 (blank.absent i h))))

  -- nothing stands beyond the transitions, and no state that is not there has a mark
  none_beyond : some_below (stray_move s) 64 ≡ false
  unfolding stray_move
  none_beyond = none_found (stray_move s) 64 (λ k b. go k (dec_lt k s.moves))
    where
      go : (k : ℕ) → Dec (k < s.moves) → stray_move s k ≡ false
      go k (yes h) = simp (lt-leb s.moves k h)
      go k (no h) = simp (le-leb s.moves k (omega arith)) (ap filled (blank.rest k (omega arith)) ∙ filled_none)

  no_strays : stray_marks s ≡ false
  unfolding stray_mark
  no_strays = none_found (stray_mark s.counts s.marks) 32 (λ k b. go k (dec_lt (k % 8) (get_or s.counts (k / 8) 0)))
    where
      go : (k : ℕ) → Dec (k % 8 < get_or s.counts (k / 8) 0) → stray_mark s.counts s.marks k ≡ false
      go k (yes h) = simp (lt-leb (get_or s.counts (k / 8) 0) (k % 8) h)
      go k (no h) = simp (le-leb (get_or s.counts (k / 8) 0) (k % 8) (omega arith), eq-eqb (get_or s.marks k 0) 0 (blank.unmarked k (omega arith)))

  module _ (counted : wrong_counts s ≡ false) where
    four : s.sites ≤ 4
    four = (sites_among s counted).high

    few : (i : ℕ) → get_or s.counts i 0 ≤ 8
    few = count_few s counted shaped

    -- the transitions are too many, or the length is wrong, in the parts exactly where they are in the record
    moves_same : mismeasured (record_of s) ≡ wrong_moves s
    unfolding mismeasured_by wrong_moves
    moves_same = ap₂ (mismeasured_by (record_of s)) (sites_read s) (counts_read s shaped blank four) ∙ go (dec_lt 64 s.moves)
      where
        go : Dec (64 < s.moves) → mismeasured_by (record_of s) s.sites s.counts ≡ wrong_moves s
        go (yes h) = simp (moves_read s shaped four few, lt-ltb 64 s.moves h, or-true)
        go (no h) =
            let most : s.moves ≤ 64 = omega arith in
            let long = record_length s shaped four few most in
            simp (
              moves_read s shaped four few,
              le-ltb 64 s.moves most,
              lt-leb (length (record_of s)) (moves_at s.sites s.counts) (omega (arith, long)),
              eq-eqb (size_of (record_of s)) (length_for s.sites s.counts s.moves) (omega (arith, long, record_long s, body_size s)),
              none_beyond,
            )

  pub same_ground : sheet_ground (record_of s) ≡ write_ground s
  unfolding sheet_ground frame_ground write_ground
  same_ground = go (wrong_counts s) refl (wrong_moves s) refl
    where
      go : (a : Bool) → wrong_counts s ≡ a → (b : Bool) → wrong_moves s ≡ b → sheet_ground (record_of s) ≡ write_ground s
      go true e b f = simp (framing s, versioning s, counts_same, e)
      go false e true f = simp (framing s, versioning s, counts_same, e, moves_same e, f)
      go false e false f =
          simp (framing s, versioning s, counts_same, e, moves_same e, f, no_strays)
          (ap parts_ground (parts_read s shaped blank (sites_among s e).high (count_few s e shaped) (moves_few s f)))
