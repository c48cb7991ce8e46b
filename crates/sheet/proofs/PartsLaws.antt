-- The parts as bytes: their pieces and their length; bytes put and read again are the same parts, and parts read and put again the same bytes.
-- Assumes nothing.
use Prim.Native.Nat.{ℕ, ◌+◌, ◌*◌, ◌%◌, ◌≤◌, ◌<◌}
use mathlib.Core.List.{List, [], ◌∷◌, ◌++◌, flat_map, flatten, append_assoc, append-nil}
use mathlib.Core.Path.{◌≡◌, sym, ap, ap₂, subst, ◌∙◌}
use native.Mathlib.Omega.{arith}
use borrow.Author.Tests.{eq-eqb, lt-ltb}
use lib.ListN.{length, length-append}
use Rattle.text.proofs.TextLaws.{one_by_one, put_as}
use Rattle.text.proofs.Putting.{Going, begin, ended, put_whole}
use Rattle.sheet.specs.Index.{table}
use Rattle.sheet.specs.Record.{byte, transition_from, transition_in, no_transition}
use Rattle.sheet.specs.Write.{four_bytes, middle_bytes, transition_bytes}
use Rattle.sheet.specs.Parts.{parts_size, parts_bytes, parts_in, parts_from}
use Rattle.sheet.specs.RoundTrip.{Shaped}
use Rattle.sheet.specs.declared.Sheet.{Sheet}
use Rattle.sheet.proofs.IndexLaws.{table_same}
use Rattle.sheet.proofs.Pieces.{At, at_whole, at_as, at_first, at_next, cut_then, cut_whole, all_back}
use Rattle.sheet.proofs.Elements.{byte_read, four_read, transition_read, bytes_back, four_again, transitions_again, bytes_again}
use Rattle.sheet.proofs.WriteLaws.{transition_length, transitions_length}

-- the parts in pieces
abbrev pub parts_pieces : Sheet → List (List ℕ)
parts_pieces s =
    (s.sites ∷ [])
    ∷ s.counts
    ∷ s.marks
    ∷ middle_bytes s.first (s.moves % 256)
    ∷ flat_map transition_bytes s.transitions
    ∷ []

-- together they are the parts' bytes, of any sheet
pub parts_pieces_lem : (s : Sheet) → flatten (parts_pieces s) ≡ parts_bytes s
unfolding flatten parts_bytes
parts_pieces_lem s = simp (append_assoc, append-nil)

module _ (s : Sheet) (shaped : Shaped s) where
  pub parts_length : length (parts_bytes s) ≡ parts_size
  unfolding parts_bytes middle_bytes four_bytes
  parts_length = simp (length-append, shaped.counts, shaped.marks, transitions_length, shaped.transitions)

  -- in a room of as many bytes all pieces are left to put
  pub parts_begun : (room : List ℕ) → length room ≡ parts_size → Going room 0 (flatten (parts_pieces s)) (parts_pieces s) room 0
  parts_begun room h =
      begin room 0 (parts_pieces s) (subst (λ (x : List ℕ). 0 + length x ≤ length room) (sym (parts_pieces_lem s)) (omega (arith, parts_length)))

  -- all are put
  pub parts_ended : {room last : List ℕ} {r : ℕ} → length room ≡ parts_size → Going room 0 (flatten (parts_pieces s)) [] last r → last ≡ parts_bytes s
  parts_ended {room} h g = put_whole (put_as (ended g) (parts_pieces_lem s)) (parts_length ∙ sym h)

-- ---- parts put are read again

module _ (s : Sheet) (shaped : Shaped s) where
  abbrev front : List ℕ
  front = (s.sites ∷ s.counts) ++ s.marks

  abbrev middle : List ℕ
  middle = middle_bytes s.first (s.moves % 256)

  abbrev moves : List ℕ
  moves = flat_map transition_bytes s.transitions

  all_at : At (parts_bytes s) 0 (front ++ (middle ++ moves))
  unfolding parts_bytes
  all_at = at_whole (parts_bytes s)

  rest_at : At (parts_bytes s) 37 (middle ++ moves)
  rest_at = at_as (omega (arith, length-append (s.sites ∷ s.counts) s.marks, shaped.counts, shaped.marks)) (at_next front (middle ++ moves) all_at)

  counts_at : At (parts_bytes s) 0 (s.sites ∷ s.counts)
  counts_at = at_first (s.sites ∷ s.counts) s.marks (at_first front (middle ++ moves) all_at)

  marks_at : At (parts_bytes s) 5 s.marks
  marks_at = at_as (omega (arith, shaped.counts)) (at_next (s.sites ∷ s.counts) s.marks (at_first front (middle ++ moves) all_at))

  moves_at_lem : At (parts_bytes s) 42 moves
  unfolding middle_bytes four_bytes
  moves_at_lem = at_next middle moves rest_at

  counts_back : table (λ (i : ℕ). byte (parts_bytes s) (1 + i)) 4 ≡ s.counts
  counts_back = bytes_back s.counts 4 shaped.counts (at_next (s.sites ∷ []) s.counts counts_at)

  marks_back : table (λ (k : ℕ). byte (parts_bytes s) (5 + k)) 32 ≡ s.marks
  marks_back = bytes_back s.marks 32 shaped.marks marks_at

  transitions_back : table (transition_in (parts_bytes s) 42 64) 64 ≡ s.transitions
  unfolding transition_in
  transitions_back =
      table_same (transition_in (parts_bytes s) 42 64) (λ (k : ℕ). transition_from (parts_bytes s) (42 + 12 * k)) 64 (λ k h. simp (lt-ltb k 64 h))
      ∙ all_back no_transition 12 transition_bytes transition_from transition_length {l = parts_bytes s} {at = 42} transition_read s.transitions 64 shaped.transitions moves_at_lem

  moves_back : byte (parts_bytes s) 41 ≡ s.moves % 256
  unfolding middle_bytes four_bytes
  moves_back = byte_read (s.moves % 256) 41 (at_next (four_bytes s.first) (s.moves % 256 ∷ []) (at_first middle moves rest_at))

  -- a number of transitions that is too large for its byte is the one thing that is not read again
  pub parts_back : s.moves < 256 → parts_from (parts_bytes s) ≡ s
  unfolding parts_from parts_in middle_bytes
  parts_back h =
      simp (eq-eqb (length (parts_bytes s)) parts_size (parts_length s shaped))
      (λ i. record {
        sites = byte_read s.sites 0 (at_first (s.sites ∷ []) s.counts counts_at) i;
        counts = counts_back i;
        marks = marks_back i;
        first = four_read s.first 37 (at_first (four_bytes s.first) (s.moves % 256 ∷ []) (at_first middle moves rest_at)) i;
        moves = (moves_back ∙ (let e : s.moves % 256 ≡ s.moves = omega arith in e)) i;
        transitions = transitions_back i;
      })

-- ---- bytes read are put again

module _ (l : List ℕ) (small : (k : ℕ) → byte l k < 256) (long : length l ≡ parts_size) where
  pub parts_again : parts_bytes (parts_from l) ≡ l
  unfolding parts_from parts_in parts_bytes middle_bytes transition_in
  parts_again =
      let count : byte l 41 % 256 ≡ byte l 41 = omega (arith, small 41) in
      simp (eq-eqb (length l) parts_size long)
      (ap₂ (λ (x y : List ℕ). x ++ y)
      (ap₂ (λ (x y : List ℕ). x ++ y)
      (ap₂ (λ (x y : List ℕ). x ++ y) (sym (one_by_one 1 0 l (omega (arith, long)))) (bytes_again l 1 4 (omega (arith, long))) ∙ cut_then l 0 1 4)
      (bytes_again l 5 32 (omega (arith, long)))
      ∙ cut_then l 0 5 32)
      (ap₂ (λ (x y : List ℕ). x ++ y)
      (ap₂ (λ (x y : List ℕ). x ++ y) (four_again l small 37 (omega (arith, long))) (ap (λ (b : ℕ). b ∷ []) count ∙ sym (one_by_one 1 41 l (omega (arith, long)))) ∙ cut_then l 37 4 1)
      (ap (flat_map transition_bytes) (table_same (transition_in l 42 64) (λ (k : ℕ). transition_from l (42 + 12 * k)) 64 (λ k h. simp (lt-ltb k 64 h))) ∙ transitions_again l small 42 64 (omega (arith, long)))
      ∙ cut_then l 37 5 768)
      ∙ cut_then l 0 37 773
      ∙ cut_whole l parts_size long)
