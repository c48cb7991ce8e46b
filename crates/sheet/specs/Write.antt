-- Writing a sheet (02, Ask 3): the record of its parts, the grounds against them, and what the writer answers and leaves in the room.
-- Grounds 25 to 29 are the reader's own. 23 and 24 are said of the parts here; with 23, 24 and 25 goes what stands where a sheet has nothing.
-- Assumes nothing.
use Rattle.std.specs.Prelude.{ℕ, ◌+◌, ◌*◌, ◌/◌, ◌%◌, Bool, cond, not, ◌&&◌, ◌||◌, eqb, leb, ltb, length, get_or, take, drop, Result, Ok, Err}
use Rattle.std.specs.Result.{is_ok}
use mathlib.Core.List.{List, [], ◌∷◌, ◌++◌, flat_map}
use Rattle.refusal.specs.declared.Refusal.{Refusal}
use Rattle.refusal.specs.declared.Refusal.TheVariants.{SheetCounts, SheetLength, SheetRange, SheetNoRoom}
use Rattle.refusal.specs.Refusals.{Test, clear, checked}
use Rattle.sheet.specs.Index.{some_below, table}
use Rattle.sheet.specs.Record.{move_of}
use Rattle.sheet.specs.Grounds.{outside, parts_ground}
use Rattle.sheet.specs.declared.Transition.{Transition}
use Rattle.sheet.specs.declared.Sheet.{Sheet}

-- ---- the record (01, "Protocol sheets", the paragraph "Record", from the parts to the bytes)

-- a set of messages in four bytes, big-endian
unfoldable pub four_bytes : ℕ → List ℕ
four_bytes x = x / 16777216 ∷ x / 65536 % 256 ∷ x / 256 % 256 ∷ x % 256 ∷ []

-- a transition's twelve bytes: site, from, to, vote, reads, writes
unfoldable pub transition_bytes : Transition → List ℕ
transition_bytes t = (t.site ∷ t.from ∷ t.to ∷ t.vote ∷ []) ++ (four_bytes t.reads ++ four_bytes t.writes)

-- the marks of the states that the site at place i has
unfoldable pub site_marks : List ℕ → List ℕ → ℕ → List ℕ
site_marks counts marks i = take (get_or counts i 0) (drop (8 * i) marks)

-- the marks of all states, site by site
unfoldable pub marks_for : List ℕ → List ℕ → List ℕ
marks_for counts marks = flat_map (site_marks counts marks) (table (λ (i : ℕ). i) 4)

-- the messages outstanding at first, and the number of transitions
unfoldable pub middle_bytes : ℕ → ℕ → List ℕ
middle_bytes first moves = four_bytes first ++ (moves ∷ [])

-- all that follows the length: version, number of sites, counts, marks, first messages, number of transitions, transitions
unfoldable pub body_of : Sheet → List ℕ
body_of s =
    (1 ∷ s.sites ∷ take s.sites s.counts)
    ++ (marks_for s.counts s.marks ++ (middle_bytes s.first s.moves ++ flat_map transition_bytes (take s.moves s.transitions)))

-- the record of the parts. A number of transitions that is too large for its byte stands in it as it is: the reader refuses such a record too
unfoldable pub record_of : Sheet → List ℕ
record_of s = length (body_of s) / 256 ∷ length (body_of s) % 256 ∷ body_of s

-- ---- the grounds (01, "Grounds for refusal", said of the parts; "The writer applies grounds 23 to 29")

-- the state count of a site that is there is not 1 to 8, or that of an absent one not 0
unfoldable pub wrong_count : Bool → ℕ → Bool
wrong_count there count = cond there (outside 1 8 count) (not (eqb count 0))

-- 23: site or state count outside its range, or an absent site has a count
unfoldable pub wrong_counts : Sheet → Bool
wrong_counts s = outside 2 4 s.sites || some_below (λ (i : ℕ). wrong_count (ltb i s.sites) (get_or s.counts i 0)) 4

-- a field of the transition is not 0
unfoldable pub filled : Transition → Bool
filled t = not (eqb (t.site + t.from + t.to + t.vote + t.reads + t.writes) 0)

-- something stands at place k, from the number of transitions on
unfoldable pub stray_move : Sheet → ℕ → Bool
stray_move s k = leb s.moves k && filled (move_of s k)

-- 24: over 64 transitions, or one beyond their number
unfoldable pub wrong_moves : Sheet → Bool
wrong_moves s = ltb 64 s.moves || some_below (stray_move s) 64

-- the state of place k is not there, and has a mark
unfoldable pub stray_mark : List ℕ → List ℕ → ℕ → Bool
stray_mark counts marks k = leb (get_or counts (k / 8) 0) (k % 8) && not (eqb (get_or marks k 0) 0)

-- 25, beyond the reader's: a state that is not there has a mark
abbrev pub stray_marks : Sheet → Bool
stray_marks s = some_below (stray_mark s.counts s.marks) 32

-- the first of grounds 23 to 29 against the parts, clear where none holds
unfoldable pub write_ground : Sheet → Test
write_ground s =
    cond (wrong_counts s) (Err SheetCounts) (cond (wrong_moves s) (Err SheetLength) (cond (stray_marks s) (Err SheetRange) (parts_ground s)))

-- ---- the answer

-- "32, not enough room for the whole record, tested after 29": so many bytes are free
unfoldable pub refusal_for : Sheet → ℕ → Test
refusal_for s free = checked (write_ground s) (cond (leb (length (record_of s)) free) clear (Err SheetNoRoom))

-- "the room is unchanged on any refusal, else past the record": the answer, and the room then
unfoldable pub write_of : Sheet → List ℕ → Result ℕ Refusal × List ℕ
write_of s room = (
  checked (refusal_for s (length room)) (Ok (length (record_of s))),
  cond (is_ok (refusal_for s (length room))) (record_of s ++ drop (length (record_of s)) room) room,
)
