-- Grounds 21 to 29 (01, "Grounds for refusal"), and what the reader answers: the first ground that holds, and the sheet.
-- What a number stands for, crates/refusal says.
-- Grounds 21 to 24 are about the bytes, 25 to 29 about the parts. Each is tested over the whole sheet before the next.
-- The last, 29, is in specs/Paths.antt: `cyclic`.
-- Assumes nothing.
use Rattle.std.specs.Prelude.{ℕ, ◌+◌, Bool, cond, not, ◌&&◌, ◌||◌, List, eqb, leb, ltb, length, get_or, Err}
use Rattle.std.specs.Result.{is_ok}
use Rattle.std.specs.Int.Bits.{bit_and}
use Rattle.refusal.specs.declared.Refusal.TheVariants.{SheetSize, SheetVersion, SheetCounts, SheetLength, SheetRange, ReadsNothing, ReadTwice, NotFinal, Cycle}
use Rattle.refusal.specs.Refusals.{Test, clear, checked}
use Rattle.sheet.specs.Index.{some_below}
use Rattle.sheet.specs.Record.{byte, size_of, sites_of, state_counts, moves_at, length_for, moves_of, parts_of, no_sheet, states_of, mark_in, move_of}
use Rattle.sheet.specs.Paths.{cyclic}
use Rattle.sheet.specs.declared.Transition.{Transition}
use Rattle.sheet.specs.declared.Sheet.{Sheet}

-- Grounds about the bytes.

-- 21: fewer than 2 bytes, not exactly 2 + L, or L = 0
unfoldable pub misframed : List ℕ → Bool
misframed l = ltb (length l) 2 || not (eqb (length l) (2 + size_of l)) || eqb (size_of l) 0

-- 22: version not 1
unfoldable pub misversioned : List ℕ → Bool
misversioned l = not (eqb (byte l 2) 1)

-- x is not among least to most
unfoldable pub outside : ℕ → ℕ → ℕ → Bool
outside least most x = ltb x least || ltb most x

-- the state count at place i is not 1 to 8
unfoldable pub miscounted_at : List ℕ → ℕ → Bool
miscounted_at l i = outside 1 8 (byte l (4 + i))

-- 23: site or state count missing or outside its range; a missing one counts as 0, which is outside
unfoldable pub miscounted : List ℕ → Bool
miscounted l = outside 2 4 (sites_of l) || some_below (miscounted_at l) (sites_of l)

-- 24: no transition count, count over 64, or L not what the counts give; n sites, with the state counts cs
unfoldable pub mismeasured_by : List ℕ → ℕ → List ℕ → Bool
mismeasured_by l n cs =
    leb (length l) (moves_at n cs)
    || ltb 64 (moves_of l n cs)
    || not (eqb (size_of l) (length_for n cs (moves_of l n cs)))

-- 24, by the record's own counts
abbrev pub mismeasured : List ℕ → Bool
mismeasured l = mismeasured_by l (sites_of l) (state_counts l)

-- Grounds about the parts.

-- some transition of the sheet has the fault
unfoldable pub some_move : (Sheet → Transition → Bool) → Sheet → Bool
some_move fault s = some_below (λ (i : ℕ). fault s (move_of s i)) s.moves

-- the mark at place k is not 0 to 2
unfoldable pub mismarked : List ℕ → ℕ → Bool
mismarked marks k = ltb 2 (get_or marks k 0)

-- the transition's site is none of the sheet's, a state of it none of that site's, or its vote neither 0 nor 1
unfoldable pub misplaced : Sheet → Transition → Bool
misplaced s t =
    outside 1 s.sites t.site
    || leb (states_of s t.site) t.from
    || leb (states_of s t.site) t.to
    || ltb 1 t.vote

-- 25: mark, site, state or vote outside its range
unfoldable pub unranged : Sheet → Bool
unranged s = some_below (mismarked s.marks) 32 || some_move misplaced s

-- the transition reads nothing
unfoldable pub reads_nothing : Sheet → Transition → Bool
reads_nothing s t = eqb t.reads 0

-- 26: a transition reads nothing
abbrev pub unprompted : Sheet → Bool
unprompted s = some_move reads_nothing s

-- two transitions are of two sites and read one message
unfoldable pub shares : Transition → Transition → Bool
shares t u = not (eqb u.site t.site) && not (eqb (bit_and u.reads t.reads) 0)

-- another site reads a message that the transition reads
unfoldable pub read_elsewhere : Sheet → Transition → Bool
read_elsewhere s t = some_below (λ (i : ℕ). shares t (move_of s i)) s.moves

-- 27: a message read by two sites
abbrev pub contended : Sheet → Bool
contended s = some_move read_elsewhere s

-- from a state marked a to one not marked a
abbrev pub turns_from : ℕ → ℕ → ℕ → Bool
turns_from a from to = eqb from a && not (eqb to a)

-- the transition leaves the abort states or the commit states
unfoldable pub undoes : Sheet → Transition → Bool
undoes s t =
    turns_from 1 (mark_in s t.site t.from) (mark_in s t.site t.to)
    || turns_from 2 (mark_in s t.site t.from) (mark_in s t.site t.to)

-- 28: abort to non-abort, or commit to non-commit
abbrev pub undone : Sheet → Bool
undone s = some_move undoes s

-- The answer.

-- the first of grounds 21 to 24, clear where none holds
unfoldable pub frame_ground : List ℕ → Test
frame_ground l =
    cond (misframed l) (Err SheetSize)
    (cond (misversioned l) (Err SheetVersion) (cond (miscounted l) (Err SheetCounts) (cond (mismeasured l) (Err SheetLength) clear)))

-- the first of grounds 25 to 29, clear where none holds
unfoldable pub parts_ground : Sheet → Test
parts_ground s =
    cond (unranged s) (Err SheetRange)
    (cond (unprompted s) (Err ReadsNothing) (cond (contended s) (Err ReadTwice) (cond (undone s) (Err NotFinal) (cond (cyclic s) (Err Cycle) clear))))

-- the first ground that holds, clear where none does
unfoldable pub sheet_ground : List ℕ → Test
sheet_ground l = checked (frame_ground l) (parts_ground (parts_of l))

-- the sheet of a record: its parts, none where a ground from 21 to 24 stands against it
unfoldable pub sheet_of : List ℕ → Sheet
sheet_of l = cond (is_ok (frame_ground l)) (parts_of l) no_sheet
