-- The parts of a sheet (02, Ask 3, "from the sheet's parts to the record") as bytes, for callers in C: sites, four state counts, 32 marks, the first messages, the number of transitions,
-- 64 transitions of twelve bytes as in the record. Zeros stand where a sheet has nothing.
-- Assumes nothing.
use Rattle.std.specs.Prelude.{ℕ, ◌+◌, ◌%◌, cond, eqb, leb, length, drop}
use mathlib.Core.List.{List, ◌∷◌, ◌++◌, flat_map}
use Rattle.sheet.specs.Index.{table}
use Rattle.sheet.specs.Record.{byte, four_at, transition_in, no_sheet}
use Rattle.sheet.specs.Write.{middle_bytes, transition_bytes}
use Rattle.sheet.specs.declared.Sheet.{Sheet}

-- how many bytes they take: 1 + 4 + 32 + 4 + 1 + 64 * 12
abbrev pub parts_size : ℕ
parts_size = 810

-- the parts one after another; of a number of transitions above 255, which no sheet that is read has, its remainder by 256
unfoldable pub parts_bytes : Sheet → List ℕ
parts_bytes s =
    ((s.sites ∷ s.counts) ++ s.marks)
    ++ (middle_bytes s.first (s.moves % 256) ++ flat_map transition_bytes s.transitions)

-- what 810 bytes tell
unfoldable pub parts_in : List ℕ → Sheet
parts_in l =
    record {
      sites = byte l 0;
      counts = table (λ (i : ℕ). byte l (1 + i)) 4;
      marks = table (λ (k : ℕ). byte l (5 + k)) 32;
      first = four_at l 37;
      moves = byte l 41;
      transitions = table (transition_in l 42 64) 64;
    }

-- more bytes or fewer tell no sheet
unfoldable pub parts_from : List ℕ → Sheet
parts_from l = cond (eqb (length l) parts_size) (parts_in l) no_sheet

-- the parts in the first 810 bytes of a room that has as many, and the rest as it was; a smaller room stays
unfoldable pub parts_put : Sheet → List ℕ → List ℕ
parts_put s room = cond (leb parts_size (length room)) (parts_bytes s ++ drop parts_size room) room
