-- `fj_record_read`, `fj_record_write` and `fj_rehearse`: what they return, and what they leave of the slice.
-- Assumes nothing.
use Rattle.std.specs.Prelude.{ℕ, cond, List, ◌++◌, ltb, length, drop, Result, Ok, Err}
use Rattle.refusal.specs.declared.Refusal.{Refusal}
use Rattle.refusal.specs.Refusals.{refusal_number, answer_number}
use Rattle.fields.specs.Fields.{body, fields_from}
use Rattle.journal.specs.declared.Record.{Record}
use Rattle.journal.specs.Record.{body_of, read_of, refusal_for, placed_for}
use Rattle.transcript.specs.Transcript.{size_in, shown_in}
use Rattle.embed.specs.Bytes.{Left, leaves}

-- ---- `fj_record_read`

-- K S O M V X in the first six bytes; a refusal leaves them
abbrev pub read_leaves : Result Record Refusal → List ℕ → Left
read_leaves (Ok r) room = leaves 0 (body_of (fields_from r.event) ++ drop 6 room)
read_leaves (Err why) room = leaves (refusal_number why) room

-- 15 comes first; then the reader's grounds for the bytes from a place on, of which there are none past the end
unfoldable pub read_call : List ℕ → ℕ → List ℕ → Left
read_call journal at room = cond (ltb (length room) 6) (leaves 15 room) (read_leaves (read_of (drop at journal)) room)

-- ---- `fj_record_write`

-- the writer's 13, 14 and 15 for these fields, and the record in the nine bytes from a place on
unfoldable pub write_call : ℕ → ℕ → ℕ → ℕ → ℕ → ℕ → List ℕ → ℕ → Left
write_call k s o m v x room at = leaves (answer_number (refusal_for (drop at room) (body k s o m v x))) (placed_for room at (body k s o m v x))

-- ---- `fj_rehearse`

-- the length of the text, and the text at the front of the room; 0, and the room as it was, where it is too small
unfoldable pub rehearse_call : List ℕ → List ℕ → Left
rehearse_call input room = leaves (size_in input room) (shown_in input room)
