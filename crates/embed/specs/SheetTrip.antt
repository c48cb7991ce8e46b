-- What `fj_sheet_parts` and `fj_sheet_write` are to each other (02, Ask 3): `SheetTrip`. proofs/SheetTrips.antt shows it.
-- Assumes nothing.
use Rattle.std.specs.Prelude.{ℕ, ◌+◌, ◌≤◌, ◌<◌, List, ◌++◌, ◌≡◌, length, take, drop}
use Rattle.sheet.specs.Record.{byte, size_of}
use Rattle.sheet.specs.Parts.{parts_size}
use Rattle.embed.specs.Bytes.{leaves}
use Rattle.embed.specs.SheetCalls.{parts_call, sheet_write_call}

-- the first 810 bytes that `fj_sheet_parts` left
abbrev pub parts_left : List ℕ → List ℕ → List ℕ
parts_left sheet room = take parts_size (parts_call sheet room).room

-- the record that `fj_sheet_write` left: its own length says how long it is
abbrev pub record_left : List ℕ → List ℕ → List ℕ
record_left parts room = take (2 + size_of (sheet_write_call parts room).room) (sheet_write_call parts room).room

pub record SheetTrip : Type 0 where
  -- the parts of a sheet are written as the same bytes
  pub again : (sheet out room : List ℕ) → ((k : ℕ) → byte sheet k < 256) → (parts_call sheet out).returned ≡ 0 → length sheet ≤ length room
      → sheet_write_call (parts_left sheet out) room ≡ leaves 0 (sheet ++ drop (length sheet) room)
  -- a record that was written has the same parts
  pub back : (parts room out : List ℕ) → ((k : ℕ) → byte parts k < 256) → (sheet_write_call parts room).returned ≡ 0 → parts_size ≤ length out
      → parts_call (record_left parts room) out ≡ leaves 0 (parts ++ drop parts_size out)
