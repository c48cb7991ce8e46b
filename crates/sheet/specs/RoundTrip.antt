-- What reading and writing are to each other (02, Ask 3), said of what the calls answer and leave in the room: `RoundTrip`.
-- proofs/RoundTrips.antt shows it.
-- Assumes nothing.
use Rattle.std.specs.Prelude.{ℕ, ◌≤◌, ◌<◌, cond, List, ◌++◌, ◌≡◌, leb, length, take, drop, Ok, Err}
use Rattle.std.specs.Option.{unwrap_or}
use Rattle.std.specs.Result.{result_ok, IsOk}
use Rattle.refusal.specs.declared.Refusal.TheVariants.{SheetNoRoom}
use Rattle.refusal.specs.Refusals.{clear, checked}
use Rattle.sheet.specs.Record.{byte}
use Rattle.sheet.specs.Grounds.{sheet_ground, sheet_of}
use Rattle.sheet.specs.Fine.{Blank}
use Rattle.sheet.specs.Write.{record_of, write_of}
use Rattle.sheet.specs.declared.Sheet.{Sheet}

-- the lists of a sheet are as long as its arrays: so is every value of the type
pub record Shaped (s : Sheet) : Type 0 where
  pub counts : length s.counts ≡ 4
  pub marks : length s.marks ≡ 32
  pub transitions : length s.transitions ≡ 64

-- what the writer left at the front of the room
abbrev pub record_written : Sheet → List ℕ → List ℕ
record_written s room = take (unwrap_or (result_ok (write_of s room).0) 0) (write_of s room).1

pub record RoundTrip : Type 0 where
  -- every sheet that the reader accepts is written with the same bytes
  pub again : (l room : List ℕ) → ((k : ℕ) → byte l k < 256) → sheet_ground l ≡ clear → length l ≤ length room
      → write_of (sheet_of l) room ≡ (Ok (length l), l ++ drop (length l) room)
  -- or refused with 32, where the room is smaller
  pub cramped : (l room : List ℕ) → ((k : ℕ) → byte l k < 256) → sheet_ground l ≡ clear → length room < length l
      → write_of (sheet_of l) room ≡ (Err SheetNoRoom, room)
  -- every sheet written is accepted by the reader, with the same parts
  pub back : (s : Sheet) (room : List ℕ) → Shaped s → IsOk (write_of s room).0
      → (sheet_ground (record_written s room) ≡ clear) × (sheet_of (record_written s room) ≡ s)
  -- nothing is written of parts that have something where a sheet has nothing; which of 23, 24 and 25 they get, `write_ground` says
  pub blank : (s : Sheet) (room : List ℕ) → Shaped s → IsOk (write_of s room).0 → Blank s
  -- all others get exactly what the reader gives to the record of the parts, and only after that 32
  pub same : (s : Sheet) (room : List ℕ) → Shaped s → Blank s
      → (write_of s room).0
      ≡ checked (sheet_ground (record_of s)) (cond (leb (length (record_of s)) (length room)) (Ok (length (record_of s))) (Err SheetNoRoom))
