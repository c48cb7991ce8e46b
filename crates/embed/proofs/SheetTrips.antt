-- `sheet_trip` shows what specs/SheetTrip.antt says of the two calls, by what the library says of reading and writing.
-- Assumes nothing.
use Prim.Native.Nat.{ℕ, ◌≤◌, ◌<◌}
use mathlib.Core.List.{List, ◌++◌}
use mathlib.Core.Path.{◌≡◌, refl, sym, ap, ◌∙◌}
use native.Mathlib.Decide.{ℕ_discrete, dec_lt}
use native.Mathlib.Omega.{arith}
use borrow.Author.Tests.{lt-ltb, le-ltb, ne_eqb, le-leb}
use lib.ListN.{length, take, drop}
use lib.Seq.{take_at}
use Rattle.std.specs.Prelude.{Result, Ok, Err}
use Rattle.refusal.specs.Refusals.{Test, clear, answer_number}
use Rattle.refusal.specs.declared.Refusal.{Refusal}
use Rattle.sheet.specs.Record.{byte, no_sheet}
use Rattle.sheet.specs.Grounds.{sheet_ground, sheet_of}
use Rattle.sheet.specs.Write.{write_of}
use Rattle.sheet.specs.Parts.{parts_size, parts_bytes, parts_from, parts_put}
use Rattle.sheet.specs.RoundTrip.{record_written}
use Rattle.sheet.specs.declared.Sheet.{Sheet}
use Rattle.sheet.proofs.PartsLaws.{parts_length, parts_back, parts_again}
use Rattle.sheet.proofs.RoundTrips.{round_trip, accepted_shape, accepted_few, told_shape, untold, record_size}
use Rattle.embed.specs.Bytes.{Left, leaves}
use Rattle.embed.specs.SheetCalls.{parts_call, sheet_write_call}
use Rattle.embed.proofs.Calls.{numbered, answered}
use Rattle.embed.specs.SheetTrip.{parts_left, record_left, SheetTrip}

-- where `fj_sheet_parts` returns 0, there was room and no ground
record Told (sheet room : List ℕ) : Type 0 where
  pub fits : parts_size ≤ length room
  pub accepted : sheet_ground sheet ≡ clear

told : (sheet room : List ℕ) → (parts_call sheet room).returned ≡ 0 → Told sheet room
unfolding parts_call
told sheet room e = go (dec_lt (length room) parts_size) (sheet_ground sheet) refl
  where
    go : Dec (length room < parts_size) → (t : Test) → sheet_ground sheet ≡ t → Told sheet room
    go (yes h) t f = absurd (let none : ◌≡◌ {A = ℕ} 15 0 = simp (lt-ltb (length room) parts_size h) at e in omega (arith, none))
    go (no h) (Ok u) f = record { fits = omega arith; accepted = f }
    go (no h) (Err why) f = absurd (numbered why (simp (le-ltb (length room) parts_size (omega arith), f) at e))

-- what it leaves then
left : (sheet room : List ℕ) → Told sheet room → parts_call sheet room ≡ leaves 0 (parts_bytes (sheet_of sheet) ++ drop parts_size room)
unfolding parts_call parts_put
left sheet room t =
    simp (le-ltb (length room) parts_size t.fits, t.accepted, le-leb parts_size (length room) t.fits)

again : (sheet parts room : List ℕ) → ((k : ℕ) → byte sheet k < 256) → (parts_call sheet parts).returned ≡ 0 → length sheet ≤ length room
    → sheet_write_call (parts_left sheet parts) room ≡ leaves 0 (sheet ++ drop (length sheet) room)
unfolding sheet_write_call
again sheet parts room small e h =
    let t = told sheet parts e in
    let s = sheet_of sheet in
    let shaped = accepted_shape sheet t.accepted in
    let front : parts_left sheet parts ≡ parts_bytes s =
    ap (λ (x : Left). take parts_size x.room) (left sheet parts t)
    ∙ take_at (parts_bytes s) (drop parts_size parts) parts_size (parts_length s shaped) in
    let same : parts_from (parts_left sheet parts) ≡ s = ap parts_from front ∙ parts_back s shaped (accepted_few sheet t.accepted) in
    ap (λ (x : Sheet). leaves (answer_number (write_of x room).0) (write_of x room).1) same
    ∙ ap (λ (w : Result ℕ Refusal × List ℕ). leaves (answer_number w.0) w.1) (round_trip.again sheet room small t.accepted h)

-- bytes that tell no sheet are not written
sized : (parts room : List ℕ) → (sheet_write_call parts room).returned ≡ 0 → length parts ≡ parts_size
unfolding sheet_write_call parts_from
sized parts room e = go (ℕ_discrete (length parts) parts_size)
  where
    go : Dec (length parts ≡ parts_size) → length parts ≡ parts_size
    go (yes q) = q
    go (no d) =
        let none : parts_from parts ≡ no_sheet = simp (ne_eqb (length parts) parts_size d) in
        absurd (untold room (answered (write_of no_sheet room).0 (sym (ap (λ (s : Sheet). answer_number (write_of s room).0) none) ∙ e)))

back : (parts room out : List ℕ) → ((k : ℕ) → byte parts k < 256) → (sheet_write_call parts room).returned ≡ 0 → parts_size ≤ length out
    → parts_call (record_left parts room) out ≡ leaves 0 (parts ++ drop parts_size out)
unfolding sheet_write_call
back parts room out small e h =
    let s = parts_from parts in
    let shaped = told_shape parts in
    let ok = answered (write_of s room).0 e in
    let trip = round_trip.back s room shaped ok in
    let same : record_left parts room ≡ record_written s room = ap (λ (n : ℕ). take n (write_of s room).1) (record_size s room ok) in
    ap (λ (l : List ℕ). parts_call l out) same
    ∙ left (record_written s room) out (record { fits = h; accepted = trip.0 })
    ∙ ap (λ (l : List ℕ). leaves 0 (l ++ drop parts_size out)) (ap parts_bytes trip.1 ∙ parts_again parts small (sized parts room e))

pub sheet_trip : SheetTrip
sheet_trip = record { again = again; back = back }
