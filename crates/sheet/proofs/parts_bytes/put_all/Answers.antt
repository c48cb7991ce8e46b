-- `put_all` meets its contract: piece after piece.
-- Assumes nothing.
use mathlib.Core.Path.{refl}
use Rattle.text.proofs.Putting.{next, fits_next, length_mapped}
use Rattle.sheet.specs.Write.{four_bytes, middle_bytes}
use Rattle.sheet.specs.RoundTrip.{Shaped}
use Rattle.sheet.proofs.WriteLaws.{offered}
use Rattle.sheet.proofs.PartsLaws.{parts_begun, parts_ended}
use borrow.Author.Rules.{rules}
use Rattle.sheet.proofs.parts_bytes.put_all.Goals as goal

pub put_middle-requires : goal.put_middle-requires
unfolding middle_bytes four_bytes
put_middle-requires c =
    let s = c.args.sheet.now in
    let shaped : Shaped s = record { counts = search rules; marks = search rules; transitions = search (rules, length_mapped) } in
    let begun = parts_begun s shaped c.args.room.now (search rules) in
    fits_next (offered (offered (offered begun refl c.put.ensures) refl c.put-2.ensures) refl c.put-3.ensures)

pub put_transitions-requires : goal.put_transitions-requires
put_transitions-requires c =
    let s = c.args.sheet.now in
    let shaped : Shaped s = record { counts = search rules; marks = search rules; transitions = search (rules, length_mapped) } in
    let begun = parts_begun s shaped c.args.room.now (search rules) in
    fits_next (next (offered (offered (offered begun refl c.put.ensures) refl c.put-2.ensures) refl c.put-3.ensures) c.put_middle.ensures.put)

pub returns : goal.returns
returns c =
    let s = c.args.sheet.now in
    let shaped : Shaped s = record { counts = search rules; marks = search rules; transitions = search (rules, length_mapped) } in
    let begun = parts_begun s shaped c.args.room.now (search rules) in
    let states = offered (offered (offered begun refl c.put.ensures) refl c.put-2.ensures) refl c.put-3.ensures in
    parts_ended s shaped (search rules) (next (next states c.put_middle.ensures.put) c.put_transitions.ensures.put)
