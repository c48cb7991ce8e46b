-- `put_record` meets its contract: piece after piece.
-- Assumes nothing.
use mathlib.Core.Path.{◌∙◌}
use native.Mathlib.Omega.{arith}
use Rattle.text.proofs.Putting.{next, fits_next, length_mapped}
use Rattle.sheet.specs.Write.{four_bytes, middle_bytes, record_of}
use Rattle.sheet.proofs.WriteLaws.{sized, formed, moves_few, headed, recorded}
use borrow.Author.Rules.{rules}
use Rattle.sheet.proofs.writer.put_record.Goals as goal

pub overflow_sub-size : goal.overflow_sub-size
unfolding record_of
overflow_sub-size c = omega (arith, c.requires.1)

pub overflow_cast-size : goal.overflow_cast-size
overflow_cast-size c =
    let s = c.args.sheet.now in
    let z = sized s (record { counts = search rules; marks = search rules; transitions = search (rules, length_mapped) }) c.requires.0 in
    record { fits = omega (arith, z.long, z.four, z.most, z.states, c.requires.1) }

pub put_head-requires : goal.put_head-requires
put_head-requires c =
    let s = c.args.sheet.now in
    let z = sized s (record { counts = search rules; marks = search rules; transitions = search (rules, length_mapped) }) c.requires.0 in
    (z.four, omega (arith, z.long, c.requires.1, c.requires.2))

pub put_marks-requires : goal.put_marks-requires
put_marks-requires c =
    let s = c.args.sheet.now in
    let z = sized s (record { counts = search rules; marks = search rules; transitions = search (rules, length_mapped) }) c.requires.0 in
    (z.few, fits_next (headed s c.args.room.now c.args.size c.requires.1 c.requires.2 c.put_head.ensures.put))

pub overflow_cast-sheet : goal.overflow_cast-sheet
overflow_cast-sheet c = omega (arith, moves_few c.args.sheet.now (formed c.args.sheet.now c.requires.0).moved)

pub put_middle-requires : goal.put_middle-requires
unfolding middle_bytes four_bytes
put_middle-requires c =
    fits_next (next (headed c.args.sheet.now c.args.room.now c.args.size c.requires.1 c.requires.2 c.put_head.ensures.put) c.put_marks.ensures.put)

pub shared_ref_as_front-put_transitions : goal.shared_ref_as_front-put_transitions
shared_ref_as_front-put_transitions c = moves_few c.args.sheet.now (formed c.args.sheet.now c.requires.0).moved

pub put_transitions-requires : goal.put_transitions-requires
put_transitions-requires c =
    let head = headed c.args.sheet.now c.args.room.now c.args.size c.requires.1 c.requires.2 c.put_head.ensures.put in
    fits_next (next (next head c.put_marks.ensures.put) c.put_middle.ensures.put)

pub returns : goal.returns
returns c =
    let s = c.args.sheet.now in
    let head = headed s c.args.room.now c.args.size c.requires.1 c.requires.2 c.put_head.ensures.put in
    let rest = next (next (next head c.put_marks.ensures.put) c.put_middle.ensures.put) c.put_transitions.ensures.put in
    search rules ∙ recorded s c.args.room.now c.args.size c.requires.1 c.requires.2 rest
