-- `sheet_from` meets its contract: field by field.
-- Assumes nothing.
use mathlib.Core.Path.{◌∙◌}
use native.Mathlib.Omega.{arith}
use borrow.Author.Rules.{rules}
use Rattle.sheet.specs.Index.{table}
use Rattle.sheet.specs.Parts.{parts_in}
use Rattle.sheet.proofs.IndexLaws.{part_table}
use Rattle.sheet.proofs.Rows.{rest_read}
use Rattle.sheet.proofs.parts_bytes.sheet_from.Goals as goal

pub returns : goal.returns
unfolding parts_in table
returns c =
    let l = c.args.bytes.now in
    let marks = c.copy_from_slice.ensures.after ∙ part_table l 0 5 32 (search rules) in
    let moves = c.transitions_of.ensures ∙ rest_read l 42 768 64 (search rules) (omega arith) in
    simp (moves, marks, c.word_at.ensures)
