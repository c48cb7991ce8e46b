-- What is left to show.
use mathlib.Core.Path.{◌∙◌}
use native.Mathlib.Omega.{arith}
use lib.ListN.{length}
use Rattle.std.proofs.Math.Nat.{min-le_right}
use borrow.Author.Rules.{rules}
use Rattle.sheet.proofs.Rows.{no_row_read, row_read, all_rows_read, rows_read}
use Rattle.sheet.proofs.record.transitions_of.Goals as goal

pub loop-k-init : goal.loop-k-init
loop-k-init c = no_row_read c.as_chunks.result.0.now (search rules)

pub loop-k-preserved : goal.loop-k-preserved
loop-k-preserved c = row_read c.loop-k.invariant (omega (arith, c.loop-k-test.true, c.min-k-end.ensures, min-le_right (length c.as_chunks.result.0.now) 64)) c.transition_from.ensures

pub returns : goal.returns
returns c =
    let rows = c.as_chunks.result.0.now in
    all_rows_read c.loop-k.invariant (omega (arith, c.loop-k-test.false, c.loop-k.auto.k-end) ∙ c.min-k-end.ensures)
    ∙ rows_read c.args.bytes.now _ rows c.as_chunks.ensures.front
