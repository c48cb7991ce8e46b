-- `fj_sheet_write` meets its contract: what the writer answers of the sheet that the bytes tell.
-- Assumes nothing.
use mathlib.Core.Path.{sym}
use Rattle.embed.specs.SheetCalls.{sheet_write_call}
use Rattle.embed.proofs.sheet_calls.fj_sheet_write.Goals as goal

pub returns-in-Ok : goal.returns-in-Ok
unfolding sheet_write_call
returns-in-Ok c = simp (sym c.from_parts-told.ensures, sym c.in-Ok.ensures.0, c.in-Ok.ensures.1)

pub returns-in-Err : goal.returns-in-Err
unfolding sheet_write_call
returns-in-Err c = simp (sym c.from_parts-told.ensures, sym c.in-Err.ensures.0, c.in-Err.ensures.1, c.from.ensures)
