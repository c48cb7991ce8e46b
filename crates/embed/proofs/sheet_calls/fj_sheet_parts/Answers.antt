-- `fj_sheet_parts` meets its contract: the room, then the ground, then the parts.
-- Assumes nothing.
use mathlib.Core.Path.{sym}
use borrow.Author.Tests.{lt-ltb, le-ltb}
use Rattle.sheet.specs.Parts.{parts_size}
use Rattle.embed.specs.SheetCalls.{parts_call}
use Rattle.embed.proofs.sheet_calls.fj_sheet_parts.Goals as goal

pub returns-then-parts-lt-PARTS : goal.returns-then-parts-lt-PARTS
unfolding parts_call
returns-then-parts-lt-PARTS c = simp (lt-ltb _ parts_size c.if-parts-lt-PARTS.true, c.from.ensures)

pub returns-in-Ok : goal.returns-in-Ok
unfolding parts_call
returns-in-Ok c = simp (le-ltb _ parts_size c.if-parts-lt-PARTS.false, sym c.in-Ok.ensures, c.put_parts.ensures, c.parts-read.ensures.value)

pub returns-in-Err : goal.returns-in-Err
unfolding parts_call
returns-in-Err c = simp (le-ltb _ parts_size c.if-parts-lt-PARTS.false, sym c.in-Err.ensures, c.from-in-Err.ensures)
