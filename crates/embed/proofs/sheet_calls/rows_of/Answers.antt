-- `embed::sheet_calls::rows_of` meets its contract: one call for each local state.
-- Assumes nothing.
use borrow.Author.Rules.{rules}
use borrow.Author.Tests.{tests}
use Rattle.text.proofs.Putting.{length_mapped}
use Rattle.sheet.proofs.Made.{mapped}
use Rattle.judge.specs.Facts.{no_local}
use Rattle.embed.specs.SheetCalls.{local_bytes}
use Rattle.embed.proofs.sheet_calls.rows_of.Goals as goal

pub returns : goal.returns
returns c = mapped _ local_bytes _ c.args.locals c.map.result 32 no_local (λ p x y q w. search (rules, tests)) (search (rules, length_mapped)) c.map.ensures.items
