-- `no_sheet` meets its contract.
-- Assumes nothing.
use mathlib.Core.Path.{◌≡◌}
use borrow.Author.Rules.{rules}
use Rattle.sheet.specs.Record.{no_sheet, no_transition}
use Rattle.sheet.proofs.no_sheet.Goals as goal

pub returns : goal.returns
unfolding no_sheet
returns c = let none : c.default.result ≡ no_transition = search rules in simp none
