-- `parts_ground` meets its contract: where no site is out of range, each transition is of one of four.
-- Assumes nothing.
use mathlib.Core.Path.{sym, ◌∙◌}
use Rattle.sheet.proofs.FineLaws.{sited}
use Rattle.sheet.proofs.grounds.parts_ground.Goals as goal

pub is_contended-requires : goal.is_contended-requires
is_contended-requires c = sited c.args.sheet.now _ c.requires.1 (sym c.some_misplaced.ensures ∙ c.if-some_misplaced.false)
