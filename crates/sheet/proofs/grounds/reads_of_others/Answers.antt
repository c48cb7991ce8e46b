-- `reads_of_others` meets its contract: one call for each site.
-- Assumes nothing.
use mathlib.Core.List.{[], ◌∷◌}
use borrow.Author.Rules.{rules}
use Rattle.sheet.specs.Index.{table}
use Rattle.sheet.specs.Faults.{read_beside}
use Rattle.sheet.proofs.Maps.{table_from_map}
use Rattle.sheet.proofs.grounds.reads_of_others.Goals as goal

pub returns : goal.returns
unfolding table
returns c =
    table_from_map _ (λ site. read_beside site c.args.moves.now) _ (λ x y q k. search rules) (1 ∷ 2 ∷ 3 ∷ 4 ∷ []) _ 0 4 c.map.ensures.items
