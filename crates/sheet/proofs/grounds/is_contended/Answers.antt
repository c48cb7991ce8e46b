-- `is_contended` meets its contract: a transition reads what the others of its site read exactly where it shares a message with one of them.
-- Assumes nothing.
use mathlib.Core.Path.{refl, sym, ◌∙◌}
use lib.ListN.{get_or, length}
use Rattle.sheet.specs.Record.{no_transition}
use Rattle.sheet.proofs.IndexLaws.{any_of, some_same}
use Rattle.sheet.proofs.Readers.{shared}
use Rattle.sheet.proofs.grounds.is_contended.Goals as goal

pub returns : goal.returns
returns c =
    let moves = c.args.moves.now in
    c.some_among.ensures
    ∙ any_of _ no_transition moves (length moves) refl
    ∙ some_same _ _ (length moves) (λ k h. let at = c.requires k no_transition h in shared (get_or moves k no_transition) moves _ c.reads_of_others-others.ensures at.0 at.1)
    ∙ sym (any_of _ no_transition moves (length moves) refl)
