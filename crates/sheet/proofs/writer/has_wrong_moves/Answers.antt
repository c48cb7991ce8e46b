-- What is left to show.
use mathlib.Core.Path.{◌∙◌}
use borrow.Author.Rules.{rules}
use borrow.Author.Tests.{tests, lt-ltb, le-ltb}
use Rattle.std.proofs.lemmas.Iterator.{YieldsList-from_slice}
use Rattle.std.proofs.lemmas.Iterator.Search.{any_from_yields_List}
use Rattle.text.proofs.Putting.{length_mapped}
use Rattle.sheet.proofs.IndexLaws.{any_beyond}
use Rattle.sheet.specs.Record.{no_transition}
use Rattle.sheet.specs.Write.{filled, stray_move, wrong_moves}
use Rattle.sheet.proofs.writer.has_wrong_moves.Goals as goal

pub returns-then-sheet-gt64 : goal.returns-then-sheet-gt64
unfolding wrong_moves
returns-then-sheet-gt64 c = simp (lt-ltb _ _ c.if-sheet-gt64.true)

pub returns : goal.returns
unfolding wrong_moves stray_move
returns c =
    let s = c.args.sheet.now in
    let found = any_from_yields_List filled _ _ c.any.result c.any.ensures.ran (YieldsList-from_slice _ c.iter.ensures.rest) (λ x b q k. search (rules, tests)) in
    simp (le-ltb 64 _ c.if-sheet-gt64.false) (found ∙ any_beyond filled no_transition s.transitions s.moves 64 (search (rules, length_mapped)) c.if-sheet-gt64.false)
