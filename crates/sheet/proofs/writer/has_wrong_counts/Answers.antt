-- What is left to show.
use mathlib.Core.Path.{◌∙◌}
use borrow.Author.Rules.{rules}
use borrow.Author.Tests.{tests}
use lib.Dec.{ltb}
use Rattle.std.proofs.lemmas.Iterator.{YieldsList-from_slice}
use Rattle.std.proofs.lemmas.Iterator.Consumers.{YieldsList-from_enumerate}
use Rattle.std.proofs.lemmas.Iterator.Search.{any_from_yields_List}
use Rattle.sheet.proofs.IndexLaws.{any_placed}
use Rattle.sheet.specs.Write.{wrong_count, wrong_counts}
use Rattle.sheet.proofs.writer.has_wrong_counts.Goals as goal

pub returns-then-is_outside : goal.returns-then-is_outside
unfolding wrong_counts
returns-then-is_outside c = simp (← c.is_outside.ensures, c.if-is_outside.true)

pub returns-else-is_outside : goal.returns-else-is_outside
unfolding wrong_counts
returns-else-is_outside c =
    let counts = c.args.sheet.now.counts in
    let found = any_from_yields_List (λ e. wrong_count (ltb e.0 c.args.sheet.now.sites) e.1) _ _ c.any.result c.any.ensures.ran (YieldsList-from_enumerate (YieldsList-from_slice counts cc) cc) (λ x b q k. search (rules, tests)) in
    simp (← c.is_outside.ensures, c.if-is_outside.false) (found ∙ any_placed _ 0 counts 4 (search rules))
