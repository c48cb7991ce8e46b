-- What is left to show.
use Prim.Native.Nat.{◌/◌, ◌%◌}
use mathlib.Core.Bool.{not, ◌&&◌}
use mathlib.Core.Path.{◌∙◌}
use borrow.Author.Rules.{rules}
use borrow.Author.Tests.{tests}
use lib.Dec.{leb, eqb}
use lib.ListN.{get_or}
use Rattle.std.proofs.lemmas.Iterator.{YieldsList-from_slice}
use Rattle.std.proofs.lemmas.Iterator.Consumers.{YieldsList-from_enumerate}
use Rattle.std.proofs.lemmas.Iterator.Search.{any_from_yields_List}
use Rattle.sheet.proofs.IndexLaws.{any_placed}
use Rattle.sheet.specs.Write.{stray_mark}
use Rattle.sheet.proofs.writer.has_stray_mark.Goals as goal

pub returns : goal.returns
unfolding stray_mark
returns c =
    let counts = c.args.counts.now in
    let marks = c.args.marks.now in
    let found = any_from_yields_List (λ e. leb (get_or counts (e.0 / 8) 0) (e.0 % 8) && not (eqb e.1 0)) _ _ c.any.result c.any.ensures.ran (YieldsList-from_enumerate (YieldsList-from_slice marks cc) cc) (λ x b q k. search (rules, tests)) in
    found ∙ any_placed _ 0 marks 32 (search rules)
