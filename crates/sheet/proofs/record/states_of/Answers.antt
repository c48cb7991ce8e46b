-- What is left to show.
use mathlib.Core.Path.{◌∙◌}
use native.Mathlib.Omega.{arith}
use borrow.Author.Rules.{rules}
use Rattle.std.proofs.lemmas.Iterator.{YieldsList-from_slice, YieldsList-from_map}
use Rattle.std.proofs.lemmas.Iterator.Consumers.{sum_by_from_yields_List, fits_by_from_yields_list}
use Rattle.sheet.proofs.IndexLaws.{sum_of}
use Rattle.sheet.proofs.Marks.{states_few}
use Rattle.sheet.specs.Record.{states_before}
use Rattle.sheet.proofs.record.states_of.Goals as goal

pub sum-requires-clause-fits : goal.sum-requires-clause-fits
unfolding states_before
sum-requires-clause-fits c =
    let all = sum_of (λ x. x) 0 c.args.counts 4 (search rules) in
    fits_by_from_yields_list (λ x. x) c.args.counts c.map.result _ (YieldsList-from_map _ (λ x. x) (YieldsList-from_slice c.args.counts cc) c.map.ensures.closure (λ x r q k. search rules))
    (omega (arith, all, states_few c.args.counts (search rules)))

pub returns : goal.returns
unfolding states_before
returns c =
    let all = sum_of (λ x. x) 0 c.args.counts 4 (search rules) in
    let total = sum_by_from_yields_List (λ x. x) c.args.counts c.map.result c.sum.result c.sum.ensures.ran (YieldsList-from_map _ (λ x. x) (YieldsList-from_slice c.args.counts cc) c.map.ensures.closure (λ x r q k. search rules)) in
    (total ∙ all, omega (arith, total, all, states_few c.args.counts (search rules)))
