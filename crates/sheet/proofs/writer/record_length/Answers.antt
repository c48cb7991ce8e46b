-- `record_length` meets its contract: the sizes of the parts, summed up.
-- Assumes nothing.
use native.Mathlib.Omega.{arith}
use Rattle.text.proofs.Putting.{length_mapped}
use Rattle.sheet.specs.RoundTrip.{Shaped}
use Rattle.sheet.proofs.WriteLaws.{formed, sites_among, moves_few, sized}
use borrow.Author.Rules.{rules}
use Rattle.sheet.proofs.writer.record_length.Goals as goal

pub overflow_add-result : goal.overflow_add-result
overflow_add-result c = omega (arith, (sites_among c.args.sheet.now (formed c.args.sheet.now c.requires).counted).high)

pub overflow_add-result-2 : goal.overflow_add-result-2
overflow_add-result-2 c = omega (arith, (sites_among c.args.sheet.now (formed c.args.sheet.now c.requires).counted).high, c.states_of.ensures.1)

pub overflow_add-result-3 : goal.overflow_add-result-3
overflow_add-result-3 c = omega (arith, (sites_among c.args.sheet.now (formed c.args.sheet.now c.requires).counted).high, c.states_of.ensures.1)

pub overflow_mul-result : goal.overflow_mul-result
overflow_mul-result c = omega (arith, moves_few c.args.sheet.now (formed c.args.sheet.now c.requires).moved)

pub overflow_add-result-4 : goal.overflow_add-result-4
overflow_add-result-4 c = omega (arith, moves_few c.args.sheet.now (formed c.args.sheet.now c.requires).moved, (sites_among c.args.sheet.now (formed c.args.sheet.now c.requires).counted).high, c.states_of.ensures.1)

pub returns : goal.returns
returns c = let shaped : Shaped c.args.sheet.now = record { counts = search rules; marks = search rules; transitions = search (rules, length_mapped) } in let z = sized c.args.sheet.now shaped c.requires in (omega (arith, z.long, c.states_of.ensures.0), omega (arith, c.states_of.ensures.0), omega (arith, z.four, z.most, z.states, c.states_of.ensures.0))
