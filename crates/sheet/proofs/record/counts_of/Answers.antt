-- `counts_of` meets its contract: the four counts in their order.
-- Assumes nothing.
use borrow.Author.Rules.{rules}
use Rattle.sheet.proofs.Made.{made}
use Rattle.sheet.specs.Record.{state_count, state_counts}
use Rattle.sheet.proofs.record.counts_of.Goals as goal

pub returns : goal.returns
unfolding state_counts
returns c = made _ _ (state_count c.args.bytes.now) (λ i y q k. search rules) 0 c.from_fn.result 4 c.from_fn.ensures.items
