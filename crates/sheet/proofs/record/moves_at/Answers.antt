-- `moves_at` meets its contract: what stands before is as long as the counts say.
-- Assumes nothing.
use native.Mathlib.Omega.{arith}
use Rattle.sheet.proofs.record.moves_at.Goals as goal

pub returns : goal.returns
returns c = (simp (c.states_of.ensures.0, c.counts_of-counts.ensures, c.byte_at-sites.ensures), omega arith, omega (arith, c.states_of.ensures.1))
