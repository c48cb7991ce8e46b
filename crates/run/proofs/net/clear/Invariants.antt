-- `run::net::clear` meets its contract.
-- Assumes nothing.
use Rattle.std.proofs.Common.{ℕ, ◌≡◌, map, take, drop, ◌++◌}
use Rattle.sets.specs.Sets.{without}
use Rattle.run.proofs.net.clear.Given as goal

abbrev pub invariant-loop-to : goal.invariant-loop-to
invariant-loop-to l = l.net ≡ map (λ (m : ℕ). without m l.s) (take l.to-index l.initial.net) ++ drop l.to-index l.initial.net
