-- `run::net::holds` meets its contract.
-- Assumes nothing.
use Rattle.std.proofs.Common.{ℕ, ap, ◌∙◌, sym, arith}
use Rattle.std.proofs.Math.ListN.{get_or-eq_default}
use Rattle.sets.specs.Sets.{has}
use Rattle.sets.proofs.SetLaws.{has_none}
use Rattle.run.proofs.net.holds.Goals as goal

pub returns-in_default : goal.returns-in_default
returns-in_default c = sym (ap (λ (m : ℕ). has m c.args.s) (get_or-eq_default c.args.net.now 0 (omega arith)) ∙ has_none c.args.s)
