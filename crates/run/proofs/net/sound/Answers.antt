-- `run::net::sound` meets its contract.
-- Assumes nothing.
use Rattle.std.proofs.Common.{ℕ, ◌+◌, ◌/◌, ◌%◌, get_or, rules}
use Rattle.std.proofs.iter.runs.Made.{chains}
use Rattle.sets.specs.Sets.{minus, subset}
use Rattle.run.specs.Sound.{may_reach}
use Rattle.run.proofs.SoundLaws.{every_iff}
use Rattle.run.proofs.net.sound.Goals as goal

pub returns : goal.returns
returns c = every_iff (λ (at : ℕ). subset (get_or c.args.net.now at 0) (minus (may_reach c.args.n (at / 8 + 1) (at % 8 + 1)) c.args.stopped)) 72 _ (search (rules, chains)) (search (rules, chains))
