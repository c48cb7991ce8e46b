-- `run::Run::sound_places` meets its contract.
-- Assumes nothing.
use Rattle.std.proofs.Common.{ℕ, ◌+◌, rules}
use Rattle.std.proofs.iter.runs.Sources.{ranges}
use Rattle.run.specs.Sound.{sound_place}
use Rattle.run.proofs.SoundLaws.{every_iff}
use Rattle.run.proofs.Run.sound_places.Goals as goal

pub returns : goal.returns
unfolding sound_place
returns c = every_iff (λ (i : ℕ). sound_place c.args.self.now (i + 1)) c.args.self.now.n c.all.result (search (rules, ranges)) (search (rules, ranges))
