-- `run::Run::good` meets its contract.
-- Assumes nothing.
use Rattle.std.proofs.Common.{ℕ, ◌+◌, ◌≤◌, ◌≡◌, true, ◌∙◌, sym, rules}
use Rattle.std.proofs.iter.runs.Sources.{ranges}
use Rattle.run.specs.Run.{leader_of, has_stopped}
use Rattle.run.specs.Sound.{sound_run}
use Rattle.run.specs.Tested.{ordered_place, good_run}
use Rattle.run.proofs.SoundLaws.{n_most, every_iff}
use Rattle.run.proofs.Run.good.Goals as goal

pub returns-then-sound : goal.returns-then-sound
unfolding ordered_place has_stopped leader_of good_run
returns-then-sound c =
    let s : sound_run c.args.self.now ≡ true = sym c.sound.ensures ∙ c.if-sound.true in
    let h : c.args.self.now.n ≤ 8 = n_most c.args.self.now s in
    every_iff (λ (i : ℕ). ordered_place c.args.self.now (i + 1)) c.args.self.now.n c.all.result (search (rules, ranges)) (search (rules, ranges)) ∙ sym (simp s)

pub returns-else-sound : goal.returns-else-sound
unfolding good_run
returns-else-sound c = c.if-sound.false ∙ sym (simp (sym c.sound.ensures ∙ c.if-sound.false))
