-- Why soundness is kept only where leaders are in order: a sound run of three sites that one accepted event leaves not sound.
-- Assumes nothing.
use mathlib.Core.Bool.{true, false}
use mathlib.Core.Path.{◌≡◌, refl}
use Rattle.sets.specs.Sets.{bit, is_site, has, weight_of, union, minus, without, subset, all_of, others_of, below_of}
use Rattle.site.specs.declared.State.TheVariants.{P}
use Rattle.site.specs.declared.Outcome.TheVariants.{Taken}
use Rattle.site.specs.declared.Step.TheVariants.{Conclude}
use Rattle.site.specs.Site.{in_state, following, with_acked, sound_of, to_all, polls, collects, awaited_of}
use Rattle.site.specs.Leader.{settle_of}
use Rattle.site.specs.Step.{conclude_of, done_of, answered, step_of}
use Rattle.run.specs.declared.Run.{Run}
use Rattle.run.specs.declared.Event.TheVariants.{Act}
use Rattle.run.specs.Run.{has_row, place, has_stopped, with_record, taken_out, sent_by, fresh_site, fresh_run}
use Rattle.run.specs.Sound.{sound_place, may_reach, sound_entry, sound_run}
use Rattle.run.specs.Event.{is_actor, step_ground, applied, goes_of, event_of}

-- site 2 leads in p and has both acknowledgements, but does not know that site 1 has stopped: it has not
abbrev pub unordered : Run
unordered = with_record (fresh_run 3) 2 (following (with_acked (in_state (fresh_site 3 2) P) 5) 2)

pub sound_before : sound_run unordered ≡ true
unfolding sound_run sound_place sound_entry sound_of may_reach subset union others_of without minus all_of below_of weight_of is_site
sound_before = refl

-- its Conclude is taken, and writes Commit to site 1, from a higher site to a lower
pub taken_then : (event_of unordered (Act 2 Conclude)).outcome ≡ Taken
unfolding event_of sound_run sound_place sound_entry sound_of may_reach subset union others_of without minus all_of below_of weight_of is_site goes_of step_ground is_actor has_stopped has bit step_of answered done_of conclude_of polls settle_of collects awaited_of to_all
taken_then = refl

pub unsound_after : sound_run (event_of unordered (Act 2 Conclude)).run ≡ false
unfolding event_of sound_run sound_place sound_entry sound_of may_reach subset union others_of without minus all_of below_of weight_of is_site goes_of step_ground is_actor has_stopped has bit step_of answered done_of conclude_of polls settle_of collects awaited_of to_all applied taken_out sent_by place has_row
unsound_after = refl
