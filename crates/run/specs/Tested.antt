-- A run with what its test found: a sound run with its leaders in order stays so (`good_kept` in proofs/GoodRuns), so its soundness need not be
-- tested again at each event. Only `run` can make such a value.
-- Assumes nothing.
use Rattle.std.specs.Prelude.{ℕ, ◌+◌, Bool, cond, not, ◌&&◌, ◌||◌, eqb, leb}
use Rattle.sets.specs.Sets.{subset, below_of}
use Rattle.run.specs.declared.Run.{Run}
use Rattle.run.specs.declared.Event.{Event}
use Rattle.run.specs.declared.Ran.{Ran}
use Rattle.run.specs.declared.Tested.{Tested}
use Rattle.run.specs.declared.Next.{Next}
use Rattle.run.specs.Run.{site_at, leader_of, has_stopped}
use Rattle.run.specs.Sound.{every, sound_run}
use Rattle.run.specs.Event.{goes_of, event_of}

-- site i, if it runs and leads, knows all lower sites stopped
unfoldable pub ordered_place : Run → ℕ → Bool
ordered_place r i = has_stopped r i || not (eqb (leader_of r i) i) || subset (below_of i) (site_at r i).known

-- the run is sound and its leaders are in order
unfoldable pub good_run : Run → Bool
good_run r = sound_run r && every r.n (λ (i : ℕ). ordered_place r (i + 1))

-- the run, and what the test found
abbrev pub tested_of : Run → Tested
tested_of r = record { run = r; good = good_run r }

-- the run that was tested
abbrev pub the_run : Tested → Run
the_run t = t.run

-- an event's answer, with what is still known of the run
abbrev pub next_with : Ran → Bool → Next
next_with x good = record { tested = record { run = x.run; good = good }; outcome = x.outcome; counts = x.counts }

-- the run was found good. That it has at most eight sites follows from that, and is tested so that no caller need show it
abbrev pub found_good : Tested → Bool
found_good t = t.good && leb t.run.n 8

-- an event of a run: ground 1 is tested where the run is not known to be good
unfoldable pub gone_on : Tested → Event → Next
gone_on t e = next_with (cond (found_good t) (goes_of t.run e) (event_of t.run e)) (found_good t)
