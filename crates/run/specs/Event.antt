-- The events of a run (01, "The run"): on which of the grounds 1 to 6 one is refused, and what one does that is accepted.
-- Assumes nothing.
use Rattle.std.specs.Prelude.{ℕ, Bool, true, false, cond, not, ◌&&◌, leb, Ok, Err}
use Rattle.sets.specs.Sets.{both, count_of}
use Rattle.refusal.specs.declared.Refusal.{Refusal}
use Rattle.refusal.specs.declared.Refusal.TheVariants.{NotSound, WrongNames, ActorStopped, NotThere}
use Rattle.refusal.specs.Refusals.{Test, clear}
use Rattle.site.specs.declared.Outcome.{Outcome}
use Rattle.site.specs.declared.Outcome.TheVariants.{Taken, Refused}
use Rattle.site.specs.declared.Step.{Step}
use Rattle.site.specs.declared.Step.TheVariants.{Begin, Start, Deliver, Notice, TakeOver, Conclude}
use Rattle.site.specs.declared.Site.{Site}
use Rattle.site.specs.declared.Answer.{Answer}
use Rattle.site.specs.declared.Counts.{Counts}
use Rattle.site.specs.Site.{start, names_of}
use Rattle.site.specs.Step.{step_of, none_awaited, none, ground_of}
use Rattle.run.specs.declared.Run.{Run}
use Rattle.run.specs.declared.Event.{Event}
use Rattle.run.specs.declared.Event.TheVariants.{Act, Stop, Cut}
use Rattle.run.specs.declared.Effect.{Effect}
use Rattle.run.specs.declared.Ran.{Ran}
use Rattle.run.specs.Run.{site_at, outstanding, has_stopped, knows, with_record, taken_out, sent_by, stopped_at, fresh_run}
use Rattle.run.specs.Sound.{sound_run}

-- "Refused: run and site come back unchanged, no message, zero counts"
abbrev pub refused_run : Run → Refusal → Ran
refused_run r g = record { run = r; outcome = Refused g; counts = none }

-- what was taken, with so many messages written and nobody awaited
abbrev pub taken_run : Run → ℕ → Ran
taken_run r m = record { run = r; outcome = Taken; counts = none_awaited m }

-- ---- fresh

-- "fresh n not 2..8" is ground 1, and "A refused fresh is the same with n 0 in run and records"
unfoldable pub fresh_of : ℕ → Ran
fresh_of n = cond (leb 2 n && leb n 8) (taken_run (fresh_run n) 0) (refused_run (fresh_run 0) NotSound)

-- ---- the grounds, in their order

-- the acting site
abbrev pub actor : Event → ℕ
actor (Act s t) = s
actor (Stop s) = s
actor (Cut s t x) = s

-- ground 2 is given where this is false: the acting site is one of 1 to n
unfoldable pub is_actor : Run → ℕ → Bool
is_actor r s = leb 1 s && leb s r.n

-- ground 4 is given where this is false: a delivered message is outstanding; a noticed site has stopped and is not yet known to have
abbrev pub is_there : Run → ℕ → Step → Bool
is_there r s (Begin v) = true
is_there r s (Start from v) = outstanding r start from s
is_there r s (Deliver k from) = outstanding r k from s
is_there r s (Notice o) = has_stopped r o && not (knows r s o)
is_there r s TakeOver = true
is_there r s Conclude = true

-- a step of site s, whole or cut short: 2, 3, 4, then the site's own, 5 or 6, where one holds
unfoldable pub step_ground : Run → ℕ → Step → Test
step_ground r s t =
    cond (is_actor r s && names_of (site_at r s) t) (cond (has_stopped r s) (Err ActorStopped) (cond (is_there r s t) (ground_of (step_of (site_at r s) t).outcome) (Err NotThere))) (Err WrongNames)

-- a stop: 2, 3
unfoldable pub stop_ground : Run → ℕ → Test
stop_ground r s = cond (is_actor r s) (cond (has_stopped r s) (Err ActorStopped) clear) (Err WrongNames)

-- "a stop during any of the first five .. is refused as that step would be"
abbrev pub event_ground : Run → Event → Test
event_ground r (Act s t) = step_ground r s t
event_ground r (Stop s) = stop_ground r s
event_ground r (Cut s t x) = step_ground r s t

-- ---- what an accepted event does

-- the kind of the message that a step delivers, 0 for none, and its sender: "deliver (taken out of the network, even if passed over)"
abbrev pub got_by : Step → ℕ
got_by (Begin v) = 0
got_by (Start from v) = start
got_by (Deliver k from) = k
got_by (Notice o) = 0
got_by TakeOver = 0
got_by Conclude = 0

abbrev pub got_from : Step → ℕ
got_from (Begin v) = 0
got_from (Start from v) = from
got_from (Deliver k from) = from
got_from (Notice o) = 0
got_from TakeOver = 0
got_from Conclude = 0

-- a whole step: the new record, the delivered message out, the written messages in
abbrev pub whole_step : Step → Answer → Effect
whole_step t a = record { site = a.site; got = got_by t; from = got_from t; kind = a.kind; to = a.to; stops = false }

-- a stop: the record stays "as before the step", and messages of one kind to some sites have left
abbrev pub halting : Site → ℕ → ℕ → Effect
halting x k to = record { site = x; got = 0; from = 0; kind = k; to = to; stops = true }

-- of the messages that a step writes, a stop inside it lets those to x leave: "receivers it doesn't write to are ignored"
abbrev pub effect_of : Run → Event → Effect
effect_of r (Act s t) = whole_step t (step_of (site_at r s) t)
effect_of r (Stop s) = halting (site_at r s) 0 0
effect_of r (Cut s t x) = halting (site_at r s) (step_of (site_at r s) t).kind (both (step_of (site_at r s) t).to x)

-- a site stops, or not
abbrev pub halted_at : Run → ℕ → Bool → Run
halted_at r s b = cond b (stopped_at r s) r

-- what an event of site s does is put into the run: its record, the message taken out, its stop, the messages that leave
unfoldable pub applied : Run → ℕ → Effect → Run
applied r s x = sent_by (halted_at (taken_out (with_record r s x.site) x.got x.from s) s x.stops) x.kind s x.to

-- a delivery that is passed over is passed; any accepted stop is taken
abbrev pub outcome_of : Run → Event → Outcome
outcome_of r (Act s t) = (step_of (site_at r s) t).outcome
outcome_of r (Stop s) = Taken
outcome_of r (Cut s t x) = Taken

-- a step reports as the site does, whom it awaits too (02, Ask 4); a stop "counts only messages that leave", and "After any stop the awaited
-- number is 0", and so is the lowest
abbrev pub report_of : Run → Event → Counts
report_of r (Act s t) = (step_of (site_at r s) t).counts
report_of r (Stop s) = none
report_of r (Cut s t x) = none_awaited (count_of (both (step_of (site_at r s) t).to x))

-- ---- the event

abbrev pub happened : Run → Event → Ran
happened r e = record { run = applied r (actor e) (effect_of r e); outcome = outcome_of r e; counts = report_of r e }

-- refused with the first ground that holds, if any does
abbrev pub unless : Test → Run → Ran → Ran
unless (Ok u) r x = x
unless (Err g) r x = refused_run r g

-- an event of a sound run: grounds 2 to 6
unfoldable pub goes_of : Run → Event → Ran
goes_of r e = unless (event_ground r e) r (happened r e)

-- an event of any run: ground 1 comes first
unfoldable pub event_of : Run → Event → Ran
event_of r e = cond (sound_run r) (goes_of r e) (refused_run r NotSound)

-- the event as a live call takes it
abbrev pub next_of : Run → Event → Ran
next_of = event_of
