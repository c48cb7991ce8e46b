-- `fj_run_fresh` and `fj_run_event`: what they return, and what they leave of the slices.
-- Assumes nothing.
use Rattle.std.specs.Prelude.{ℕ, cond, List, [], ◌∷◌, ◌++◌, eqb, ltb, length, drop, Result, Ok, Err}
use Rattle.refusal.specs.declared.Refusal.{Refusal}
use Rattle.refusal.specs.Refusals.{refusal_number}
use Rattle.site.specs.Step.{number_of}
use Rattle.run.specs.declared.Ran.{Ran}
use Rattle.run.specs.Event.{fresh_of, next_of}
use Rattle.run.specs.declared.Event.{Event}
use Rattle.fields.specs.declared.Fields.{Fields}
use Rattle.fields.specs.Fields.{body, event_from}
use Rattle.packed.specs.Bytes.{run_size, run_bytes, is_run_bytes, run_in}
use Rattle.embed.specs.Bytes.{outcome_byte, Left, leaves, LeftBoth, leaves_both, called}

-- ---- `fj_run_fresh`

-- 15 for a slice that is not a run's size, with nothing touched; else the fresh run's bytes, also those of a refused one
unfoldable pub fresh_call : ℕ → List ℕ → Left
fresh_call n l = cond (eqb (length l) run_size) (leaves (number_of (fresh_of n).outcome) (run_bytes (fresh_of n).run)) (leaves 15 l)

-- ---- `fj_run_event`

-- the answer takes so many bytes of its room
abbrev pub run_answer : ℕ
run_answer = 4

-- outcome, messages written, how many sites are awaited, and the lowest of them
unfoldable pub ran_bytes : Ran → List ℕ
ran_bytes a = outcome_byte a.outcome ∷ a.counts.written ∷ a.counts.awaited ∷ a.counts.lowest ∷ []

-- a refusal before any event: outcome 2 and zeros
abbrev pub no_event : ℕ → List ℕ → List ℕ → LeftBoth
no_event g run room = leaves_both g run (2 ∷ 0 ∷ 0 ∷ 0 ∷ drop run_answer room)

-- an event's answer, and the run's bytes as it leaves them
abbrev pub ran_leaves : Ran → List ℕ → List ℕ → LeftBoth
ran_leaves a run room = called a.outcome run (run_bytes a.run) (ran_bytes a ++ drop run_answer room)

-- what the fields come to: the event that they tell happens to the run, or their ground is the refusal
abbrev pub happening : Result Event Refusal → List ℕ → List ℕ → LeftBoth
happening (Ok e) run room = ran_leaves (next_of (run_in run) e) run room
happening (Err why) run room = no_event (refusal_number why) run room

-- 15 comes first, with nothing touched; then 1, 13 and 14 as the fields have it, then the event's own grounds
unfoldable pub run_call_by : List ℕ → Fields → List ℕ → LeftBoth
run_call_by run f room =
    cond (ltb (length room) run_answer) (leaves_both 15 run room)
    (cond (is_run_bytes run) (happening (event_from f) run room) (no_event 1 run room))

unfoldable pub run_call : List ℕ → ℕ → ℕ → ℕ → ℕ → ℕ → ℕ → List ℕ → LeftBoth
run_call run k s o m v x room = run_call_by run (body k s o m v x) room
