-- `fj_site_step`: what it returns, and what it leaves of both slices.
-- Assumes nothing.
use Rattle.std.specs.Prelude.{ℕ, Bool, cond, ◌&&◌, List, [], ◌∷◌, ◌++◌, ltb, leb, length, drop, Result, Ok, Err}
use Rattle.refusal.specs.declared.Refusal.{Refusal}
use Rattle.refusal.specs.Refusals.{refusal_number}
use Rattle.site.specs.declared.Answer.{Answer}
use Rattle.site.specs.Step.{step_of}
use Rattle.run.specs.declared.Event.TheVariants.{Act, Stop, Cut}
use Rattle.run.specs.declared.Event.{Event}
use Rattle.fields.specs.declared.Fields.{Fields}
use Rattle.fields.specs.Fields.{body, event_from}
use Rattle.packed.specs.Bytes.{site_bytes, is_site_bytes, site_in}
use Rattle.embed.specs.Bytes.{outcome_byte, LeftBoth, leaves_both, called}

-- ---- what is asked for

-- 13 is given where this is false: K is 1 to 5, a begin to a conclude
unfoldable pub is_step : ℕ → Bool
is_step k = leb 1 k && leb k 5

-- ---- what is left

-- the answer takes so many bytes of its room
abbrev pub site_answer : ℕ
site_answer = 6

-- outcome, kind, receivers, messages written, how many sites are awaited, and the lowest of them
unfoldable pub answer_bytes : Answer → List ℕ
answer_bytes a = outcome_byte a.outcome ∷ a.kind ∷ a.to ∷ a.counts.written ∷ a.counts.awaited ∷ a.counts.lowest ∷ []

-- a refusal before any step: outcome 2 and zeros
abbrev pub no_step : ℕ → List ℕ → List ℕ → LeftBoth
no_step g site room = leaves_both g site (2 ∷ 0 ∷ 0 ∷ 0 ∷ 0 ∷ 0 ∷ drop site_answer room)

-- a step's answer, and the site's bytes as it leaves them
abbrev pub step_leaves : Answer → List ℕ → List ℕ → LeftBoth
step_leaves a site room = called a.outcome site (site_bytes a.site) (answer_bytes a ++ drop site_answer room)

-- the step that the fields tell, or 14 as an event's fields have it; with a K of 1 to 5 they tell no stop
abbrev pub stepping : Result Event Refusal → List ℕ → List ℕ → LeftBoth
stepping (Ok (Act a t)) site room = step_leaves (step_of (site_in site) t) site room
stepping (Ok (Stop a)) site room = no_step 13 site room
stepping (Ok (Cut a t to)) site room = no_step 13 site room
stepping (Err why) site room = no_step (refusal_number why) site room

-- 15 comes first, with nothing touched; then 1, 13, 14, then the step's own grounds
unfoldable pub site_call_by : List ℕ → Fields → List ℕ → LeftBoth
site_call_by site f room =
    cond (ltb (length room) site_answer) (leaves_both 15 site room)
    (cond (is_site_bytes site)
    (cond (is_step f.k) (stepping (event_from f) site room) (no_step 13 site room))
    (no_step 1 site room))

-- S and X are 0
unfoldable pub site_call : List ℕ → ℕ → ℕ → ℕ → ℕ → List ℕ → LeftBoth
site_call site k o m v room = site_call_by site (body k 0 o m v 0) room
