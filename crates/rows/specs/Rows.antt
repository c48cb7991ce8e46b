-- 01's starred rows ("Tables to run and compare") as one list, in its order. RowsHold shows that all of them hold.
-- What a row leaves open, as how many sites there are or whom they have heard, may be anything that a sound record can have; row 3 is about a site that knows of no stop.
-- Assumes nothing.
use Rattle.std.specs.Prelude.{ℕ, ◌≤◌, ◌<◌, true, List, [], ◌∷◌, ◌≡◌, Result, Err}
use Rattle.sets.specs.Sets.{weight_of, others_of}
use Rattle.refusal.specs.declared.Refusal.{Refusal}
use Rattle.refusal.specs.declared.Refusal.TheVariants.{NotSound, NotAllowed, Conflict, WrongVersion}
use Rattle.site.specs.declared.State.{State}
use Rattle.site.specs.declared.State.TheVariants.{Q, W, P, A, C}
use Rattle.site.specs.declared.Vote.{Vote}
use Rattle.site.specs.declared.Vote.TheVariants.{Yes}
use Rattle.site.specs.declared.Site.{Site}
use Rattle.site.specs.declared.Step.{Step}
use Rattle.site.specs.declared.Step.TheVariants.{Begin, Start, Deliver, TakeOver, Conclude}
use Rattle.site.specs.declared.Outcome.TheVariants.{Taken, Passed}
use Rattle.site.specs.declared.Answer.{Answer}
use Rattle.site.specs.Site.{in_state, following, with_acked, sound_of, start, say_yes, move_p, move_w, ack, abort}
use Rattle.site.specs.Step.{step_of, none, refusal}
use Rattle.run.specs.declared.Ran.{Ran}
use Rattle.run.specs.Run.{fresh_site, fresh_run}
use Rattle.run.specs.Event.{refused_run, fresh_of}
use Rattle.journal.specs.declared.Record.{Record}
use Rattle.journal.specs.Record.{body_of, read_of}

-- ---- what a row can say

pub data Row : Type 1 where
  -- fresh with so many sites gives this
  fresh : ℕ → Ran → Row
  -- at every sound record that is like this, a step gives this answer
  step : (Site → Type 0) → Step → (Site → Answer) → Row
  -- and at the record that it gives, a second step gives this one
  steps : (Site → Type 0) → Step → (Site → Answer) → Step → (Site → Answer) → Row
  -- in these bytes the reader finds this
  read : List ℕ → Result Record Refusal → Row
  -- one of these for every value of something that 01 leaves open
  any : {T : Type 0} → (T → Row) → Row

-- its meaning, over the definitions that the contracts of run::fresh, site::Site::step and journal::read cite
abbrev pub holds : Row → Type 0
holds (fresh n r) = fresh_of n ≡ r
holds (step like t a) = (s : Site) → sound_of s ≡ true → like s → step_of s t ≡ a s
holds (steps like t a u b) = (s : Site) → sound_of s ≡ true → like s → (step_of s t ≡ a s) × (step_of (a s).site u ≡ b (a s).site)
holds (read l f) = read_of l ≡ f
holds (any {T} row) = (v : T) → holds (row v)

-- it is about something: there is a sound record like that
abbrev pub occurs : Row → Type 0
occurs (fresh n r) = Unit {0}
occurs (step like t a) = (s : Site) × (sound_of s ≡ true) × like s
occurs (steps like t a u b) = (s : Site) × (sound_of s ≡ true) × like s
occurs (read l f) = Unit {0}
occurs (any {T} row) = (v : T) × occurs (row v)

abbrev pub all : (Row → Type 0) → List Row → Type 0
all says [] = Unit {0}
all says (row ∷ rows) = says row × all says rows

-- ---- the words of the rows

-- taken: the record then, the kind and the receivers of what is written, how many messages, how many sites awaited, and the lowest of these
abbrev pub answer_taken : Site → ℕ → ℕ → ℕ → ℕ → ℕ → Answer
answer_taken s kind to written awaited lowest =
    record { site = s; outcome = Taken; kind = kind; to = to; counts = record { written = written; awaited = awaited; lowest = lowest } }

-- taken, without a message, and nobody is awaited
abbrev pub quietly : Site → Answer
quietly s = answer_taken s 0 0 0 0 0

-- passed over: the record as it was, no message, nobody awaited
abbrev pub answer_passed : Site → Answer
answer_passed s = record { site = s; outcome = Passed; kind = 0; to = 0; counts = none }

-- the record of a site that has just taken over
abbrev pub leading : Site → Site
leading s = with_acked (following s s.number) 0

-- site 2 of n sites, in this state, which follows 1 and knows that 1 has stopped and no other
abbrev pub second_of : ℕ → State → Site → Type 0
second_of n q s = (s.number ≡ 2) × (s.n ≡ n) × (s.state ≡ q) × (s.leader ≡ 1) × (s.known ≡ weight_of 1)

-- ---- the rows, each under 01's words

abbrev pub starred : List Row
starred =
    -- *1 fresh n = 1: 1
    fresh 1 (refused_run (fresh_run 0) NotSound)
    -- *2 fresh n = 9: 1
    ∷ fresh 9 (refused_run (fresh_run 0) NotSound)
    -- *3 begin yes, n = 8, site 1: 7 messages, 7 awaited; the lowest of them is 2 (02, Ask 4)
    ∷ step (λ s. s ≡ fresh_site 8 1) (Begin Yes) (λ s. answer_taken (in_state s W) start (others_of 8 1) 7 7 2)
    -- *4 begin at site 2: 5
    ∷ any (λ (v : Vote). step (λ s. s.number ≡ 2) (Begin v) (λ s. refusal s NotAllowed))
    -- *5 Start yes at q: w, one Yes
    ∷ step (λ s. (1 < s.number) × (s.leader ≡ 1) × (s.state ≡ Q)) (Start 1 Yes) (λ s. answer_taken (in_state s W) say_yes (weight_of 1) 1 0 0)
    -- *6 Move-p at q: 6
    ∷ any (λ (j : ℕ). step (λ s. (j < s.number) × (s.leader ≤ j) × (s.state ≡ Q)) (Deliver move_p j) (λ s. refusal s Conflict))
    -- *7 site 3 follows 2, Move-p from 1: passed over
    ∷ step (λ s. (s.number ≡ 3) × (s.leader ≡ 2)) (Deliver move_p 1) answer_passed
    -- *8 Move-w from 2 at p, site 3: w, Ack, follows 2
    ∷ step (λ s. (s.number ≡ 3) × (s.leader ≤ 2) × (s.state ≡ P)) (Deliver move_w 2) (λ s. answer_taken (following (in_state s W) 2) ack (weight_of 2) 1 0 0)
    -- *9 take over in q, site 2 of 3, 1 stopped: a, one Abort
    ∷ step (second_of 3 Q) TakeOver (λ s. answer_taken (leading (in_state s A)) abort (weight_of 3) 1 0 0)
    -- *10 take over in p, site 2 of 2, 1 stopped: p, 0 messages; conclude then gives c
    ∷ steps (second_of 2 P) TakeOver (λ s. quietly (leading (in_state s P))) Conclude (λ s. quietly (in_state s C))
    -- *11 record 00 07 02.. (9 bytes): 12
    ∷ any (λ f. read (0 ∷ 7 ∷ 2 ∷ body_of f) (Err WrongVersion))
    ∷ []
