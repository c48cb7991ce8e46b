-- The words of demand 3 that `run` does not have already.
-- Assumes nothing.
use Rattle.std.specs.Prelude.{ℕ, ◌+◌, ◌≤◌, List, ◌∷◌, true, ◌≡◌}
use Rattle.sets.specs.Sets.{has}
use Rattle.site.specs.declared.Vote.TheVariants.{Yes}
use Rattle.site.specs.declared.Outcome.TheVariants.{Taken}
use Rattle.site.specs.declared.Step.TheVariants.{Begin, Start}
use Rattle.run.specs.declared.Run.{Run}
use Rattle.run.specs.declared.Event.{Event}
use Rattle.run.specs.declared.Event.TheVariants.{Act, Stop, Cut}
use Rattle.run.specs.Event.{fresh_of, event_of, next_of}
use Rattle.run.specs.After.{accepted_by, after}
use Rattle.day.specs.Day.{day_of}

-- i is one of n sites.
abbrev pub IsSite : ℕ → ℕ → Type 0
IsSite n i = (1 ≤ i) × (i ≤ n)

-- The run that n sites have reached after the events es from fresh.
abbrev pub reached : ℕ → List Event → Run
reached n es = (after n es).run

-- The event e would be accepted in the run r.
abbrev pub Accepts : Run → Event → Type 0
Accepts r e = accepted_by (event_of r e).outcome ≡ 1

-- An event that is a stop, plain or during a step.
abbrev pub IsStop : Event → Type 0
IsStop (Act s t) = ⊥
IsStop (Stop s) = Unit
IsStop (Cut s t x) = Unit

-- Site j votes yes somewhere in a list of events of a run: at a taken Begin yes; at a Start taken with yes, by which Yes leaves;
-- or at a stop inside such a delivery, if X names site 1, so that Yes still leaves.
pub data Voted : Run → List Event → ℕ → Type 0 where
  begins : {r : Run} {s : ℕ} {es : List Event} → (event_of r (Act s (Begin Yes))).outcome ≡ Taken → Voted r (Act s (Begin Yes) ∷ es) s
  answers : {r : Run} {s k : ℕ} {es : List Event} → (event_of r (Act s (Start k Yes))).outcome ≡ Taken → Voted r (Act s (Start k Yes) ∷ es) s
  leaves : {r : Run} {s k x : ℕ} {es : List Event} → (event_of r (Act s (Start k Yes))).outcome ≡ Taken → has x 1 ≡ true → Voted r (Cut s (Start k Yes) x ∷ es) s
  later : {r : Run} {e : Event} {es : List Event} {j : ℕ} → Voted (event_of r e).run es j → Voted r (e ∷ es) j

-- A run that calls have reached from fresh, single events and whole journals (02, Ask 1), with so many events accepted in all of them together.
pub data ByCalls (n : ℕ) : Run → ℕ → Type 0 where
  fresh : ByCalls n (fresh_of n).run 0
  event : {r : Run} {k : ℕ} → ByCalls n r k → (e : Event) → ByCalls n (next_of r e).run (k + accepted_by (next_of r e).outcome)
  journal : {r : Run} {k : ℕ} → ByCalls n r k → (l : List ℕ) → ByCalls n (day_of r l).run (k + (day_of r l).day.accepted)
