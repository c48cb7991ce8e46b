-- Demand 3, for every number n of sites from 2 to 8 and every list of events from fresh, stops in the middle of a send included.
-- `after n es` and `reached n es` are by the definition that the contract of `run` cites; refused events change nothing and do not count.
-- That all of it holds is the theorem `promised` (proofs/Promised.antt).
-- Assumes nothing.
use Rattle.std.specs.Prelude.{ℕ, ◌+◌, ◌-◌, ◌*◌, ◌/◌, ◌^◌, ◌≤◌, true, false, List, ◌++◌, ◌≡◌, ◌≢◌, ◌⊎◌, Some}
use Rattle.refusal.specs.declared.Refusal.TheVariants.{Conflict}
use Rattle.site.specs.declared.State.TheVariants.{A, C}
use Rattle.site.specs.declared.Outcome.TheVariants.{Refused}
use Rattle.run.specs.declared.Run.{Run}
use Rattle.run.specs.declared.Event.{Event}
use Rattle.run.specs.Run.{state_of, has_stopped}
use Rattle.run.specs.Event.{fresh_of, event_of}
use Rattle.run.specs.After.{after}
use Rattle.day.specs.Day.{day_of}
use Rattle.promise.specs.Words.{IsSite, IsStop, reached, Accepts, Voted, ByCalls}

pub record Promise (n : ℕ) : Type 0 where
  -- No site, stopped or not, is in commit while another is in abort.
  pub agreement : (es : List Event) (i j : ℕ) → IsSite n i → IsSite n j → state_of (reached n es) i ≡ C → state_of (reached n es) j ≡ A → ⊥
  -- Neither state is left, whatever events follow, and a stopped site stays stopped.
  pub commit_stays : (es fs : List Event) (i : ℕ) → state_of (reached n es) i ≡ C → state_of (reached n (es ++ fs)) i ≡ C
  pub abort_stays : (es fs : List Event) (i : ℕ) → state_of (reached n es) i ≡ A → state_of (reached n (es ++ fs)) i ≡ A
  pub stopped_stays : (es fs : List Event) (i : ℕ) → has_stopped (reached n es) i ≡ true → has_stopped (reached n (es ++ fs)) i ≡ true
  -- None commits unless all n voted yes.
  pub all_voted : (es : List Event) (i : ℕ) → IsSite n i → state_of (reached n es) i ≡ C → (j : ℕ) → IsSite n j → Voted (fresh_of n).run es j
  -- When only stops could still be accepted, every site not stopped has decided.
  pub only_stops_left : (es : List Event) → ((e : Event) → Accepts (reached n es) e → IsStop e)
      → (i : ℕ) → IsSite n i → has_stopped (reached n es) i ≡ false → (state_of (reached n es) i ≡ C) ⊎ (state_of (reached n es) i ≡ A)
  -- At most so many events are accepted.
  pub event_bound : (es : List Event) → (after n es).accepted ≤ 5 * (n - 1) + 3 * (n - 1) * (n - 2) / 2 + (n + 1) ^ 2
  -- No event conflicts: ground 6 is never given.
  pub never_conflict : (es : List Event) (e : Event) → (event_of (reached n es) e).outcome ≢ Refused Conflict
  -- These promises are not about runs that never commit: after some events, which write 5(n-1) messages, every site is in commit.
  pub posts : (es : List Event) × ((i : ℕ) → IsSite n i → state_of (reached n es) i ≡ C) × ((after n es).written ≡ 5 * (n - 1))
  -- The exact bound, below the one above: no list of events has more accepted, and one has as many.
  pub exact_bound : ((es : List Event) → (after n es).accepted ≤ 2 * n ^ 2 + 3 * n - 1) × ((es : List Event) × ((after n es).accepted ≡ 2 * n ^ 2 + 3 * n - 1))

-- The same for the day's journal: of every run that calls have reached, whichever of them were single events and whichever handed over a journal, with
-- the events of all of them counted together. That it holds is the theorem `days_promised` (proofs/Days.antt).
pub record DayPromise (n : ℕ) : Type 0 where
  pub agreement : {r : Run} {k : ℕ} → ByCalls n r k → (i j : ℕ) → IsSite n i → IsSite n j → state_of r i ≡ C → state_of r j ≡ A → ⊥
  -- Whatever journal is handed over next; of a single event `Promise` says it.
  pub commit_stays : {r : Run} {k : ℕ} → ByCalls n r k → (l : List ℕ) (i : ℕ) → state_of r i ≡ C → state_of (day_of r l).run i ≡ C
  pub abort_stays : {r : Run} {k : ℕ} → ByCalls n r k → (l : List ℕ) (i : ℕ) → state_of r i ≡ A → state_of (day_of r l).run i ≡ A
  pub stopped_stays : {r : Run} {k : ℕ} → ByCalls n r k → (l : List ℕ) (i : ℕ) → has_stopped r i ≡ true → has_stopped (day_of r l).run i ≡ true
  -- Some list of events that reaches the same run has all the votes.
  pub all_voted : {r : Run} {k : ℕ} → ByCalls n r k → (i : ℕ) → IsSite n i → state_of r i ≡ C
      → (es : List Event) × (r ≡ reached n es) × ((j : ℕ) → IsSite n j → Voted (fresh_of n).run es j)
  pub only_stops_left : {r : Run} {k : ℕ} → ByCalls n r k → ((e : Event) → Accepts r e → IsStop e)
      → (i : ℕ) → IsSite n i → has_stopped r i ≡ false → (state_of r i ≡ C) ⊎ (state_of r i ≡ A)
  pub event_bound : {r : Run} {k : ℕ} → ByCalls n r k → k ≤ 5 * (n - 1) + 3 * (n - 1) * (n - 2) / 2 + (n + 1) ^ 2
  -- No journal ends with ground 6.
  pub never_conflict : {r : Run} {k : ℕ} → ByCalls n r k → (l : List ℕ) → (day_of r l).day.refusal ≢ Some Conflict
  -- After some journal that is handed over from fresh, every site is in commit, with 5(n-1) messages written.
  pub posts : (l : List ℕ) × ((i : ℕ) → IsSite n i → state_of (day_of (fresh_of n).run l).run i ≡ C) × ((day_of (fresh_of n).run l).day.written ≡ 5 * (n - 1))
  pub exact_bound : ((r : Run) (k : ℕ) → ByCalls n r k → k ≤ 2 * n ^ 2 + 3 * n - 1) × ((l : List ℕ) × ((day_of (fresh_of n).run l).day.accepted ≡ 2 * n ^ 2 + 3 * n - 1))
