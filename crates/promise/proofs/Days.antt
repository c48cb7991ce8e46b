-- What calls reach, events reach: so what is promised of every list of events holds of every list of calls.
-- Assumes nothing.
use Prim.Native.Nat.{ℕ, ◌+◌, ◌-◌, ◌*◌, ◌/◌, ◌^◌, ◌≤◌}
use mathlib.Core.Bool.{true, false}
use mathlib.Core.List.{List, [], ◌∷◌, ◌++◌}
use mathlib.Core.Path.{◌≡◌, refl, sym, ap, subst, ◌∙◌}
use mathlib.Core.Logic.{◌≢◌, ◌⊎◌}
use native.Mathlib.Omega.{arith}
use native.Mathlib.Nat.{add-zero, zero-add}
use lib.ListN.{length}
use Rattle.std.specs.Prelude.{Option, Some}
use Rattle.refusal.specs.declared.Refusal.{Refusal}
use Rattle.refusal.specs.declared.Refusal.TheVariants.{Conflict}
use Rattle.refusal.specs.Refusals.{refusal_number}
use Rattle.site.specs.declared.State.TheVariants.{A, C}
use Rattle.site.specs.declared.Outcome.TheVariants.{Refused}
use Rattle.run.specs.declared.Run.{Run}
use Rattle.run.specs.declared.Event.{Event}
use Rattle.run.specs.Run.{state_of, has_stopped}
use Rattle.run.specs.Event.{fresh_of, event_of}
use Rattle.run.specs.After.{Tale, accepted_by, onward, told, opening, after}
use Rattle.run.proofs.GoodRuns.{accepted_one}
use Rattle.day.specs.Day.{day_of}
use Rattle.journal.proofs.JournalLaws.{journal_of, AllTold}
use Rattle.day.specs.OneByOne.{AllAccepted, run_after, written_by, Ends}
use Rattle.day.specs.OneByOne.AllAccepted.{none, next}
use Rattle.day.specs.OneByOne.Ends.{over, unread, refused}
use Rattle.day.proofs.AsCalls.{as_calls}
use Rattle.day.proofs.DayLaws.{bad_ground}
use Rattle.day.proofs.Handed.{handed_run, handed_accepted, handed_written}
use Rattle.promise.specs.Words.{IsSite, IsStop, reached, Accepts, Voted, ByCalls}
use Rattle.promise.specs.Words.ByCalls.{fresh, event, journal}
use Rattle.promise.specs.Promise.{Promise, DayPromise}
use Rattle.promise.proofs.RunAfter.{after_on}
use Rattle.promise.proofs.Promised.{promised}
use Rattle.promise.proofs.Examples.{posting, longest, posting_commits, posting_writes, posting_told, posting_accepts, longest_told, longest_length, longest_accepts}

-- ---- events one by one, as a tale tells them

told_run : (t : Tale) (es : List Event) → (told t es).run ≡ run_after t.run es
unfolding onward
told_run t [] = refl
told_run t (e ∷ es) = told_run (onward t e) es

told_accepted : (t : Tale) (es : List Event) → AllAccepted t.run es → (told t es).accepted ≡ t.accepted + length es
unfolding onward
told_accepted t [] none = sym (add-zero t.accepted)
told_accepted t (e ∷ es) (next a h) = told_accepted (onward t e) es h ∙ omega (arith, a)

module _ (n : ℕ) where
  -- a run of calls is one of events, with as many accepted
  pub record Told (r : Run) (k : ℕ) : Type 0 where
    pub events : List Event
    pub run : r ≡ reached n events
    pub count : k ≡ (after n events).accepted

  -- further events, from a run that events have reached
  further : {r : Run} {k : ℕ} (t : Told r k) (fs : List Event) (w : Run) (m : ℕ) → w ≡ (told (after n t.events) fs).run → m ≡ (told (after n t.events) fs).accepted → Told w m
  further t fs w m e f =
      record {
        events = t.events ++ fs;
        run = e ∙ ap (λ (u : Tale). u.run) (sym (after_on n t.events fs));
        count = f ∙ ap (λ (u : Tale). u.accepted) (sym (after_on n t.events fs));
      }

  one : {r : Run} {k : ℕ} → Told r k → (e : Event) → Told (event_of r e).run (k + accepted_by (event_of r e).outcome)
  unfolding onward
  one {r} {k} t e =
      further t (e ∷ []) _ _ (ap (λ (w : Run). (event_of w e).run) t.run)
      (λ i. t.count i + accepted_by (event_of (t.run i) e).outcome)

  -- the run after a journal, from a run that events have reached
  pub day_run : {r : Run} {k : ℕ} (t : Told r k) (l : List ℕ) → (day_of r l).run ≡ (told (after n t.events) (as_calls r l).events).run
  day_run {r} t l =
      let d = as_calls r l in
      d.run ∙ ap (λ (w : Run). run_after w d.events) t.run ∙ sym (told_run (after n t.events) d.events)

  whole : {r : Run} {k : ℕ} → Told r k → (l : List ℕ) → Told (day_of r l).run (k + (day_of r l).day.accepted)
  whole {r} {k} t l =
      let d = as_calls r l in
      further t d.events _ _ (day_run t l)
      ((λ i. t.count i + d.accepted i) ∙ sym (told_accepted (after n t.events) d.events (subst (λ (w : Run). AllAccepted w d.events) t.run d.all)))

  pub as_events : {r : Run} {k : ℕ} → ByCalls n r k → Told r k
  unfolding after opening
  as_events fresh = record { events = []; run = refl; count = refl }
  as_events (event b e) = one (as_events b) e
  as_events (journal b l) = whole (as_events b) l

-- ---- the ten claims

-- a list of which as many are accepted as it has is accepted throughout
accepted_most : (t : Tale) (es : List Event) → (told t es).accepted ≤ t.accepted + length es
unfolding onward
accepted_most t [] = omega arith
accepted_most t (e ∷ es) = omega (arith, accepted_most (onward t e) es, accepted_one (event_of t.run e).outcome)

all_accepted : (t : Tale) (es : List Event) → (told t es).accepted ≡ t.accepted + length es → AllAccepted t.run es
unfolding onward
all_accepted t [] h = none
all_accepted t (e ∷ es) h =
    let a : accepted_by (event_of t.run e).outcome ≡ 1 = omega (arith, accepted_most (onward t e) es, accepted_one (event_of t.run e).outcome) in
    next a (all_accepted (onward t e) es (omega (arith, a)))

told_written : (t : Tale) (es : List Event) → (told t es).written ≡ t.written + written_by t.run es
unfolding onward
told_written t [] = omega arith
told_written t (e ∷ es) = told_written (onward t e) es ∙ omega arith

-- a journal of events that are all accepted, handed over from fresh, comes to what they do
module _ (n : ℕ) (es : List Event) (t : AllTold es) (c : (after n es).accepted ≡ length es) where
  all_from_fresh : AllAccepted (fresh_of n).run es
  unfolding after opening
  all_from_fresh = all_accepted (opening n) es (c ∙ sym (zero-add (length es)))

  fresh_run_lem : (day_of (fresh_of n).run (journal_of es)).run ≡ reached n es
  unfolding after opening
  fresh_run_lem = handed_run (fresh_of n).run es t all_from_fresh ∙ sym (told_run (opening n) es)

  fresh_written : (day_of (fresh_of n).run (journal_of es)).day.written ≡ (after n es).written
  unfolding after opening
  fresh_written = handed_written (fresh_of n).run es t all_from_fresh ∙ sym (told_written (opening n) es ∙ zero-add (written_by (fresh_of n).run es))

  fresh_accepted : (day_of (fresh_of n).run (journal_of es)).day.accepted ≡ length es
  fresh_accepted = handed_accepted (fresh_of n).run es t all_from_fresh

-- a journal ends with 6 only where an event is refused with it
no_conflict : {r : Run} {l : List ℕ} {g : Option Refusal} → Ends r l g → ((e : Event) → (event_of r e).outcome ≢ Refused Conflict) → g ≢ Some Conflict
no_conflict (over z e) n q = cc
no_conflict {l = l} (unread why e i p) n q =
    let w : why ≡ Conflict = cc in
    let h : 10 ≤ refusal_number Conflict = rw w at (bad_ground l why p) in
    omega arith
no_conflict (refused why e c p o) n q =
    let w : why ≡ Conflict = cc in
    n c.event (o ∙ ap Refused w)

module _ (n : ℕ) (least : 2 ≤ n) (most : n ≤ 8) where
  abbrev of_events : Promise n
  of_events = promised n least most

  module _ {r : Run} {k : ℕ} (b : ByCalls n r k) where
    tale : Told n r k
    tale = as_events n b

    abbrev events : List Event
    events = tale.events

    -- a site's state, and whether it stopped, as the events have it
    state_as : (i : ℕ) → state_of r i ≡ state_of (reached n events) i
    state_as i = ap (λ (w : Run). state_of w i) tale.run

    stopped_as : (i : ℕ) → has_stopped r i ≡ has_stopped (reached n events) i
    stopped_as i = ap (λ (w : Run). has_stopped w i) tale.run

    agreement_of : (i j : ℕ) → IsSite n i → IsSite n j → state_of r i ≡ C → state_of r j ≡ A → ⊥
    agreement_of i j p q c a = of_events.agreement events i j p q (sym (state_as i) ∙ c) (sym (state_as j) ∙ a)

    -- the run after a journal
    later : (l : List ℕ) → (day_of r l).run ≡ reached n (events ++ (as_calls r l).events)
    later l = day_run n tale l ∙ ap (λ (u : Tale). u.run) (sym (after_on n events (as_calls r l).events))

    commit_of : (l : List ℕ) (i : ℕ) → state_of r i ≡ C → state_of (day_of r l).run i ≡ C
    commit_of l i c = ap (λ (w : Run). state_of w i) (later l) ∙ of_events.commit_stays events (as_calls r l).events i (sym (state_as i) ∙ c)

    abort_of : (l : List ℕ) (i : ℕ) → state_of r i ≡ A → state_of (day_of r l).run i ≡ A
    abort_of l i a = ap (λ (w : Run). state_of w i) (later l) ∙ of_events.abort_stays events (as_calls r l).events i (sym (state_as i) ∙ a)

    stopped_of : (l : List ℕ) (i : ℕ) → has_stopped r i ≡ true → has_stopped (day_of r l).run i ≡ true
    stopped_of l i h = ap (λ (w : Run). has_stopped w i) (later l) ∙ of_events.stopped_stays events (as_calls r l).events i (sym (stopped_as i) ∙ h)

    voted_of : (i : ℕ) → IsSite n i → state_of r i ≡ C → (es : List Event) × (r ≡ reached n es) × ((j : ℕ) → IsSite n j → Voted (fresh_of n).run es j)
    voted_of i p c = (events, tale.run, of_events.all_voted events i p (sym (state_as i) ∙ c))

    stops_of : ((e : Event) → Accepts r e → IsStop e) → (i : ℕ) → IsSite n i → has_stopped r i ≡ false → (state_of r i ≡ C) ⊎ (state_of r i ≡ A)
    stops_of only i p h =
        subst (λ (w : Run). (state_of w i ≡ C) ⊎ (state_of w i ≡ A)) (sym tale.run)
        (of_events.only_stops_left events (subst (λ (w : Run). (e : Event) → Accepts w e → IsStop e) tale.run only) i p (sym (stopped_as i) ∙ h))

    bound_of : k ≤ 5 * (n - 1) + 3 * (n - 1) * (n - 2) / 2 + (n + 1) ^ 2
    bound_of = subst (λ (m : ℕ). m ≤ 5 * (n - 1) + 3 * (n - 1) * (n - 2) / 2 + (n + 1) ^ 2) (sym tale.count) (of_events.event_bound events)

    conflict_of : (l : List ℕ) → (day_of r l).day.refusal ≢ Some Conflict
    conflict_of l = no_conflict (as_calls r l).ends (subst (λ (w : Run). (e : Event) → (event_of w e).outcome ≢ Refused Conflict) (sym (later l)) (of_events.never_conflict (events ++ (as_calls r l).events)))

    exact_of : k ≤ 2 * n ^ 2 + 3 * n - 1
    exact_of = subst (λ (m : ℕ). m ≤ 2 * n ^ 2 + 3 * n - 1) (sym tale.count) (of_events.exact_bound.0 events)

  pub days_promised : DayPromise n
  days_promised =
      let told = posting_told n least most in
      let all = posting_accepts n least most in
      let long = longest_length n least most in
      record {
        agreement = agreement_of;
        commit_stays = commit_of;
        abort_stays = abort_of;
        stopped_stays = stopped_of;
        all_voted = voted_of;
        only_stops_left = stops_of;
        event_bound = bound_of;
        never_conflict = conflict_of;
        posts = (
          journal_of (posting n),
          λ i p. ap (λ (w : Run). state_of w i) (fresh_run_lem n (posting n) told all) ∙ posting_commits n least most i p.0 p.1,
          fresh_written n (posting n) told all ∙ posting_writes n least most,
        );
        exact_bound = (
          λ r k b. exact_of b,
          (journal_of (longest n), fresh_accepted n (longest n) (longest_told n least most) (longest_accepts n least most ∙ sym long) ∙ long),
        );
      }
