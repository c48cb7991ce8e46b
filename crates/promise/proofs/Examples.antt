-- Two runs of every size: one in which all sites commit, with the messages of 01's worked example, and one that accepts as many events as any can.
-- Assumes nothing.
use Prim.Native.Nat.{ℕ, zero, suc, ◌+◌, ◌-◌, ◌*◌, ◌^◌, ◌≤◌}
use mathlib.Core.Bool.{Bool, true, false, ◌&&◌, false≢true}
use mathlib.Core.List.{List, [], ◌∷◌, ◌++◌}
use mathlib.Core.Path.{◌≡◌, refl, ap, ◌∙◌}
use native.Mathlib.Omega.{arith}
use lib.Count.{ones}
use lib.ListN.{length}
use lib.Dec.{eqb}
use borrow.Author.Tests.{eqb-true, le-leb}
use Rattle.sets.proofs.Truths.{and_l, and_r}
use Rattle.sets.specs.Sets.{bit, is_site, has, weight_of, union, both, minus, with_site, without, subset, all_of, others_of, below_of, count_of}
use Rattle.std.specs.Prelude.{Result, Ok, Err, is_ok}
use Rattle.refusal.specs.declared.Refusal.{Refusal}
use Rattle.refusal.specs.Refusals.{clear}
use Rattle.site.specs.declared.State.{State}
use Rattle.site.specs.declared.State.TheVariants.{Q, W, P, A, C}
use Rattle.site.specs.declared.Vote.TheVariants.{Yes}
use Rattle.site.specs.declared.Step.TheVariants.{Begin, Start, Deliver, Notice, TakeOver, Conclude}
use Rattle.site.specs.Site.{sound_of, ends_of, to_all, in_run, polls, collects, awaited_of}
use Rattle.site.specs.First.{begin_of, start_of, vote_of, tally_of}
use Rattle.site.specs.Leader.{obey_of, ack_of, take_over_of, settle_of}
use Rattle.site.specs.Step.{notice_of, conclude_of, deliver_of, done_of, answered, step_of}
use Rattle.run.specs.declared.Event.{Event}
use Rattle.run.specs.declared.Event.TheVariants.{Act, Stop}
use Rattle.run.specs.Run.{has_row, place, state_of, knows, outstanding, has_stopped, taken_out, sent_by, stopped_at, fresh_run}
use Rattle.run.specs.Sound.{every, sound_run}
use Rattle.run.proofs.SoundLaws.{every_at}
use Rattle.run.specs.Event.{fresh_of, is_actor, step_ground, stop_ground, applied, goes_of, event_of}
use Rattle.run.specs.After.{Tale, accepted_by, onward, told, opening, after}
use Rattle.run.proofs.GoodRuns.{IsGood, good_kept, fresh_good}
use Rattle.fields.specs.Ranges.{is_known, kind_from, may_name, names_site, takes_vote, is_vote, used_or0, step_ranges, in_ranges}
use Rattle.fields.specs.Fields.{fields_from, step_from, made_of, told_by, event_in_record, ground_made}
use Rattle.journal.proofs.JournalLaws.{AllTold}
use Rattle.promise.proofs.Count.{by_size}

-- ---- the runs

-- The events of f at m sites in turn, from site k on.
pub turns : (ℕ → List Event) → ℕ → ℕ → List Event
turns f k zero = []
turns f k (suc m) = f k ++ turns f (suc k) m

-- Of n sites all vote yes and are prepared, and site 1 commits.
pub preparing : ℕ → List Event
preparing n =
    Act 1 (Begin Yes) ∷ turns (λ j. Act j (Start 1 Yes) ∷ Act 1 (Deliver 2 j) ∷ []) 2 (n - 1)
    ++ Act 1 Conclude ∷ turns (λ j. Act j (Deliver 4 1) ∷ Act 1 (Deliver 6 j) ∷ []) 2 (n - 1)
    ++ Act 1 Conclude ∷ []

-- Then all others commit.
pub posting : ℕ → List Event
posting n = preparing n ++ turns (λ j. Act j (Deliver 7 1) ∷ []) 2 (n - 1)

-- Or site 1 stops, and each other in turn takes over in p, is told of the last one's commit too late, gathers acknowledgements, commits and stops.
pub leading : ℕ → ℕ → List Event
leading n k =
    turns (λ j. Act j (Notice (k - 1)) ∷ []) k (suc (n - k))
    ++ Act k TakeOver ∷ Act k (Deliver 7 (k - 1))
    ∷ turns (λ j. Act j (Deliver 4 k) ∷ Act j (Deliver 7 (k - 1)) ∷ Act k (Deliver 6 j) ∷ []) (suc k) (n - k)
    ++ Act k Conclude ∷ Stop k ∷ []

pub longest : ℕ → List Event
longest n = preparing n ++ Stop 1 ∷ turns (leading n) 2 (n - 1)

-- ---- what becomes of them, run by run

abbrev is_c : State → Bool
is_c Q = false
is_c W = false
is_c P = false
is_c A = false
is_c C = true

is_c_lem : (s : State) → is_c s ≡ true → s ≡ C
is_c_lem Q e = absurd (false≢true e)
is_c_lem W e = absurd (false≢true e)
is_c_lem P e = absurd (false≢true e)
is_c_lem A e = absurd (false≢true e)
is_c_lem C e = refl

-- A run from fresh is sound, so its events need not be tested for it: what is told without that test is the same, and quickly computed.
brisk : Tale → Event → Tale
brisk t e =
    record {
      run = (goes_of t.run e).run;
      accepted = t.accepted + accepted_by (goes_of t.run e).outcome;
      written = t.written + (goes_of t.run e).counts.written;
    }

briskly : Tale → List Event → Tale
briskly t [] = t
briskly t (e ∷ es) = briskly (brisk t e) es

brisk_is : (t : Tale) (e : Event) → sound_run t.run ≡ true → onward t e ≡ brisk t e
unfolding onward brisk event_of
brisk_is t e g = rw g refl

told_briskly : (t : Tale) (es : List Event) → IsGood t.run → told t es ≡ briskly t es
unfolding onward briskly
told_briskly t [] g = refl
told_briskly t (e ∷ es) g = told_briskly (onward t e) es (good_kept t.run e g) ∙ ap (λ (u : Tale). briskly u es) (brisk_is t e g.sound)

abbrev fresh_tale : ℕ → Tale
fresh_tale n = record { run = fresh_run n; accepted = 0; written = 0 }

briskly_after : (n : ℕ) (es : List Event) → 2 ≤ n → n ≤ 8 → after n es ≡ briskly (fresh_tale n) es
unfolding after opening fresh_of
briskly_after n es p q = rw (le-leb 2 n p, le-leb n 8 q) (told_briskly (fresh_tale n) es (fresh_good n p q))

-- all n sites are in commit, after w messages
posted : ℕ → ℕ → Tale → Bool
posted n w t = eqb t.written w && every n (λ (i : ℕ). is_c (state_of t.run (i + 1)))

quickly_posts : (n : ℕ) → 2 ≤ n → n ≤ 8 → posted n (5 * (n - 1)) (briskly (fresh_tale n) (posting n)) ≡ true
unfolding turns preparing posting posted brisk briskly bit is_site has weight_of union both minus with_site without subset all_of others_of below_of count_of ones sound_of ends_of to_all in_run polls collects awaited_of begin_of start_of vote_of tally_of obey_of ack_of take_over_of settle_of notice_of conclude_of deliver_of done_of answered step_of has_row place state_of knows outstanding has_stopped taken_out sent_by stopped_at is_actor step_ground stop_ground applied goes_of
quickly_posts = by_size (λ n. posted n (5 * (n - 1)) (briskly (fresh_tale n) (posting n)) ≡ true) refl refl refl refl refl refl refl

posting_posts : (n : ℕ) → 2 ≤ n → n ≤ 8 → posted n (5 * (n - 1)) (after n (posting n)) ≡ true
posting_posts n p q = rw (briskly_after n (posting n) p q) (quickly_posts n p q)

pub posting_commits : (n : ℕ) → 2 ≤ n → n ≤ 8 → (i : ℕ) → 1 ≤ i → i ≤ n → state_of (after n (posting n)).run i ≡ C
unfolding posted
posting_commits n p q i l h =
    is_c_lem _ (rw e at (every_at n (λ (i : ℕ). is_c (state_of (after n (posting n)).run (i + 1))) (and_r (eqb (after n (posting n)).written (5 * (n - 1))) _ (posting_posts n p q)) (i - 1) (omega arith)))
  where
    e : i - 1 + 1 ≡ i
    e = omega arith

pub posting_writes : (n : ℕ) → 2 ≤ n → n ≤ 8 → (after n (posting n)).written ≡ 5 * (n - 1)
unfolding posted
posting_writes n p q = eqb-true _ _ (and_l (eqb (after n (posting n)).written (5 * (n - 1))) _ (posting_posts n p q))

quickly_accepts : (n : ℕ) → 2 ≤ n → n ≤ 8 → (briskly (fresh_tale n) (longest n)).accepted ≡ 2 * n ^ 2 + 3 * n - 1
unfolding turns preparing leading longest brisk briskly bit is_site has weight_of union both minus with_site without subset all_of others_of below_of count_of ones sound_of ends_of to_all in_run polls collects awaited_of begin_of start_of vote_of tally_of obey_of ack_of take_over_of settle_of notice_of conclude_of deliver_of done_of answered step_of has_row place state_of knows outstanding has_stopped taken_out sent_by stopped_at is_actor step_ground stop_ground applied goes_of
quickly_accepts = by_size (λ n. (briskly (fresh_tale n) (longest n)).accepted ≡ 2 * n ^ 2 + 3 * n - 1) refl refl refl refl refl refl refl

pub longest_accepts : (n : ℕ) → 2 ≤ n → n ≤ 8 → (after n (longest n)).accepted ≡ 2 * n ^ 2 + 3 * n - 1
longest_accepts n p q = ap (λ (t : Tale). t.accepted) (briskly_after n (longest n) p q) ∙ quickly_accepts n p q

-- ---- as journals

told_clear : (m : Result Event Refusal) → is_ok m ≡ true → ground_made m ≡ clear
told_clear (Ok e) h = refl
told_clear (Err why) h = absurd (false≢true h)

-- no ground stands against their records
told_all : List Event → Bool
told_all [] = true
told_all (e ∷ es) = is_ok (event_in_record (fields_from e)) && told_all es

all_told : (es : List Event) → told_all es ≡ true → AllTold es
unfolding told_all
all_told [] h = tt
all_told (e ∷ es) h =
    (told_clear _ (and_l (is_ok (event_in_record (fields_from e))) (told_all es) h), all_told es (and_r (is_ok (event_in_record (fields_from e))) (told_all es) h))

pub posting_told : (n : ℕ) → 2 ≤ n → n ≤ 8 → AllTold (posting n)
unfolding turns preparing posting told_all is_known kind_from may_name names_site takes_vote is_vote used_or0 step_ranges in_ranges step_from made_of told_by event_in_record
posting_told n p q = all_told (posting n) (by_size (λ n. told_all (posting n) ≡ true) refl refl refl refl refl refl refl n p q)

pub longest_told : (n : ℕ) → 2 ≤ n → n ≤ 8 → AllTold (longest n)
unfolding turns preparing leading longest told_all is_known kind_from may_name names_site takes_vote is_vote used_or0 step_ranges in_ranges step_from made_of told_by event_in_record
longest_told n p q = all_told (longest n) (by_size (λ n. told_all (longest n) ≡ true) refl refl refl refl refl refl refl n p q)

-- all of them are accepted
quickly_all : (n : ℕ) → 2 ≤ n → n ≤ 8 → (briskly (fresh_tale n) (posting n)).accepted ≡ length (posting n)
unfolding turns preparing posting brisk briskly bit is_site has weight_of union both minus with_site without subset all_of others_of below_of count_of ones sound_of ends_of to_all in_run polls collects awaited_of begin_of start_of vote_of tally_of obey_of ack_of take_over_of settle_of notice_of conclude_of deliver_of done_of answered step_of has_row place state_of knows outstanding has_stopped taken_out sent_by stopped_at is_actor step_ground stop_ground applied goes_of
quickly_all = by_size (λ n. (briskly (fresh_tale n) (posting n)).accepted ≡ length (posting n)) refl refl refl refl refl refl refl

pub posting_accepts : (n : ℕ) → 2 ≤ n → n ≤ 8 → (after n (posting n)).accepted ≡ length (posting n)
posting_accepts n p q = ap (λ (t : Tale). t.accepted) (briskly_after n (posting n) p q) ∙ quickly_all n p q

pub longest_length : (n : ℕ) → 2 ≤ n → n ≤ 8 → length (longest n) ≡ 2 * n ^ 2 + 3 * n - 1
unfolding turns preparing leading longest
longest_length = by_size (λ n. length (longest n) ≡ 2 * n ^ 2 + 3 * n - 1) refl refl refl refl refl refl refl
