-- The starred rows hold: where a row's words are true of a sound record, the definitions compute to the row's answer.
-- Assumes nothing.
use Rattle.std.specs.Prelude.{ℕ, ◌≤◌, true, [], ◌≡◌, refl, length}
use Rattle.std.proofs.Math.Bool.{and-false}
use Rattle.std.proofs.Common.{arith, lit≤, lt-ltb, le-leb, le-ltb, ne_eqb}
use Rattle.std.specs.Int.Count.{ones, count_trailing_zeros}
use Rattle.sets.specs.Sets.{is_site, weight_of, union, minus, without, subset, all_of, others_of, below_of, count_of, lowest_of}
use Rattle.site.specs.declared.State.TheVariants.{P}
use Rattle.site.specs.declared.Vote.TheVariants.{Yes}
use Rattle.site.specs.declared.Site.{Site}
use Rattle.site.specs.declared.Step.TheVariants.{TakeOver}
use Rattle.site.specs.Site.{is_w, in_state, following, knowing, sound_of, ends_of, to_all, in_run, polls, collects, awaited_of}
use Rattle.site.specs.First.{begin_of, start_of}
use Rattle.site.specs.Leader.{obey_of, take_over_of, settle_of}
use Rattle.site.specs.Step.{conclude_of, deliver_of, done_of, answered, step_of}
use Rattle.site.proofs.SiteSteps.{sound_parts}
use Rattle.site.proofs.SiteLaws.{sound_kept}
use Rattle.run.specs.Run.{fresh_site}
use Rattle.run.specs.Event.{fresh_of}
use Rattle.journal.specs.Record.{length_of, fields_in, read_of}
use Rattle.rows.specs.Rows.{holds, occurs, all, starred}

-- a site up to its own number is one of 1 to n
among : (s : Site) (j : ℕ) → sound_of s ≡ true → 1 ≤ j → j ≤ s.number → in_run s j ≡ true
unfolding in_run
among s j g l h = rw (le-leb 1 j l, le-leb j s.n (omega (arith, sound_parts s g)))

infixr 4 ◌and◌
abbrev ◌and◌ : {A B : Type 0} → A → B → A × B
a and b = (a, b)

-- the statement: each row of the list holds
pub all_hold : all holds starred
unfolding fresh_of read_of length_of step_of done_of ends_of begin_of start_of deliver_of obey_of take_over_of conclude_of settle_of answered awaited_of polls collects to_all subset union others_of below_of without minus all_of weight_of is_site count_of ones lowest_of count_trailing_zeros
all_hold =
    refl
    and refl
    and (λ s g e. rw (g, e))
    and (λ v s g e. rw (g, e))
    and (λ s g e. rw (g, among s 1 g (lit≤ tt) (omega arith), lt-ltb 1 s.number e.0, e.1, e.2, ne_eqb s.number 1 (omega arith), ne_eqb 1 s.number (omega arith)))
    and (λ j s g e. rw (g, among s j g (omega (arith, sound_parts s g)) (omega arith), lt-ltb j s.number e.0, le-ltb j s.leader e.1, e.2))
    and (λ s g e. rw (g, among s 1 g (lit≤ tt) (omega arith), e.0, e.1, and-false (is_w s.state)))
    and (λ s g e. rw (g, among s 2 g (lit≤ tt) (omega arith), e.0, le-ltb 2 s.leader e.1, e.2))
    and (λ s g e. rw (g, e.0, e.1, e.2, e.3, e.4))
    and (λ s g e. (rw (g, e.0, e.1, e.2, e.3, e.4), rw (e.0, e.1, e.4, rw (g, e.0, e.1, e.2, e.3, e.4) at (sound_kept s TakeOver g))))
    and (λ f. refl)
    and tt

-- none is about nothing
pub all_occur : all occurs starred
unfolding sound_of subset union others_of without minus all_of weight_of is_site
all_occur =
    tt
    and tt
    and (fresh_site 8 1, refl, refl)
    and (Yes, (fresh_site 2 2, refl, refl))
    and (fresh_site 2 2, refl, (lit≤ tt, refl, refl))
    and (1, (fresh_site 2 2, refl, (lit≤ tt, lit≤ tt, refl)))
    and (following (fresh_site 3 3) 2, refl, (refl, refl))
    and (in_state (fresh_site 3 3) P, refl, (refl, lit≤ tt, refl))
    and (knowing (fresh_site 3 2) 1, refl, (refl, refl, refl, refl, refl))
    and (knowing (in_state (fresh_site 2 2) P) 1, refl, (refl, refl, refl, refl, refl))
    and (fields_in [], tt)
    and tt

-- and none of the eleven is missing
pub eleven : length starred ≡ 11
eleven = refl
