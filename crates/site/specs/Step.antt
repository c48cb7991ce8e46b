-- The site step (01, "Site and messages"): every step's rule, the grounds 1, 2, 5 and 6 in their order, and what is reported.
-- Assumes nothing.
use Rattle.std.specs.Prelude.{ℕ, cond, eqb, Err}
use Rattle.sets.specs.Sets.{has, with_site, count_of, lowest_of}
use Rattle.refusal.specs.declared.Refusal.{Refusal}
use Rattle.refusal.specs.declared.Refusal.TheVariants.{NotSound, WrongNames}
use Rattle.refusal.specs.Refusals.{refusal_number, Test, clear}
use Rattle.site.specs.declared.Vote.TheVariants.{Yes, No}
use Rattle.site.specs.declared.Site.{Site}
use Rattle.site.specs.declared.Step.{Step}
use Rattle.site.specs.declared.Step.TheVariants.{Begin, Start, Deliver, Notice, TakeOver, Conclude}
use Rattle.site.specs.declared.Outcome.{Outcome}
use Rattle.site.specs.declared.Outcome.TheVariants.{Taken, Passed, Refused}
use Rattle.site.specs.declared.Done.{Done}
use Rattle.site.specs.declared.Counts.{Counts}
use Rattle.site.specs.declared.Answer.{Answer}
use Rattle.site.specs.Site.{knowing, sound_of, say_yes, say_no, ack, names_of, polls, awaited_of, refused, passed, taken}
use Rattle.site.specs.First.{begin_of, start_of, vote_of, tally_of}
use Rattle.site.specs.Leader.{obey_of, ack_of, take_over_of, settle_of}

-- "Notice that a site stopped: recorded; passed over if known"
unfoldable pub notice_of : Site → ℕ → Done
notice_of s o = cond (has s.known o) (passed s) (taken (knowing s (with_site s.known o)) 0 0)

-- "Conclude, for a leader": site 1 in w by the votes (site 1 of a sound record leads: its leader is from 1 to its own number),
-- any other by the acknowledgements
unfoldable pub conclude_of : Site → Done
conclude_of s = cond (polls s) (tally_of s) (settle_of s)

-- a delivered message of kind k that is no Start
unfoldable pub deliver_of : Site → ℕ → ℕ → Done
deliver_of s k from =
    cond (eqb k say_yes) (vote_of s from Yes)
    (cond (eqb k say_no) (vote_of s from No)
    (cond (eqb k ack) (ack_of s from) (obey_of s k from)))

-- each step's own rule
abbrev pub rule_of : Site → Step → Done
rule_of s (Begin v) = begin_of s v
rule_of s (Start from v) = start_of s from v
rule_of s (Deliver k from) = deliver_of s k from
rule_of s (Notice o) = notice_of s o
rule_of s TakeOver = take_over_of s
rule_of s Conclude = conclude_of s

-- the grounds in their order: 1 a record that is not sound, 2 wrong names; then the rule, with 5 or 6
unfoldable pub done_of : Site → Step → Done
done_of s t = cond (sound_of s) (cond (names_of s t) (rule_of s t) (refused s WrongNames)) (refused s NotSound)

-- so many messages are written and nobody is awaited. The lowest is then 0: "0 when none is awaited" (02, Ask 4)
abbrev pub none_awaited : ℕ → Counts
none_awaited m = record { written = m; awaited = 0; lowest = 0 }

-- "zero counts": no message written either
abbrev pub none : Counts
none = none_awaited 0

-- "A step reports the number of messages written, counted in the set of receivers, and the number of sites still awaited":
-- these are the ones that the record awaits after the step. The answer carries "the lowest awaited site besides the number, 0 when none is
-- awaited" (02, Ask 4): number and lowest are taken of the same set
abbrev pub counted : Site → ℕ → Counts
counted s to = record { written = count_of to; awaited = count_of (awaited_of s); lowest = lowest_of (awaited_of s) }

-- "When an answer is an enum, a definition gives this paper's number and values for each of its cases": an outcome's number is its ground,
-- 0 where there is none, and its values are what is reported. Taken and passed are told apart by a byte of their own (`outcome_byte` in embed)
abbrev pub number_of : Outcome → ℕ
number_of Taken = 0
number_of Passed = 0
number_of (Refused g) = refusal_number g

-- the ground on which a step is refused, if it is
abbrev pub ground_of : Outcome → Test
ground_of Taken = clear
ground_of Passed = clear
ground_of (Refused g) = Err g

-- what is reported at each outcome; a refusal reports zeros
abbrev pub counts_of : Outcome → Site → ℕ → Counts
counts_of Taken s to = counted s to
counts_of Passed s to = counted s to
counts_of (Refused g) s to = none

-- the kind is 0 where nobody is written to
abbrev pub kind_of : ℕ → ℕ → ℕ
kind_of k to = cond (eqb to 0) 0 k

-- what a step hands back: how it ends, and what it reports
unfoldable pub answered : Done → Answer
answered d =
    record {
      site = d.site;
      outcome = d.outcome;
      kind = kind_of d.kind d.to;
      to = d.to;
      counts = counts_of d.outcome d.site d.to;
    }

-- the answer to every step of every record: "A single site step can give 1, 2, 5, 6"
unfoldable pub step_of : Site → Step → Answer
step_of s t = answered (done_of s t)

-- "Refused: run and site come back unchanged, no message, zero counts"
abbrev pub refusal : Site → Refusal → Answer
refusal s g = record { site = s; outcome = Refused g; kind = 0; to = 0; counts = none }
