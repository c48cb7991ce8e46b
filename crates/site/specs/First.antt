-- The first phase (01, "Site and messages"): Begin, Start, Yes, No, and Conclude of site 1 in w.
-- Assumes nothing.
use Rattle.std.specs.Prelude.{ℕ, cond, not, ◌&&◌, ◌||◌, eqb, ltb}
use Rattle.sets.specs.Sets.{others_of, with_site, weight_of, subset}
use Rattle.refusal.specs.declared.Refusal.TheVariants.{NotAllowed}
use Rattle.site.specs.declared.State.TheVariants.{W, P, A}
use Rattle.site.specs.declared.Vote.{Vote}
use Rattle.site.specs.declared.Vote.TheVariants.{Yes, No}
use Rattle.site.specs.declared.Site.{Site}
use Rattle.site.specs.declared.Done.{Done}
use Rattle.site.specs.Site.{is_q, in_state, with_yes, with_no, start, say_yes, say_no, move_p, abort, to_all, polls, refused, passed, taken}

-- "Begin with a vote, site 1 in q": yes writes Start to all and goes to w, no writes Abort to all and goes to a; else ground 5
abbrev pub begun : Vote → Site → Done
begun Yes s = taken (in_state s W) start (to_all s)
begun No s = taken (in_state s A) abort (to_all s)

unfoldable pub begin_of : Site → Vote → Done
begin_of s v = cond (eqb s.number 1 && is_q s.state) (begun v s) (refused s NotAllowed)

-- "Start in q, with a vote": Yes to 1 and w, or No to 1 and a. In other states, and from below the leader followed, passed over
abbrev pub voted : Vote → Site → Done
voted Yes s = taken (in_state s W) say_yes (weight_of 1)
voted No s = taken (in_state s A) say_no (weight_of 1)

unfoldable pub start_of : Site → ℕ → Vote → Done
start_of s from v = cond (not (ltb from s.leader) && is_q s.state) (voted v s) (passed s)

-- "Yes or No: site 1 in w records it"; otherwise passed over
abbrev pub noted : Vote → Site → ℕ → Site
noted Yes s from = with_yes s (with_site s.yes from)
noted No s from = with_no s (with_site s.no from)

unfoldable pub vote_of : Site → ℕ → Vote → Done
vote_of s from v = cond (polls s) (taken (noted v s from) 0 0) (passed s)

-- Conclude at site 1 in w: "if a No is heard, or a known stopped site has no Yes heard, Abort to all and a;
-- else if all others said Yes, Move-p to all and p; else not yet", ground 5
unfoldable pub tally_of : Site → Done
tally_of s =
    cond (not (eqb s.no 0) || not (subset s.known s.yes)) (taken (in_state s A) abort (to_all s))
    (cond (subset (others_of s.n s.number) s.yes) (taken (in_state s P) move_p (to_all s))
    (refused s NotAllowed))
