-- A leader's rules (01, "Site and messages"): Move-p, Move-w, Commit and Abort at a follower, Ack, Take over, and Conclude of a
-- leader that gathers acknowledgements. Only `collects` (Site) asks for site 1: in w that site gathers votes.
-- Assumes nothing.
use Rattle.std.specs.Prelude.{ℕ, cond, ◌&&◌, ◌||◌, eqb, ltb}
use Rattle.sets.specs.Sets.{below_of, with_site, weight_of, subset}
use Rattle.refusal.specs.declared.Refusal.TheVariants.{NotAllowed, Conflict as in_conflict}
use Rattle.site.specs.declared.State.{State}
use Rattle.site.specs.declared.State.TheVariants.{Q, W, P, A, C}
use Rattle.site.specs.declared.Order.{Order}
use Rattle.site.specs.declared.Order.TheVariants.{To, Over, Conflict}
use Rattle.site.specs.declared.Site.{Site}
use Rattle.site.specs.declared.Done.{Done}
use Rattle.site.specs.Site.{is_p, in_state, following, with_acked, move_p, move_w, ack, commit, abort, to_all, collects, awaited_of, refused, passed, taken}

-- ---- orders, state by state

-- "Move-p: w goes to p; p and c stay; Ack to the sender. In q or a a conflict"
abbrev pub move_p_at : State → Order
move_p_at Q = Conflict
move_p_at W = To P
move_p_at P = To P
move_p_at A = Conflict
move_p_at C = To C

-- "Move-w: q and p go to w (q without a vote); w and a stay; Ack. In c a conflict"
abbrev pub move_w_at : State → Order
move_w_at Q = To W
move_w_at W = To W
move_w_at P = To W
move_w_at A = To A
move_w_at C = Conflict

-- "Commit: p goes to c, c passes it over"; elsewhere a conflict
abbrev pub commit_at : State → Order
commit_at Q = Conflict
commit_at W = Conflict
commit_at P = To C
commit_at A = Conflict
commit_at C = Over

-- "Abort: q and w go to a, a passes it over"; elsewhere a conflict
abbrev pub abort_at : State → Order
abort_at Q = To A
abort_at W = To A
abort_at P = Conflict
abort_at A = Over
abort_at C = Conflict

abbrev pub order_at : ℕ → State → Order
order_at k q = cond (eqb k move_p) (move_p_at q) (cond (eqb k move_w) (move_w_at q) (cond (eqb k commit) (commit_at q) (abort_at q)))

-- ---- an order obeyed

-- a Move is answered by an Ack to the sender
abbrev pub replied : Site → ℕ → ℕ → Done
replied s k from = cond (eqb k move_p || eqb k move_w) (taken s ack (weight_of from)) (taken s 0 0)

-- the sender becomes the leader followed, also where the order is passed over in its state; a conflict is ground 6
abbrev pub obeyed : Order → Site → ℕ → ℕ → Done
obeyed (To q) s k from = replied (following (in_state s q) from) k from
obeyed Over s k from = passed (following s from)
obeyed Conflict s k from = refused s in_conflict

-- "from a sender below the leader followed: passed over, no change"
unfoldable pub obey_of : Site → ℕ → ℕ → Done
obey_of s k from = cond (ltb from s.leader) (passed s) (obeyed (order_at k s.state) s k from)

-- "Ack: recorded by a leader in p, or in w if it isn't site 1"; otherwise passed over
unfoldable pub ack_of : Site → ℕ → Done
ack_of s from = cond (collects s) (taken (with_acked s (with_site s.acked from)) 0 0) (passed s)

-- ---- Take over and Conclude

-- "it leads, acknowledgements cleared. In q it goes to a. Then to all: Abort in a, Commit in c, Move-w in w, Move-p in p"
abbrev pub over_in : State → Site → Done
over_in Q s = taken (with_acked (following (in_state s A) s.number) 0) abort (to_all s)
over_in W s = taken (with_acked (following s s.number) 0) move_w (to_all s)
over_in P s = taken (with_acked (following s s.number) 0) move_p (to_all s)
over_in A s = taken (with_acked (following s s.number) 0) abort (to_all s)
over_in C s = taken (with_acked (following s s.number) 0) commit (to_all s)

-- "Take over, when following a lower site and all lower ones are known stopped"; else ground 5
unfoldable pub take_over_of : Site → Done
take_over_of s = cond (ltb s.leader s.number && subset (below_of s.number) s.known) (over_in s.state s) (refused s NotAllowed)

-- a leader that gathers acknowledgements: "when every other site has acknowledged or is known stopped,
-- w writes Abort and goes to a, p writes Commit and goes to c", both to all; else ground 5
unfoldable pub settle_of : Site → Done
settle_of s =
    cond (collects s && eqb (awaited_of s) 0)
    (cond (is_p s.state) (taken (in_state s C) commit (to_all s)) (taken (in_state s A) abort (to_all s)))
    (refused s NotAllowed)
