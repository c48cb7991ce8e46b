-- A site's record and the messages (01, "Site and messages").
-- Assumes nothing.
use Rattle.std.specs.Prelude.{ℕ, Bool, true, false, cond, not, ◌&&◌, ◌||◌, eqb, ltb, leb}
use Rattle.sets.specs.Sets.{union, minus, subset, others_of}
use Rattle.refusal.specs.declared.Refusal.{Refusal}
use Rattle.site.specs.declared.State.{State}
use Rattle.site.specs.declared.State.TheVariants.{Q, W, P, A, C}
use Rattle.site.specs.declared.Site.{Site}
use Rattle.site.specs.declared.Step.{Step}
use Rattle.site.specs.declared.Step.TheVariants.{Begin, Start, Deliver, Notice, TakeOver, Conclude}
use Rattle.site.specs.declared.Outcome.TheVariants.{Taken, Passed, Refused}
use Rattle.site.specs.declared.Done.{Done}

-- ---- "States"

abbrev pub is_q : State → Bool
is_q Q = true
is_q W = false
is_q P = false
is_q A = false
is_q C = false

abbrev pub is_w : State → Bool
is_w Q = false
is_w W = true
is_w P = false
is_w A = false
is_w C = false

abbrev pub is_p : State → Bool
is_p Q = false
is_p W = false
is_p P = true
is_p A = false
is_p C = false

-- ---- "A site record has"

-- n, its own number, state, the leader it follows, and four sets: known stopped, yes heard, no heard, acknowledged. Only here is a record made
abbrev pub record_with : ℕ → ℕ → State → ℕ → ℕ → ℕ → ℕ → ℕ → Site
record_with m number q leader known yeses noes acked =
    record {
      n = m;
      number = number;
      state = q;
      leader = leader;
      known = known;
      yes = yeses;
      no = noes;
      acked = acked;
    }

-- the record with these in place of its state, its leader and its four sets
abbrev changed : Site → State → ℕ → ℕ → ℕ → ℕ → ℕ → Site
changed s = record_with s.n s.number

-- the record with another state, another leader, another one of its four sets
abbrev pub in_state : Site → State → Site
in_state s q = changed s q s.leader s.known s.yes s.no s.acked

abbrev pub following : Site → ℕ → Site
following s k = changed s s.state k s.known s.yes s.no s.acked

abbrev pub knowing : Site → ℕ → Site
knowing s m = changed s s.state s.leader m s.yes s.no s.acked

abbrev pub with_yes : Site → ℕ → Site
with_yes s m = changed s s.state s.leader s.known m s.no s.acked

abbrev pub with_no : Site → ℕ → Site
with_no s m = changed s s.state s.leader s.known s.yes m s.acked

abbrev pub with_acked : Site → ℕ → Site
with_acked s m = changed s s.state s.leader s.known s.yes s.no m

-- "It is sound when": 2 to 8 sites, its own number among them, a leader from 1 to its own number, and four sets of other sites
abbrev pub named : Site → ℕ
named s = union (union s.known s.yes) (union s.no s.acked)

unfoldable pub sound_of : Site → Bool
sound_of s =
    leb 2 s.n && leb s.n 8
    && leb 1 s.number && leb s.number s.n
    && leb 1 s.leader && leb s.leader s.number
    && subset (named s) (others_of s.n s.number)

-- "A site leads when it follows itself"
abbrev pub leads : Site → Bool
leads s = eqb s.leader s.number

-- ---- "Messages"

-- the kinds by their numbers: "1 Start", "2 Yes, 3 No", "4 Move-p, 5 Move-w, 7 Commit, 8 Abort", "6 Ack"
abbrev pub start : ℕ
start = 1

abbrev pub say_yes : ℕ
say_yes = 2

abbrev pub say_no : ℕ
say_no = 3

abbrev pub move_p : ℕ
move_p = 4

abbrev pub move_w : ℕ
move_w = 5

abbrev pub ack : ℕ
ack = 6

abbrev pub commit : ℕ
commit = 7

abbrev pub abort : ℕ
abort = 8

-- the orders of a leader, which go from a lower site to a higher: Move-p, Move-w, Commit, Abort
abbrev pub is_order : ℕ → Bool
is_order k = eqb k move_p || eqb k move_w || eqb k commit || eqb k abort

-- the right ends of a message of kind k, by its sender and its receiver; an unknown kind has none
unfoldable pub ends_of : ℕ → ℕ → ℕ → Bool
ends_of k from to =
    cond (eqb k start) (eqb from 1 && ltb 1 to)
    (cond (eqb k say_yes || eqb k say_no) (ltb 1 from && eqb to 1)
    (cond (eqb k ack) (ltb to from)
    (cond (is_order k) (ltb from to) false)))

-- "All" means every other site not known stopped
unfoldable pub to_all : Site → ℕ
to_all s = minus (others_of s.n s.number) s.known

-- ground 2 is given where this is false: the sites that a step names are among 1 to n, a notice is about another site,
-- and a delivered message is one of 01's and has the right ends. A Start is delivered with a vote, so by its own step
unfoldable pub in_run : Site → ℕ → Bool
in_run s j = leb 1 j && leb j s.n

abbrev pub names_of : Site → Step → Bool
names_of s (Begin v) = true
names_of s (Start from v) = in_run s from && ends_of start from s.number
names_of s (Deliver k from) = in_run s from && not (eqb k start) && ends_of k from s.number
names_of s (Notice o) = in_run s o && not (eqb o s.number)
names_of s TakeOver = true
names_of s Conclude = true

-- ---- whom a site waits for

-- site 1 in w gathers votes (site 1 of a sound record leads: its leader is from 1 to its own number)
unfoldable pub polls : Site → Bool
polls s = is_w s.state && eqb s.number 1

-- a leader in p, or in w other than site 1, gathers acknowledgements
unfoldable pub collects : Site → Bool
collects s = leads s && (is_p s.state || is_w s.state && not (eqb s.number 1))

-- the sites still awaited: who has not voted, or not acknowledged, and is not known stopped
unfoldable pub awaited_of : Site → ℕ
awaited_of s =
    cond (polls s) (minus (to_all s) (union s.yes s.no))
    (cond (collects s) (minus (to_all s) s.acked) 0)

-- ---- how a step ends

-- refused with a ground, or passed over: nothing is written
abbrev pub refused : Site → Refusal → Done
refused s g = record { site = s; outcome = Refused g; kind = 0; to = 0 }

abbrev pub passed : Site → Done
passed s = record { site = s; outcome = Passed; kind = 0; to = 0 }

-- taken, with messages of kind k to a set of receivers
abbrev pub taken : Site → ℕ → ℕ → Done
taken s k m = record { site = s; outcome = Taken; kind = k; to = m }
