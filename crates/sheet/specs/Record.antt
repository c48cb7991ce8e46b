-- The record of a sheet and its parts (01, "Protocol sheets", the paragraph "Record").
-- Sites are counted from 1 in a transition; in a list the first site stands at place 0.
-- Assumes nothing.
use Rattle.std.specs.Prelude.{ℕ, ◌+◌, ◌-◌, ◌*◌, ◌/◌, ◌%◌, cond, List, ltb, get_or, replicate}
use Rattle.sheet.specs.Index.{sum_below, table}
use Rattle.sheet.specs.declared.Transition.{Transition}
use Rattle.sheet.specs.declared.Sheet.{Sheet}

-- byte k of the record; a byte past its end counts as 0
abbrev pub byte : List ℕ → ℕ → ℕ
byte l k = get_or l k 0

-- L, the length of all that follows: two bytes, big-endian
abbrev pub size_of : List ℕ → ℕ
size_of l = byte l 0 * 256 + byte l 1

-- four bytes, big-endian: a set of messages
unfoldable pub four_at : List ℕ → ℕ → ℕ
four_at l at = ((byte l at * 256 + byte l (at + 1)) * 256 + byte l (at + 2)) * 256 + byte l (at + 3)

-- the number of sites, after length and version
abbrev pub sites_of : List ℕ → ℕ
sites_of l = byte l 3

-- the state count of the site at place i, 0 for an absent site
unfoldable pub state_count : List ℕ → ℕ → ℕ
state_count l i = cond (ltb i (sites_of l)) (byte l (4 + i)) 0

-- the state counts of four sites
unfoldable pub state_counts : List ℕ → List ℕ
state_counts l = table (state_count l) 4

-- Where the parts stand, by the number n of sites and the list cs of their state counts.

-- the states of the sites before place i
unfoldable pub states_before : List ℕ → ℕ → ℕ
states_before cs i = sum_below (λ (j : ℕ). get_or cs j 0) i

-- the mark of state q of the site at place i: the marks follow the counts, site by site
abbrev pub mark_at : ℕ → List ℕ → ℕ → ℕ → ℕ
mark_at n cs i q = 4 + n + states_before cs i + q

-- the messages outstanding at first, after all marks
abbrev pub first_at : ℕ → List ℕ → ℕ
first_at n cs = 4 + n + states_before cs 4

-- the number of transitions
abbrev pub moves_at : ℕ → List ℕ → ℕ
moves_at n cs = first_at n cs + 4

-- transition k, of 12 bytes
abbrev pub transition_at : ℕ → List ℕ → ℕ → ℕ
transition_at n cs k = moves_at n cs + 1 + 12 * k

-- the length L that the counts and the number t of transitions give
abbrev pub length_for : ℕ → List ℕ → ℕ → ℕ
length_for n cs t = 2 + n + states_before cs 4 + 4 + 1 + 12 * t

-- What stands there.

-- the mark at place k, that of state k % 8 of the site at place k / 8; 0 where there is no such state
unfoldable pub mark_read : List ℕ → ℕ → List ℕ → ℕ → ℕ
mark_read l n cs k = cond (ltb (k % 8) (get_or cs (k / 8) 0)) (byte l (mark_at n cs (k / 8) (k % 8))) 0

-- the number of transitions
abbrev pub moves_of : List ℕ → ℕ → List ℕ → ℕ
moves_of l n cs = byte l (moves_at n cs)

-- no transition
abbrev pub no_transition : Transition
no_transition = record { site = 0; from = 0; to = 0; vote = 0; reads = 0; writes = 0 }

-- the twelve bytes of a transition: site, from, to, vote, reads, writes
unfoldable pub transition_from : List ℕ → ℕ → Transition
transition_from l at =
    record {
      site = byte l at;
      from = byte l (at + 1);
      to = byte l (at + 2);
      vote = byte l (at + 3);
      reads = four_at l (at + 4);
      writes = four_at l (at + 8);
    }

-- transition k of as many as `moves`, the first of which stands at `start`; none from `moves` on
unfoldable pub transition_in : List ℕ → ℕ → ℕ → ℕ → Transition
transition_in l start moves k = cond (ltb k moves) (transition_from l (start + 12 * k)) no_transition

-- transition k, none from the number of transitions on
abbrev pub transition_of : List ℕ → ℕ → List ℕ → ℕ → Transition
transition_of l n cs k = transition_in l (moves_at n cs + 1) (moves_of l n cs) k

-- the parts, by the counts
unfoldable pub parts_by : List ℕ → ℕ → List ℕ → Sheet
parts_by l n cs =
    record {
      sites = n;
      counts = cs;
      marks = table (mark_read l n cs) 32;
      first = four_at l (first_at n cs);
      moves = moves_of l n cs;
      transitions = table (transition_of l n cs) 64;
    }

-- the parts of a record
abbrev pub parts_of : List ℕ → Sheet
parts_of l = parts_by l (sites_of l) (state_counts l)

-- the sheet of a refused answer
unfoldable pub no_sheet : Sheet
no_sheet =
    record {
      sites = 0;
      counts = replicate 4 0;
      marks = replicate 32 0;
      first = 0;
      moves = 0;
      transitions = replicate 64 no_transition;
    }

-- The parts of a sheet by site and state.

-- the state count of a site
abbrev pub states_of : Sheet → ℕ → ℕ
states_of s site = get_or s.counts (site - 1) 0

-- the mark of a site's state: 0 working, 1 abort, 2 commit
abbrev pub mark_in : Sheet → ℕ → ℕ → ℕ
mark_in s site q = get_or s.marks (8 * (site - 1) + q) 0

-- transition k
abbrev pub move_of : Sheet → ℕ → Transition
move_of s k = get_or s.transitions k no_transition
