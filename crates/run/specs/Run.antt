-- A run (01, "The run"): its parts, what stands in them, and how one event's doings are put into it.
-- Assumes nothing.
use Rattle.std.specs.Prelude.{ℕ, ◌+◌, ◌-◌, ◌*◌, Bool, cond, ◌&&◌, List, [], ◌∷◌, map, leb, get_or, set, replicate}
use Rattle.sets.specs.Sets.{is_site, has, union, minus, without, with_site}
use Rattle.site.specs.declared.State.{State}
use Rattle.site.specs.declared.State.TheVariants.{Q}
use Rattle.site.specs.declared.Site.{Site}
use Rattle.site.specs.Site.{record_with}
use Rattle.run.specs.declared.Run.{Run}

-- ---- what a run holds

-- what stands at a place that there is not
abbrev pub no_site : Site
no_site = record_with 0 0 Q 0 0 0 0 0

-- the record of site i
abbrev pub site_at : Run → ℕ → Site
site_at r i = get_or r.sites (i - 1) no_site

-- a number that has a row of the network: 01 uses eight of the nine, and the ninth is kept so that one more kind of message leaves the
-- 138 bytes of a run as they are
unfoldable pub has_row : ℕ → Bool
has_row k = leb 1 k && leb k 9

-- where the receivers of the messages of kind k from site s stand; past the end for any other kind or sender
unfoldable pub place : ℕ → ℕ → ℕ
place k s = cond (has_row k && is_site s) (8 * (k - 1) + (s - 1)) 72

-- the sites for which a message of kind k from s is outstanding
abbrev pub receivers : List ℕ → ℕ → ℕ → ℕ
receivers net k s = get_or net (place k s) 0

-- ---- views: what demand 3 and later rules speak of

unfoldable pub state_of : Run → ℕ → State
state_of r i = (site_at r i).state

unfoldable pub leader_of : Run → ℕ → ℕ
leader_of r i = (site_at r i).leader

-- site i knows that j stopped
unfoldable pub knows : Run → ℕ → ℕ → Bool
knows r i j = has (site_at r i).known j

-- a message of kind k from s to j is outstanding
unfoldable pub outstanding : Run → ℕ → ℕ → ℕ → Bool
outstanding r k s j = has (receivers r.net k s) j

-- site i has stopped
unfoldable pub has_stopped : Run → ℕ → Bool
has_stopped r i = has r.stopped i

-- ---- what an event may do to a network

-- without the message of kind k from a site to s
abbrev pub taken_in : List ℕ → ℕ → ℕ → ℕ → List ℕ
taken_in net k from s = set net (place k from) (without (receivers net k from) s)

-- with messages of kind k from site s to a set of sites
abbrev pub sent_in : List ℕ → ℕ → ℕ → ℕ → List ℕ
sent_in net k s to = set net (place k s) (union (receivers net k s) to)

-- without what is addressed to site s
abbrev pub stopped_in : List ℕ → ℕ → List ℕ
stopped_in net s = map (λ (m : ℕ). without m s) net

-- ---- what an event may do to a run

-- a run after an event has the same n; the stopped sites, the records and the network may be others. Only here is a run built anew
abbrev pub remade : Run → ℕ → List Site → List ℕ → Run
remade r stopped sites net = record { n = r.n; stopped = stopped; sites = sites; net = net }

-- another record for site s. Only sites of 1 to n act (ground 2), and no other record changes (`frame` in RunLaws): so places above n
-- are "handed back as given"
abbrev pub with_record : Run → ℕ → Site → Run
with_record r s x = remade r r.stopped (set r.sites (s - 1) x) r.net

-- another network
abbrev pub with_net : Run → List ℕ → Run
with_net r net = remade r r.stopped r.sites net

-- the message of kind k from a site to s is taken out of the network
unfoldable pub taken_out : Run → ℕ → ℕ → ℕ → Run
taken_out r k from s = with_net r (taken_in r.net k from s)

-- site s writes messages of kind k to a set of sites: "a message to a stopped site is counted as written and
-- doesn't enter the network"
unfoldable pub sent_by : Run → ℕ → ℕ → ℕ → Run
sent_by r k s to = with_net r (sent_in r.net k s (minus to r.stopped))

-- site s stops: "A stop removes what is addressed to the site"
unfoldable pub stopped_at : Run → ℕ → Run
stopped_at r s = remade r (with_site r.stopped s) r.sites (stopped_in r.net s)

-- ---- "Fresh: all in q, following 1, all sets empty, no messages"

abbrev pub fresh_site : ℕ → ℕ → Site
fresh_site m i = record_with m i Q 1 0 0 0 0

-- places above n are filled like the others
abbrev pub fresh_run : ℕ → Run
fresh_run m =
    record {
      n = m;
      stopped = 0;
      sites = map (fresh_site m) (1 ∷ 2 ∷ 3 ∷ 4 ∷ 5 ∷ 6 ∷ 7 ∷ 8 ∷ []);
      net = replicate 72 0;
    }
