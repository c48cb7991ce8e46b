-- A site and a run as bytes: how many they have, what stands where, when bytes are one, and how they are read and written.
-- Assumes nothing.
use Rattle.std.specs.Prelude.{ℕ, zero, suc, ◌+◌, ◌*◌, Bool, cond, ◌&&◌, eqb, leb, length, get_or, take, drop, Err}
use Rattle.refusal.specs.declared.Refusal.TheVariants.{NoRoom}
use Rattle.refusal.specs.Refusals.{Test, clear}
use mathlib.Core.List.{List, [], ◌∷◌, ◌++◌, flat_map}
use Rattle.std.specs.Simd.{first_chunks}
use Rattle.site.specs.declared.State.{State}
use Rattle.site.specs.declared.State.TheVariants.{Q, W, P, A, C}
use Rattle.site.specs.declared.Site.{Site}
use Rattle.site.specs.Site.{record_with}
use Rattle.run.specs.declared.Run.{Run}
use Rattle.run.specs.Run.{no_site, remade, fresh_run}
use Rattle.run.specs.Sound.{every}

-- ---- how many bytes, and where what stands

abbrev pub site_size : ℕ
site_size = 8

-- a site's state
abbrev pub state_at : ℕ
state_at = 2

-- a run's sites, one after the other
abbrev pub sites_at : ℕ
sites_at = 2

-- a run's network, behind them
abbrev pub net_at : ℕ
net_at = sites_at + site_size * 8

abbrev pub run_size : ℕ
run_size = net_at + 72

-- ---- a site

-- a state's byte: 0 q, 1 w, 2 p, 3 a, 4 c
abbrev pub state_byte : State → ℕ
state_byte Q = 0
state_byte W = 1
state_byte P = 2
state_byte A = 3
state_byte C = 4

abbrev pub state_from : ℕ → State
state_from b = cond (eqb b 0) Q (cond (eqb b 1) W (cond (eqb b 2) P (cond (eqb b 3) A C)))

-- a site's bytes: n, number, state, leader, known stopped, yes heard, no heard, acknowledged
unfoldable pub site_bytes : Site → List ℕ
site_bytes s =
    s.n ∷ s.number ∷ state_byte s.state ∷ s.leader ∷ s.known ∷ s.yes ∷ s.no ∷ s.acked ∷ []

-- the site whose bytes stand at the front
unfoldable pub site_from : List ℕ → Site
site_from l =
    record_with (get_or l 0 0) (get_or l 1 0) (state_from (get_or l state_at 0)) (get_or l 3 0) (get_or l 4 0) (get_or l 5 0) (get_or l 6 0) (get_or l 7 0)

-- those bytes are some site's: they have one of the five states
unfoldable pub tells_site : List ℕ → Bool
tells_site l = leb (get_or l state_at 0) 4

-- 1 is given where this is false
unfoldable pub is_site_bytes : List ℕ → Bool
is_site_bytes l = eqb (length l) site_size && tells_site l

-- the site of any bytes: what is none is read as a record of zeros, which is not sound
unfoldable pub site_in : List ℕ → Site
site_in l = cond (is_site_bytes l) (site_from l) no_site

-- ---- a run

-- a run's bytes: n, stopped, eight sites, the network
unfoldable pub run_head : Run → List ℕ
run_head r = r.n ∷ r.stopped ∷ []

unfoldable pub run_bytes : Run → List ℕ
run_bytes r = run_head r ++ (flat_map site_bytes r.sites ++ r.net)

-- so many sites, from the front on
abbrev pub sites_from : ℕ → List ℕ → List Site
sites_from zero l = []
sites_from (suc k) l = site_from l ∷ sites_from k (drop site_size l)

-- the rows of a run's sites
unfoldable pub rows_in : List ℕ → List (List ℕ)
rows_in l = first_chunks site_size 8 (drop sites_at l)

unfoldable pub run_from : List ℕ → Run
run_from l = remade (fresh_run (get_or l 0 0)) (get_or l 1 0) (sites_from 8 (drop sites_at l)) (take 72 (drop net_at l))

-- 1 is given where this is false: as many bytes as a run has, with some site's at each of the eight places
unfoldable pub is_run_bytes : List ℕ → Bool
is_run_bytes l = eqb (length l) run_size && every 8 (λ (i : ℕ). tells_site (drop (sites_at + site_size * i) l))

-- the run of any bytes: what is none is read as the refused fresh, a run of no sites, which is not sound
unfoldable pub run_in : List ℕ → Run
run_in l = cond (is_run_bytes l) (run_from l) (fresh_run 0)

-- ---- in lent bytes

-- 15 is given to bytes of another number than is written
unfoldable pub length_ground : ℕ → List ℕ → Test
length_ground size l = cond (eqb (length l) size) clear (Err NoRoom)

-- and they stay as they are
unfoldable pub replaced : ℕ → List ℕ → List ℕ → List ℕ
replaced size l new = cond (eqb (length l) size) new l
