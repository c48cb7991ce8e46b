-- Bytes and values belong together: bytes of a site or a run, read and written again, are the same bytes, and a site or a run, written and
-- read again, is the same. What is neither is read as something that is not sound.
-- Assumes nothing.
use Prim.Native.Nat.{ℕ, zero, suc, ◌+◌, ◌-◌, ◌*◌, ◌≤◌, ◌<◌}
use mathlib.Core.Bool.{Bool, true, false, cond}
use mathlib.Core.List.{List, [], ◌∷◌, ◌++◌, flat_map, append_assoc}
use mathlib.Core.Path.{◌≡◌, refl, sym, ap, ◌∙◌}
use native.Mathlib.Nat.{le_of_eq}
use native.Mathlib.Omega.{arith}
use Rattle.std.specs.Prelude.{Err}
use Rattle.refusal.specs.declared.Refusal.TheVariants.{NoRoom}
use Rattle.refusal.specs.Refusals.{Test, clear}
use lib.Dec.{eqb, leb}
use lib.ListN.{length, get_or, take, drop, take-append-drop, length-append, length-drop}
use lib.Seq.{drop-drop, drop_at, take_all}
use borrow.Author.Tests.{eq-eqb, ne_eqb, eqb-true, leb-true}
use Rattle.sets.proofs.Truths.{and_l, and_r, and_i}
use Rattle.text.proofs.TextLaws.{bytes_from, one_by_one}
use Rattle.text.proofs.Putting.{flat_length}
use Rattle.site.specs.declared.State.{State}
use Rattle.site.specs.declared.State.TheVariants.{Q, W, P, A, C}
use Rattle.site.specs.declared.Site.{Site}
use Rattle.site.specs.Site.{sound_of}
use Rattle.run.specs.declared.Run.{Run}
use Rattle.run.proofs.Views.{Shape}
use Rattle.run.specs.Sound.{every, sound_run}
use Rattle.run.proofs.SoundLaws.{every_at, every_all}
use Rattle.packed.specs.Bytes.{site_size, state_at, sites_at, net_at, run_size, state_byte, state_from, site_bytes, site_from, tells_site, is_site_bytes, site_in, run_head, run_bytes, sites_from, run_from, is_run_bytes, run_in, length_ground, replaced}

-- ---- how many they are

pub site_length : (s : Site) → length (site_bytes s) ≡ site_size
unfolding site_bytes
site_length s = refl

pub sites_length : (l : List Site) → length (flat_map site_bytes l) ≡ site_size * length l
sites_length = flat_length site_bytes site_size site_length

pub run_length : (r : Run) → Shape r → length (run_bytes r) ≡ run_size
unfolding run_bytes run_head
run_length r h = simp (length-append, sites_length, h.sites, h.net)

-- bytes that are a site are as many
pub site_sized : (l : List ℕ) → is_site_bytes l ≡ true → length l ≡ site_size
unfolding is_site_bytes
site_sized l h = eqb-true (length l) site_size (and_l (eqb (length l) site_size) (tells_site l) h)

pub run_sized : (l : List ℕ) → is_run_bytes l ≡ true → length l ≡ run_size
unfolding is_run_bytes
run_sized l h =
    eqb-true (length l) run_size (and_l (eqb (length l) run_size) (every 8 (λ (i : ℕ). tells_site (drop (sites_at + site_size * i) l))) h)

-- and are read as what they are
pub site_read : (l : List ℕ) → is_site_bytes l ≡ true → site_in l ≡ site_from l
unfolding site_in
site_read l h = simp h

pub run_read : (l : List ℕ) → is_run_bytes l ≡ true → run_in l ≡ run_from l
unfolding run_in
run_read l h = simp h

-- ---- bytes, read and written again

-- each of the five states
state_again : (b : ℕ) → b ≤ 4 → state_byte (state_from b) ≡ b
state_again zero h = refl
state_again (suc zero) h = refl
state_again (suc (suc zero)) h = refl
state_again (suc (suc (suc zero))) h = refl
state_again (suc (suc (suc (suc zero)))) h = refl
state_again (suc (suc (suc (suc (suc b))))) h = absurd (omega arith)

-- a site's at the front
front_again : (l : List ℕ) → site_size ≤ length l → tells_site l ≡ true → site_bytes (site_from l) ≡ take site_size l
unfolding site_bytes site_from tells_site
front_again l h s =
    ap (λ (b : ℕ). bytes_from state_at 0 l ++ (b ∷ bytes_from (site_size - suc state_at) (suc state_at) l)) (state_again (get_or l state_at 0) (leb-true _ _ s))
    ∙ sym (one_by_one site_size 0 l h)

pub site_again : (l : List ℕ) → is_site_bytes l ≡ true → site_bytes (site_in l) ≡ l
unfolding is_site_bytes
site_again l h =
    ap site_bytes (site_read l h)
    ∙ front_again l (le_of_eq (sym (site_sized l h))) (and_r (eqb (length l) site_size) (tells_site l) h)
    ∙ take_all site_size l (le_of_eq (site_sized l h))

-- behind a site's are the next one's
pub further : (i : ℕ) (l : List ℕ) → drop (site_size * i) (drop site_size l) ≡ drop (site_size * suc i) l
further i l = drop-drop (site_size * i) site_size l ∙ ap (λ (k : ℕ). drop k l) next
  where
    next : site_size + site_size * i ≡ site_size * suc i
    next = omega arith

-- k sites' at the front, one after the other
fronts_again : (k : ℕ) (l : List ℕ) → site_size * k ≤ length l → ((i : ℕ) → i < k → tells_site (drop (site_size * i) l) ≡ true)
    → flat_map site_bytes (sites_from k l) ++ drop (site_size * k) l ≡ l
unfolding flat_map
fronts_again zero l h s = refl
fronts_again (suc k) l h s =
    append_assoc (site_bytes (site_from l)) (flat_map site_bytes (sites_from k (drop site_size l))) (drop (site_size * suc k) l)
    ∙ ap (λ (x : List ℕ). site_bytes (site_from l) ++ (flat_map site_bytes (sites_from k (drop site_size l)) ++ x)) (sym (further k l))
    ∙ ap (λ (x : List ℕ). site_bytes (site_from l) ++ x) (fronts_again k (drop site_size l) room (λ i b. ap tells_site (further i l) ∙ s (suc i) (omega arith)))
    ∙ ap (λ (x : List ℕ). x ++ drop site_size l) (front_again l (omega arith) (s 0 (omega arith)))
    ∙ take-append-drop site_size l
  where
    room : site_size * k ≤ length (drop site_size l)
    room = omega (arith, length-drop site_size l)

pub run_again : (l : List ℕ) → is_run_bytes l ≡ true → run_bytes (run_in l) ≡ l
unfolding is_run_bytes run_bytes run_head run_from
run_again l h =
    let whole : length l ≡ run_size = run_sized l h in
    ap run_bytes (run_read l h)
    ∙ ap (λ (x : List ℕ). bytes_from sites_at 0 l ++ (flat_map site_bytes (sites_from 8 (drop sites_at l)) ++ x))
    (take_all 72 (drop net_at l) (le_of_eq net) ∙ sym (drop-drop (site_size * 8) sites_at l))
    ∙ ap (λ (x : List ℕ). bytes_from sites_at 0 l ++ x) (fronts_again 8 (drop sites_at l) (omega (arith, length-drop sites_at l)) known)
    ∙ ap (λ (x : List ℕ). x ++ drop sites_at l) (sym (one_by_one sites_at 0 l (omega arith)))
    ∙ take-append-drop sites_at l
  where
    net : length (drop net_at l) ≡ 72
    net = length-drop net_at l ∙ ap (λ (k : ℕ). k - net_at) (run_sized l h)

    known : (i : ℕ) → i < 8 → tells_site (drop (site_size * i) (drop sites_at l)) ≡ true
    known i b =
        ap tells_site (drop-drop (site_size * i) sites_at l)
        ∙ every_at 8 (λ (i : ℕ). tells_site (drop (sites_at + site_size * i) l)) (and_r (eqb (length l) run_size) (every 8 (λ (i : ℕ). tells_site (drop (sites_at + site_size * i) l))) h) i b

-- ---- a value, written and read again

state_back : (q : State) → state_from (state_byte q) ≡ q
state_back Q = refl
state_back W = refl
state_back P = refl
state_back A = refl
state_back C = refl

state_known : (q : State) → leb (state_byte q) 4 ≡ true
state_known Q = refl
state_known W = refl
state_known P = refl
state_known A = refl
state_known C = refl

front_back : (s : Site) (rest : List ℕ) → site_from (site_bytes s ++ rest) ≡ s
unfolding site_from site_bytes
front_back s rest =
    λ i. record {
      n = s.n;
      number = s.number;
      state = state_back s.state i;
      leader = s.leader;
      known = s.known;
      yes = s.yes;
      no = s.no;
      acked = s.acked;
    }

front_tells : (s : Site) (rest : List ℕ) → tells_site (site_bytes s ++ rest) ≡ true
unfolding tells_site site_bytes
front_tells s rest = state_known s.state

pub site_back : (s : Site) → site_in (site_bytes s) ≡ s
unfolding site_in is_site_bytes site_bytes
site_back s = simp (front_tells s []) (front_back s [])

fronts_back : (ss : List Site) (rest : List ℕ) → sites_from (length ss) (flat_map site_bytes ss ++ rest) ≡ ss
unfolding flat_map site_bytes
fronts_back [] rest = refl
fronts_back (s ∷ ss) rest = λ i. front_back s (flat_map site_bytes ss ++ rest) i ∷ fronts_back ss rest i

fronts_tell : (ss : List Site) (rest : List ℕ) (i : ℕ) → i < length ss → tells_site (drop (site_size * i) (flat_map site_bytes ss ++ rest)) ≡ true
unfolding flat_map site_bytes
fronts_tell [] rest i h = absurd (omega arith)
fronts_tell (s ∷ ss) rest zero h = front_tells s (flat_map site_bytes ss ++ rest)
fronts_tell (s ∷ ss) rest (suc i) h =
    ap tells_site (sym (further i (site_bytes s ++ (flat_map site_bytes ss ++ rest)))) ∙ fronts_tell ss rest i (omega arith)

module _ (r : Run) (h : Shape r) where
  -- the bytes behind the head
  abbrev behind : List ℕ
  behind = flat_map site_bytes r.sites ++ r.net

  run_is : is_run_bytes (run_bytes r) ≡ true
  unfolding is_run_bytes run_bytes run_head
  run_is =
      and_i (eqb (length (run_bytes r)) run_size) (every 8 (λ (i : ℕ). tells_site (drop (sites_at + site_size * i) (run_bytes r))))
      (eq-eqb (length (run_bytes r)) run_size (run_length r h))
      (every_all 8 (λ (i : ℕ). tells_site (drop (sites_at + site_size * i) (run_bytes r)))
      (λ i b. ap tells_site (sym (drop-drop (site_size * i) sites_at (run_bytes r))) ∙ fronts_tell r.sites r.net i (omega (arith, h.sites))))

  pub run_back : run_in (run_bytes r) ≡ r
  unfolding run_from run_bytes run_head
  run_back = run_read (run_bytes r) run_is ∙ (λ i. record { n = r.n; stopped = r.stopped; sites = sites i; net = net i })
    where
      sites : sites_from 8 behind ≡ r.sites
      sites = ap (λ (k : ℕ). sites_from k behind) (sym h.sites) ∙ fronts_back r.sites r.net

      net : take 72 (drop (site_size * 8) behind) ≡ r.net
      net =
          ap (take 72) (drop_at (flat_map site_bytes r.sites) r.net (site_size * 8) (sites_length r.sites ∙ ap (λ (k : ℕ). site_size * k) h.sites))
          ∙ take_all 72 r.net (le_of_eq h.net)

-- ---- what a write leaves

module _ (size : ℕ) (l : List ℕ) where
  -- it is refused exactly where the bytes are not as many
  pub fitting : length l ≡ size → length_ground size l ≡ clear
  unfolding length_ground
  fitting e = simp (eq-eqb (length l) size e)

  pub unfitting : (length_ground size l ≡ clear → ⊥) → eqb (length l) size ≡ false
  unfitting h = ne_eqb (length l) size (λ e. h (fitting e))

  pub fits : length_ground size l ≡ clear → length l ≡ size
  unfolding length_ground
  fits h = go (eqb (length l) size) refl h
    where
      go : (b : Bool) → eqb (length l) size ≡ b → ◌≡◌ {A = Test} (cond b clear (Err NoRoom)) clear → length l ≡ size
      go true e h = eqb-true (length l) size e
      go false e h = cc

  -- and where it is not, what was to be written stands there
  pub fitted : length l ≡ size → (new : List ℕ) → replaced size l new ≡ new
  unfolding replaced
  fitted e new = simp (eq-eqb (length l) size e)

  written : length_ground size l ≡ clear → (new : List ℕ) → replaced size l new ≡ new
  written h new = fitted (fits h) new

-- that is read back
pub site_written : (l : List ℕ) (s : Site) → length_ground site_size l ≡ clear → site_in (replaced site_size l (site_bytes s)) ≡ s
site_written l s h = ap site_in (written site_size l h (site_bytes s)) ∙ site_back s

pub run_written : (l : List ℕ) (r : Run) → Shape r → length_ground run_size l ≡ clear → run_in (replaced run_size l (run_bytes r)) ≡ r
run_written l r s h = ap run_in (written run_size l h (run_bytes r)) ∙ run_back r s

-- and of what was read it is the same bytes
pub site_rewritten : (l room : List ℕ) → is_site_bytes l ≡ true → length_ground site_size room ≡ clear → replaced site_size room (site_bytes (site_in l)) ≡ l
site_rewritten l room s h = written site_size room h (site_bytes (site_in l)) ∙ site_again l s

pub run_rewritten : (l room : List ℕ) → is_run_bytes l ≡ true → length_ground run_size room ≡ clear → replaced run_size room (run_bytes (run_in l)) ≡ l
run_rewritten l room s h = written run_size room h (run_bytes (run_in l)) ∙ run_again l s

-- ---- what is neither

pub site_none : (l : List ℕ) → is_site_bytes l ≡ false → sound_of (site_in l) ≡ false
unfolding site_in sound_of
site_none l h = simp h

pub run_none : (l : List ℕ) → is_run_bytes l ≡ false → sound_run (run_in l) ≡ false
unfolding run_in sound_run
run_none l h = simp h
