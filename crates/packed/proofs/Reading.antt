-- For the proofs of the readers: the rows of the sites in the bytes of a run.
-- Assumes nothing.
use Prim.Native.Nat.{ℕ, zero, suc, ◌+◌, ◌-◌, ◌*◌, ◌<◌}
use mathlib.Core.Bool.{Bool, false, ◌&&◌, and_assoc, and-true}
use mathlib.Core.List.{List, ◌∷◌, map}
use mathlib.Core.Path.{◌≡◌, refl, sym, ap, ◌∙◌}
use native.Mathlib.Nat.{le_of_eq}
use native.Mathlib.Omega.{arith}
use borrow.Author.Tests.{eq-eqb, ne_eqb}
use lib.Dec.{leb}
use lib.ListN.{length, get_or, take, drop, length-drop}
use lib.Seq.{drop-drop, take_all}
use Rattle.std.specs.List.{list_all}
use Rattle.std.specs.Simd.{first_chunks}
use Rattle.std.proofs.lemmas.List.{get_or-take, take-take, drop-take}
use Rattle.site.specs.Site.{record_with}
use Rattle.run.specs.Run.{no_site}
use Rattle.run.specs.Sound.{every}
use Rattle.packed.specs.Bytes.{site_size, sites_at, state_at, state_from, site_from, tells_site, run_size, sites_from, rows_in, is_run_bytes}
use Rattle.packed.proofs.BytesLaws.{further}

-- ---- a row is read as the bytes that it is the front of

at : (l : List ℕ) (i : ℕ) → i < site_size → get_or (take site_size l) i 0 ≡ get_or l i 0
at l i h = get_or-take site_size l i 0 h

site_front : (l : List ℕ) → site_from (take site_size l) ≡ site_from l
unfolding site_from
site_front l =
    λ j. record_with (at l 0 (omega arith) j) (at l 1 (omega arith) j) (state_from (at l state_at (omega arith) j)) (at l 3 (omega arith) j)
    (at l 4 (omega arith) j) (at l 5 (omega arith) j) (at l 6 (omega arith) j) (at l 7 (omega arith) j)

tells_front : (l : List ℕ) → tells_site (take site_size l) ≡ tells_site l
unfolding tells_site
tells_front l = ap (λ (b : ℕ). leb b 4) (at l state_at (omega arith))

-- ---- k rows, one after the other

-- they lie within as many bytes
pub rows_within : (k : ℕ) (l : List ℕ) → first_chunks site_size k (take (site_size * k) l) ≡ first_chunks site_size k l
rows_within zero l = refl
rows_within (suc k) l =
    let front : take site_size (take (site_size * suc k) l) ≡ take site_size l = take-take site_size (site_size * suc k) l (omega arith) in
    let size : site_size * suc k ≡ site_size + site_size * k = omega arith in
    let rest : drop site_size (take (site_size * suc k) l) ≡ take (site_size * k) (drop site_size l) =
    ap (λ (m : ℕ). drop site_size (take m l)) size ∙ drop-take site_size (site_size * k) l in
    λ j. front j ∷ (ap (first_chunks site_size k) rest ∙ rows_within k (drop site_size l)) j

-- what is read of each
pub rows_sites : (k : ℕ) (l : List ℕ) → map site_from (first_chunks site_size k l) ≡ sites_from k l
rows_sites zero l = refl
rows_sites (suc k) l = λ j. site_front l j ∷ rows_sites k (drop site_size l) j

-- each of k sites is what is read at its row
pub sites_at_lem : (k i : ℕ) (l : List ℕ) → i < k → get_or (sites_from k l) i no_site ≡ site_from (drop (site_size * i) l)
sites_at_lem zero i l h = absurd (omega arith)
sites_at_lem (suc k) zero l h = refl
sites_at_lem (suc k) (suc i) l h = sites_at_lem k i (drop site_size l) (omega arith) ∙ ap site_from (further i l)

-- a part that is lent from a place to the end is what is left from there on
pub lent_is : (l : List ℕ) (at : ℕ) → take (length l - at) (drop at l) ≡ drop at l
lent_is l at = take_all (length l - at) (drop at l) (le_of_eq (length-drop at l))

-- the site at a place of a run's bytes is what is read of the part from there to the end
pub site_at_lem : (l : List ℕ) (i : ℕ) → i < 8 → site_from (take (length l - (sites_at + site_size * i)) (drop (sites_at + site_size * i) l)) ≡ get_or (sites_from 8 (drop sites_at l)) i no_site
site_at_lem l i h =
    ap site_from (lent_is l (sites_at + site_size * i) ∙ sym (drop-drop (site_size * i) sites_at l)) ∙ sym (sites_at_lem 8 i (drop sites_at l) h)

-- a test of the first and of those behind it
every_front : (k : ℕ) (f : ℕ → Bool) → every (suc k) f ≡ (f 0 && every k (λ (i : ℕ). f (suc i)))
every_front zero f = sym (and-true (f 0))
every_front (suc k) f = ap (λ (b : Bool). b && f (suc k)) (every_front k f) ∙ and_assoc (f 0) (every k (λ (i : ℕ). f (suc i))) (f (suc k))

pub rows_tell : (k : ℕ) (l : List ℕ) → list_all tells_site (first_chunks site_size k l) ≡ every k (λ (i : ℕ). tells_site (drop (site_size * i) l))
rows_tell zero l = refl
rows_tell (suc k) l =
    (λ j. tells_front l j && rows_tell k (drop site_size l) j)
    ∙ (λ j. tells_site l && every k (λ (i : ℕ). tells_site (further i l j)))
    ∙ sym (every_front k (λ (i : ℕ). tells_site (drop (site_size * i) l)))

-- ---- the rows in the bytes of a run

pub rows_length : (l : List ℕ) → length (rows_in l) ≡ 8
unfolding rows_in
rows_length l = refl

-- they tell whether the bytes are a run's
pub run_told : (l : List ℕ) → length l ≡ run_size → list_all tells_site (rows_in l) ≡ is_run_bytes l
unfolding rows_in is_run_bytes
run_told l whole =
    simp (eq-eqb _ _ whole) (rows_tell 8 (drop sites_at l) ∙ (λ j. every 8 (λ (i : ℕ). tells_site (drop-drop (site_size * i) sites_at l j))))

pub run_sized : (l : List ℕ) → (length l ≡ run_size → ⊥) → is_run_bytes l ≡ false
unfolding is_run_bytes
run_sized l other = simp (ne_eqb _ _ other)
