-- How the parts of an event change what one sees of a run: the records, the outstanding messages, the stopped sites.
-- Each change has one law for each view that it touches; the other views it leaves as they are, by definition.
-- Assumes nothing.
use Prim.Native.Nat.{ℕ, ◌+◌, ◌-◌, ◌*◌, ◌≤◌}
use mathlib.Core.Bool.{Bool, true, false, cond, not, ◌&&◌, ◌||◌, or-false, and-true}
use mathlib.Core.Path.{◌≡◌, refl, sym, ap, ◌∙◌}
use mathlib.Core.Logic.{◌≢◌}
use mathlib.Core.List.{List}
use native.Mathlib.Omega.{arith}
use native.Mathlib.Decide.{ℕ_discrete}
use lib.Dec.{eqb, leb}
use lib.ListN.{length, get_or, set, length-set, length-map, get_or-eq_default, get_or-map}
use lib.Seq.{set_out, get_or-set_same, get_or-set_other}
use borrow.Author.Tests.{le-leb, leb-true, eq-eqb, ne_eqb}
use Rattle.sets.specs.Sets.{is_site, has, union, minus, without}
use Rattle.sets.proofs.SetLaws.{is_site_lem, site_is, has_none, has_union, has_minus, has_without, has_with}
use Rattle.sets.proofs.Truths.{and_l, and_r}
use Rattle.site.specs.declared.Site.{Site}
use Rattle.run.specs.declared.Run.{Run}
use Rattle.run.specs.Run.{no_site, site_at, has_row, place, receivers, outstanding, has_stopped, stopped_in, with_record, taken_out, sent_by, stopped_at}

-- a run has eight places for records and 72 for messages, and keeps them
pub record Shape (r : Run) : Type 0 where
  pub sites : length r.sites ≡ 8
  pub net : length r.net ≡ 72

shape_taken : (r : Run) (k from s : ℕ) → Shape r → Shape (taken_out r k from s)
unfolding taken_out
shape_taken r k from s h =
    record { sites = h.sites; net = length-set r.net (place k from) (without (receivers r.net k from) s) ∙ h.net }

shape_sent : (r : Run) (k s to : ℕ) → Shape r → Shape (sent_by r k s to)
unfolding sent_by
shape_sent r k s to h =
    record { sites = h.sites; net = length-set r.net (place k s) (union (receivers r.net k s) (minus to r.stopped)) ∙ h.net }

shape_record : (r : Run) (s : ℕ) (x : Site) → Shape r → Shape (with_record r s x)
shape_record r s x h = record { sites = length-set r.sites (s - 1) x ∙ h.sites; net = h.net }

pub shape_stopped : (r : Run) (s : ℕ) → Shape r → Shape (stopped_at r s)
unfolding stopped_at
shape_stopped r s h = record { sites = h.sites; net = length-map r.net (λ (m : ℕ). without m s) ∙ h.net }

-- ---- records

-- another record for site s is found at s, and nowhere else
pub record_same : (r : Run) (s : ℕ) (x : Site) → Shape r → 1 ≤ s → s ≤ 8 → site_at (with_record r s x) s ≡ x
record_same r s x h l m = get_or-set_same r.sites (s - 1) x no_site (omega (arith, h.sites))

pub record_other : (r : Run) (s i : ℕ) (x : Site) → 1 ≤ s → 1 ≤ i → i ≢ s → site_at (with_record r s x) i ≡ site_at r i
record_other r s i x l m d = get_or-set_other r.sites (s - 1) (i - 1) x no_site (λ e. d (omega arith))

-- ---- places of the network

-- a kind and a sender with a place of their own
abbrev pub is_place : ℕ → ℕ → Bool
is_place k s = has_row k && is_site s

pub record Place (k s : ℕ) : Type 0 where
  pub least : 1 ≤ k
  pub most : k ≤ 9
  pub first : 1 ≤ s
  pub last : s ≤ 8

pub place_parts : (k s : ℕ) → is_place k s ≡ true → Place k s
unfolding has_row
place_parts k s h =
    record {
      least = leb-true 1 k (and_l (leb 1 k) (leb k 9) (and_l (has_row k) (is_site s) h));
      most = leb-true k 9 (and_r (leb 1 k) (leb k 9) (and_l (has_row k) (is_site s) h));
      first = (is_site_lem s (and_r (has_row k) (is_site s) h)).least;
      last = (is_site_lem s (and_r (has_row k) (is_site s) h)).most;
    }

pub parts_place : (k s : ℕ) → Place k s → is_place k s ≡ true
unfolding has_row
parts_place k s p = simp (le-leb 1 k p.least, le-leb k 9 p.most, site_is s p.first p.last)

-- where they stand; any other stands past the end
pub place_is : (k s : ℕ) → is_place k s ≡ true → place k s ≡ 8 * (k - 1) + (s - 1)
unfolding place
place_is k s h = rw h refl

pub place_none : (k s : ℕ) → is_place k s ≡ false → place k s ≡ 72
unfolding place
place_none k s h = rw h refl

-- no two share a place
place_apart : (k s x y : ℕ) → is_place k s ≡ true → place x y ≡ place k s → (x ≡ k) × (y ≡ s)
place_apart k s x y h e = go (is_place x y) refl
  where
    go : (b : Bool) → is_place x y ≡ b → (x ≡ k) × (y ≡ s)
    go true g =
        let p : Place k s = place_parts k s h in
        let q : Place x y = place_parts x y g in
        let d : 8 * (x - 1) + (y - 1) ≡ 8 * (k - 1) + (s - 1) = sym (place_is x y g) ∙ e ∙ place_is k s h in
        (omega arith, omega arith)
    go false g =
        let p : Place k s = place_parts k s h in
        let d : 72 ≡ 8 * (k - 1) + (s - 1) = sym (place_none x y g) ∙ e ∙ place_is k s h in
        absurd (omega arith)

-- nothing stands past the end
pub none_past : (net : List ℕ) (k s : ℕ) → length net ≡ 72 → is_place k s ≡ false → receivers net k s ≡ 0
none_past net k s l h = ap (λ (p : ℕ). get_or net p 0) (place_none k s h) ∙ get_or-eq_default net 0 (omega arith)

-- another set of receivers is found at its kind and sender, and nowhere else
pub entry : (net : List ℕ) (k s v x y : ℕ) → length net ≡ 72
    → receivers (set net (place k s) v) x y ≡ cond (is_place k s && (eqb x k && eqb y s)) v (receivers net x y)
entry net k s v x y l = go (is_place k s) refl
  where
    other : is_place k s ≡ true → ((x ≡ k) × (y ≡ s) → ⊥) → receivers (set net (place k s) v) x y ≡ receivers net x y
    other h d = get_or-set_other net (place k s) (place x y) v 0 (λ e. d (place_apart k s x y h e))

    at : is_place k s ≡ true → Dec (x ≡ k) → Dec (y ≡ s) → receivers (set net (place k s) v) x y ≡ cond (eqb x k && eqb y s) v (receivers net x y)
    at h (yes e) (yes f) =
        let p : Place k s = place_parts k s h in
        rw (eq-eqb x k e, eq-eqb y s f, e, f) (get_or-set_same net (place k s) v 0 (omega (arith, place_is k s h)))
    at h (yes e) (no f) = rw (ne_eqb y s f) (other h (λ p. f p.1) ∙ sym (go (eqb x k)))
      where
        go : (b : Bool) → cond (b && false) v (receivers net x y) ≡ receivers net x y
        go true = refl
        go false = refl
    at h (no e) f = rw (ne_eqb x k e) (other h (λ p. e p.0))

    go : (b : Bool) → is_place k s ≡ b → receivers (set net (place k s) v) x y ≡ cond (b && (eqb x k && eqb y s)) v (receivers net x y)
    go true h = at h (ℕ_discrete x k) (ℕ_discrete y s)
    go false h = ap (λ (m : List ℕ). receivers m x y) (set_out net (place k s) v (omega (arith, place_none k s h)))

-- ---- messages

-- a message taken out is gone, and no other is
pub out_taken : (r : Run) (k from s x y z : ℕ) → Shape r
    → outstanding (taken_out r k from s) x y z ≡ (outstanding r x y z && not (eqb x k && eqb y from && eqb z s))
unfolding outstanding taken_out
out_taken r k from s x y z h =
    ap (λ (m : ℕ). has m z) (entry r.net k from (without (receivers r.net k from) s) x y h.net)
    ∙ go (is_place k from) (ℕ_discrete x k) (ℕ_discrete y from) refl
  where
    was : ℕ
    was = receivers r.net x y

    here : x ≡ k → y ≡ from → has (without (receivers r.net k from) s) z ≡ (has was z && not (eqb z s))
    here e f = rw (e, f) (has_without (receivers r.net k from) s z)

    gone : x ≡ k → y ≡ from → is_place k from ≡ false → has was z ≡ (has was z && not (eqb z s))
    gone e f n =
        let w : has was z ≡ false = ap (λ (m : ℕ). has m z) (none_past r.net x y h.net (rw (e, f) n)) ∙ has_none z in
        rw w refl

    go : (b : Bool) → Dec (x ≡ k) → Dec (y ≡ from) → is_place k from ≡ b
        → has (cond (b && (eqb x k && eqb y from)) (without (receivers r.net k from) s) was) z ≡ (has was z && not (eqb x k && eqb y from && eqb z s))
    go true (yes e) (yes f) p = rw (eq-eqb x k e, eq-eqb y from f) (here e f)
    go true (yes e) (no f) p = rw (eq-eqb x k e, ne_eqb y from f) (sym (and-true (has was z)))
    go true (no e) f p = rw (ne_eqb x k e) (sym (and-true (has was z)))
    go false (yes e) (yes f) p = rw (eq-eqb x k e, eq-eqb y from f) (gone e f p)
    go false (yes e) (no f) p = rw (eq-eqb x k e, ne_eqb y from f) (sym (and-true (has was z)))
    go false (no e) f p = rw (ne_eqb x k e) (sym (and-true (has was z)))

-- a message written to a site that runs is there, and no other comes
pub out_sent : (r : Run) (k s to x y z : ℕ) → Shape r
    → outstanding (sent_by r k s to) x y z ≡ (outstanding r x y z || is_place k s && (eqb x k && eqb y s) && (has to z && not (has_stopped r z)))
unfolding outstanding sent_by has_stopped
out_sent r k s to x y z h =
    ap (λ (m : ℕ). has m z) (entry r.net k s (union (receivers r.net k s) (minus to r.stopped)) x y h.net)
    ∙ go (is_place k s) (ℕ_discrete x k) (ℕ_discrete y s)
  where
    was : ℕ
    was = receivers r.net x y

    new : Bool
    new = has to z && not (has r.stopped z)

    here : x ≡ k → y ≡ s → has (union (receivers r.net k s) (minus to r.stopped)) z ≡ (has was z || new)
    here e f =
        rw (e, f)
        (has_union (receivers r.net k s) (minus to r.stopped) z ∙ ap (λ (b : Bool). has (receivers r.net k s) z || b) (has_minus to r.stopped z))

    go : (b : Bool) → Dec (x ≡ k) → Dec (y ≡ s)
        → has (cond (b && (eqb x k && eqb y s)) (union (receivers r.net k s) (minus to r.stopped)) was) z ≡ (has was z || b && (eqb x k && eqb y s) && new)
    go true (yes e) (yes f) = rw (eq-eqb x k e, eq-eqb y s f) (here e f)
    go true (yes e) (no f) = rw (eq-eqb x k e, ne_eqb y s f) (sym (or-false (has was z)))
    go true (no e) f = rw (ne_eqb x k e) (sym (or-false (has was z)))
    go false e f = sym (or-false (has was z))

none_without : (s : ℕ) → without 0 s ≡ 0
unfolding without minus
none_without s = refl

-- a stop takes the site out of every set of receivers
pub entry_stopped : (net : List ℕ) (s p : ℕ) → get_or (stopped_in net s) p 0 ≡ without (get_or net p 0) s
entry_stopped net s p = ap (get_or (stopped_in net s) p) (sym (none_without s)) ∙ get_or-map (λ (m : ℕ). without m s) net p 0

-- so it takes out what is addressed to the site, and nothing else
pub out_stopped : (r : Run) (s x y z : ℕ) → outstanding (stopped_at r s) x y z ≡ (outstanding r x y z && not (eqb z s))
unfolding outstanding stopped_at
out_stopped r s x y z = ap (λ (m : ℕ). has m z) (entry_stopped r.net s (place x y)) ∙ has_without (receivers r.net x y) s z

-- ---- stopped sites

-- a stop adds the site to the stopped ones, and no other
pub stopped_more : (r : Run) (s i : ℕ) → has_stopped (stopped_at r s) i ≡ (has_stopped r i || is_site i && eqb i s)
unfolding has_stopped stopped_at
stopped_more r s i = has_with r.stopped s i
