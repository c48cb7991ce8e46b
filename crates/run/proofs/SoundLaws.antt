-- The test of a run's soundness is its meaning: what the test gives, and what gives the test.
-- Assumes nothing.
use Prim.Native.Nat.{ℕ, zero, suc, ◌+◌, ◌-◌, ◌*◌, ◌/◌, ◌%◌, ◌^◌, ◌≤◌, ◌<◌}
use mathlib.Core.Bool.{Bool, true, false, cond, not, ◌&&◌, ◌||◌}
use mathlib.Core.Path.{◌≡◌, refl, sym, ap, subst, ◌∙◌}
use mathlib.Core.Logic.{◌≢◌, ◌⊎◌, inl, inr}
use native.Mathlib.Omega.{arith}
use native.Mathlib.Decide.{ℕ_discrete}
use lib.Dec.{eqb, leb, ltb}
use lib.ListN.{get_or}
use borrow.Author.Tests.{lt-ltb, ltb-true, le-leb, lt-leb, leb-true, leb-false, eq-eqb, ne_eqb, eqb-true, eqb-false}
use Rattle.sets.specs.Sets.{is_site, has, weight_of, minus, subset, all_of, others_of, below_of}
use Rattle.sets.proofs.SetLaws.{is_site_lem, site_is, has_site, has_none, has_weight, has_minus, has_all, has_others, has_below, subset_has, subset_of}
use Rattle.sets.proofs.Truths.{and_l, and_r, and_i, not_e, clash, either}
use Rattle.site.specs.Site.{sound_of, is_order}
use Rattle.site.proofs.SiteFacts.{Ends}
use Rattle.site.proofs.SiteFacts.Ends.{start, yes as ends_yes, no as ends_no, move_p, move_w, ack, commit, abort}
use Rattle.site.proofs.SiteSteps.{ends_parts, parts_ends}
use Rattle.run.specs.declared.Run.{Run}
use Rattle.run.specs.Run.{site_at, place, receivers, outstanding, has_stopped}
use Rattle.run.specs.Sound.{SoundPlace, SoundMessage, Sound, every, sound_place, may_reach, sound_entry, sound_run}
use Rattle.run.proofs.Views.{Shape, is_place, Place, place_parts, parts_place, place_is, none_past}

-- ---- every number below n

pub every_at : (n : ℕ) (f : ℕ → Bool) → every n f ≡ true → (i : ℕ) → i < n → f i ≡ true
every_at zero f e i h = absurd (omega arith)
every_at (suc n) f e i h = go (every_at n f (and_l (every n f) (f n) e) i) (ℕ_discrete i n)
  where
    go : (i < n → f i ≡ true) → Dec (i ≡ n) → f i ≡ true
    go r (yes d) = rw d (and_r (every n f) (f n) e)
    go r (no d) = r (omega arith)

pub every_all : (n : ℕ) (f : ℕ → Bool) → ((i : ℕ) → i < n → f i ≡ true) → every n f ≡ true
every_all zero f h = refl
every_all (suc n) f h = and_i (every n f) (f n) (every_all n f (λ i l. h i (omega arith))) (h n (omega arith))

-- what a chain that ends in `all` returned is the test of every number below n
pub every_iff : (f : ℕ → Bool) (n : ℕ) (r : Bool) → (r ≡ true → (i : ℕ) → i < n → f i ≡ true) → (r ≡ false → (i : ℕ) × (i < n) × (f i ≡ false)) → r ≡ every n f
every_iff f n true t e = sym (every_all n f (t refl))
every_iff f n false t e = go (every n f) refl (e refl)
  where
    go : (b : Bool) → every n f ≡ b → (i : ℕ) × (i < n) × (f i ≡ false) → false ≡ b
    go true q h = absurd (clash (every_at n f q h.0 h.1) h.2)
    go false q h = refl

-- ---- the sites that a message may reach

-- a receiver of 1 to n, right for the kind and the sender
pub record Reach (n k s j : ℕ) : Type 0 where
  pub from : s ≤ n
  pub first : 1 ≤ j
  pub last : j ≤ n
  pub ends : Ends k s j

module _ (n k s j : ℕ) where
  nobody_here : has 0 j ≡ true → Reach n k s j
  nobody_here h = absurd (clash h (has_none j))

  starts : (b : Bool) → eqb s 1 ≡ b → s ≤ n → k ≡ 1 → has (cond b (others_of n 1) 0) j ≡ true → Reach n k s j
  starts true e l q h =
      let o : (is_site j && leb j n && not (eqb j 1)) ≡ true = sym (has_others n 1 j) ∙ h in
      let i : (is_site j && leb j n) ≡ true = and_l (is_site j && leb j n) (not (eqb j 1)) o in
      let f : 1 ≤ j = (is_site_lem j (and_l (is_site j) (leb j n) i)).least in
      let d : j ≢ 1 = eqb-false j 1 (not_e (eqb j 1) (and_r (is_site j && leb j n) (not (eqb j 1)) o)) in
      record { from = l; first = f; last = leb-true j n (and_r (is_site j) (leb j n) i); ends = rw (q, eqb-true s 1 e) (start {to = j} (omega arith)) }
  starts false e l q h = nobody_here h

  votes : (b : Bool) → ltb 1 s ≡ b → s ≤ n → (1 < s → Ends k s 1) → has (cond b (weight_of 1) 0) j ≡ true → Reach n k s j
  votes true e l q h =
      let o : j ≡ 1 = eqb-true j 1 (and_r (is_site j) (eqb j 1) (sym (has_weight 1 j) ∙ h)) in
      let u : 1 < s = ltb-true 1 s e in
      record { from = l; first = omega arith; last = omega arith; ends = rw o (q u) }
  votes false e l q h = nobody_here h

  acks : s ≤ n → k ≡ 6 → has (below_of s) j ≡ true → Reach n k s j
  acks l q h =
      let o : (is_site j && ltb j s) ≡ true = sym (has_below s j) ∙ h in
      let f : 1 ≤ j = (is_site_lem j (and_l (is_site j) (ltb j s) o)).least in
      let u : j < s = ltb-true j s (and_r (is_site j) (ltb j s) o) in
      record { from = l; first = f; last = omega arith; ends = rw q (ack u) }

  orders : s ≤ n → (s < j → Ends k s j) → has (minus (all_of n) (all_of s)) j ≡ true → Reach n k s j
  orders l q h =
      let o : (has (all_of n) j && not (has (all_of s) j)) ≡ true = sym (has_minus (all_of n) (all_of s) j) ∙ h in
      let i : (is_site j && leb j n) ≡ true = sym (has_all n j) ∙ and_l (has (all_of n) j) (not (has (all_of s) j)) o in
      let x : is_site j ≡ true = and_l (is_site j) (leb j n) i in
      let d : has (all_of s) j ≡ false = not_e (has (all_of s) j) (and_r (has (all_of n) j) (not (has (all_of s) j)) o) in
      record {
        from = l;
        first = (is_site_lem j x).least;
        last = leb-true j n (and_r (is_site j) (leb j n) i);
        ends = q (leb-false j s (rw x at (sym (has_all s j) ∙ d)));
      }

  -- the members of may_reach are the right receivers
  pub reach_parts : has (may_reach n k s) j ≡ true → Reach n k s j
  unfolding may_reach
  reach_parts h = go (leb s n) refl h
    where
      order : s ≤ n → (w x y z : Bool) → eqb k 4 ≡ w → eqb k 5 ≡ x → eqb k 7 ≡ y → eqb k 8 ≡ z
          → has (cond (w || x || y || z) (minus (all_of n) (all_of s)) 0) j ≡ true → Reach n k s j
      order l true x y z p q u v h = orders l (λ c. rw (eqb-true k 4 p) (move_p c)) h
      order l false true y z p q u v h = orders l (λ c. rw (eqb-true k 5 q) (move_w c)) h
      order l false false true z p q u v h = orders l (λ c. rw (eqb-true k 7 u) (commit c)) h
      order l false false false true p q u v h = orders l (λ c. rw (eqb-true k 8 v) (abort c)) h
      order l false false false false p q u v h = nobody_here h

      kind : s ≤ n → (w x y z : Bool) → eqb k 1 ≡ w → eqb k 2 ≡ x → eqb k 3 ≡ y → eqb k 6 ≡ z
          → has (cond w (cond (eqb s 1) (others_of n 1) 0) (cond (x || y) (cond (ltb 1 s) (weight_of 1) 0) (cond z (below_of s) (cond (is_order k) (minus (all_of n) (all_of s)) 0)))) j ≡ true
          → Reach n k s j
      kind l true x y z p q u v h = starts (eqb s 1) refl l (eqb-true k 1 p) h
      kind l false true y z p q u v h = votes (ltb 1 s) refl l (λ c. rw (eqb-true k 2 q) (ends_yes c)) h
      kind l false false true z p q u v h = votes (ltb 1 s) refl l (λ c. rw (eqb-true k 3 u) (ends_no c)) h
      kind l false false false true p q u v h = acks l (eqb-true k 6 v) h
      kind l false false false false p q u v h = order l (eqb k 4) (eqb k 5) (eqb k 7) (eqb k 8) refl refl refl refl h

      go : (b : Bool) → leb s n ≡ b
          → has (cond b (cond (eqb k 1) (cond (eqb s 1) (others_of n 1) 0) (cond (eqb k 2 || eqb k 3) (cond (ltb 1 s) (weight_of 1) 0) (cond (eqb k 6) (below_of s) (cond (is_order k) (minus (all_of n) (all_of s)) 0)))) 0) j ≡ true
          → Reach n k s j
      go true e h = kind (leb-true s n e) (eqb k 1) (eqb k 2) (eqb k 3) (eqb k 6) refl refl refl refl h
      go false e h = nobody_here h

upper : (n s j : ℕ) → is_site j ≡ true → j ≤ n → s < j → has (minus (all_of n) (all_of s)) j ≡ true
upper n s j i m x = has_minus (all_of n) (all_of s) j ∙ simp (has_all n j, has_all s j, i, le-leb j n m, lt-leb j s x)

-- and the right receivers are members
pub parts_reach : {n k s j : ℕ} → is_site j ≡ true → s ≤ n → j ≤ n → Ends k s j → has (may_reach n k s) j ≡ true
unfolding may_reach is_site
parts_reach {n} {j = j} i l m (start x) = simp (le-leb 1 n l) (has_others n 1 j ∙ simp (i, le-leb j n m, ne_eqb j 1 (omega arith)))
parts_reach {n} i l m (ends_yes {from = s} x) = simp (le-leb s n l, lt-ltb 1 s x) (has_weight 1 1)
parts_reach {n} i l m (ends_no {from = s} x) = simp (le-leb s n l, lt-ltb 1 s x) (has_weight 1 1)
parts_reach {n} i l m (move_p {from = s} {to = j} x) = simp (le-leb s n l) (upper n s j i m x)
parts_reach {n} i l m (move_w {from = s} {to = j} x) = simp (le-leb s n l) (upper n s j i m x)
parts_reach {n} i l m (ack {from = s} {to = j} x) = simp (le-leb s n l) (has_below s j ∙ simp (i, lt-ltb j s x))
parts_reach {n} i l m (commit {from = s} {to = j} x) = simp (le-leb s n l) (upper n s j i m x)
parts_reach {n} i l m (abort {from = s} {to = j} x) = simp (le-leb s n l) (upper n s j i m x)

-- ---- a run

four : (a b c d : Bool) → (a && b && c && d) ≡ true → (a ≡ true) × (b ≡ true) × (c ≡ true) × (d ≡ true)
four a b c d h =
    let abc = and_l (a && b && c) d h in
    let ab = and_l (a && b) c abc in
    (and_l a b ab, and_r a b ab, and_r (a && b) c abc, and_r (a && b && c) d h)

place_sound : (r : Run) (i : ℕ) → sound_place r i ≡ true → SoundPlace r i
unfolding sound_place
place_sound r i h =
    let p = four (sound_of (site_at r i)) (eqb (site_at r i).n r.n) (eqb (site_at r i).number i) (subset (site_at r i).known r.stopped) h in
    record { sound = p.0; sites = eqb-true (site_at r i).n r.n p.1; number = eqb-true (site_at r i).number i p.2; known = p.3 }

sound_place_lem : (r : Run) (i : ℕ) → SoundPlace r i → sound_place r i ≡ true
unfolding sound_place
sound_place_lem r i p = simp (p.sound, eq-eqb (site_at r i).n r.n p.sites, eq-eqb (site_at r i).number i p.number, p.known)

messages_sound : (r : Run) → Shape r → every 72 (sound_entry r) ≡ true → (k s j : ℕ) → outstanding r k s j ≡ true → SoundMessage r k s j
unfolding outstanding sound_entry has_stopped
messages_sound r g e k s j h = go (either (is_place k s))
  where
    go : is_place k s ≡ true ⊎ is_place k s ≡ false → SoundMessage r k s j
    go (inr n) = absurd (clash h (ap (λ (m : ℕ). has m j) (none_past r.net k s g.net n) ∙ has_none j))
    go (inl p) =
        let q : Place k s = place_parts k s p in
        let u : place k s ≡ 8 * (k - 1) + (s - 1) = place_is k s p in
        let a : place k s / 8 + 1 ≡ k = omega arith in
        let b : place k s % 8 + 1 ≡ s = omega arith in
        let x : subset (receivers r.net k s) (minus (may_reach r.n k s) r.stopped) ≡ true = rw (a, b) at (every_at 72 (sound_entry r) e (place k s) (omega arith)) in
        let y : (has (may_reach r.n k s) j && not (has r.stopped j)) ≡ true =
        sym (has_minus (may_reach r.n k s) r.stopped j) ∙ subset_has (receivers r.net k s) (minus (may_reach r.n k s) r.stopped) j x h in
        let z : Reach r.n k s j = reach_parts r.n k s j (and_l (has (may_reach r.n k s) j) (not (has r.stopped j)) y) in
        record { from = z.from; to = z.last; ends = parts_ends z.ends; runs = not_e (has r.stopped j) (and_r (has (may_reach r.n k s) j) (not (has r.stopped j)) y) }

-- the test of a run, part by part
record Tests (r : Run) : Type 0 where
  least : 2 ≤ r.n
  most : r.n ≤ 8
  stopped : subset r.stopped (all_of r.n) ≡ true
  places : every r.n (λ (i : ℕ). sound_place r (i + 1)) ≡ true
  net : every 72 (sound_entry r) ≡ true

tests : (r : Run) → sound_run r ≡ true → Tests r
unfolding sound_run
tests r h =
    record { least = leb-true 2 r.n p.0; most = leb-true r.n 8 p.1; stopped = p.2; places = p.3; net = and_r x y h }
  where
    x : Bool
    x = leb 2 r.n && leb r.n 8 && subset r.stopped (all_of r.n) && every r.n (λ (i : ℕ). sound_place r (i + 1))

    y : Bool
    y = every 72 (sound_entry r)

    p : (leb 2 r.n ≡ true) × (leb r.n 8 ≡ true) × (subset r.stopped (all_of r.n) ≡ true) × (every r.n (λ (i : ℕ). sound_place r (i + 1)) ≡ true)
    p = four (leb 2 r.n) (leb r.n 8) (subset r.stopped (all_of r.n)) (every r.n (λ (i : ℕ). sound_place r (i + 1))) (and_l x y h)

-- a run that passes the test has at most eight sites
pub n_most : (r : Run) → sound_run r ≡ true → r.n ≤ 8
n_most r h = (tests r h).most

-- and is sound
pub sound_parts : (r : Run) → Shape r → sound_run r ≡ true → Sound r
sound_parts r g h =
    record {
      least = t.least;
      most = t.most;
      stopped = t.stopped;
      places = λ i l m. place_sound r i (subst (λ (x : ℕ). sound_place r x ≡ true) (omega arith) (every_at r.n (λ (x : ℕ). sound_place r (x + 1)) t.places (i - 1) (omega arith)));
      messages = messages_sound r g t.net;
    }
  where
    t : Tests r
    t = tests r h

-- the network of a run holds bytes
pub record Bytes (r : Run) : Type 0 where
  pub shape : Shape r
  pub net : (p : ℕ) → get_or r.net p 0 < 2 ^ 8

entry_sound : (r : Run) → Bytes r → Sound r → (p : ℕ) → p < 72 → sound_entry r p ≡ true
unfolding sound_entry outstanding has_stopped
entry_sound r b g p l = subset_of (get_or r.net p 0) (minus (may_reach r.n (p / 8 + 1) (p % 8 + 1)) r.stopped) (b.net p) member
  where
    at : place (p / 8 + 1) (p % 8 + 1) ≡ p
    at = place_is (p / 8 + 1) (p % 8 + 1) (parts_place (p / 8 + 1) (p % 8 + 1) (record { least = omega arith; most = omega arith; first = omega arith; last = omega arith })) ∙ omega arith

    member : (j : ℕ) → has (get_or r.net p 0) j ≡ true → has (minus (may_reach r.n (p / 8 + 1) (p % 8 + 1)) r.stopped) j ≡ true
    member j h =
        let m : SoundMessage r (p / 8 + 1) (p % 8 + 1) j = g.messages (p / 8 + 1) (p % 8 + 1) j (subst (λ (q : ℕ). has (get_or r.net q 0) j ≡ true) (sym at) h) in
        let i : is_site j ≡ true = site_is j (has_site (get_or r.net p 0) j h).least (has_site (get_or r.net p 0) j h).most in
        has_minus (may_reach r.n (p / 8 + 1) (p % 8 + 1)) r.stopped j
        ∙ simp (parts_reach i m.from m.to (ends_parts (p / 8 + 1) (p % 8 + 1) j m.ends), m.runs)

-- a sound run passes the test
pub parts_sound : (r : Run) → Bytes r → Sound r → sound_run r ≡ true
unfolding sound_run
parts_sound r b g =
    simp (le-leb 2 r.n g.least, le-leb r.n 8 g.most, g.stopped, places) (every_all 72 (sound_entry r) (entry_sound r b g))
  where
    places : every r.n (λ (i : ℕ). sound_place r (i + 1)) ≡ true
    places = every_all r.n (λ (i : ℕ). sound_place r (i + 1)) (λ i l. sound_place_lem r (i + 1) (g.places (i + 1) (omega arith) (omega arith)))
