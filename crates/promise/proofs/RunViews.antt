-- A run through its parts: site records, running sites, outstanding messages, and how each change of a run changes them.
-- Assumes nothing.
use Prim.Native.Nat.{ℕ, zero, suc, ◌-◌, ◌≤◌}
use mathlib.Core.Bool.{Bool, true, false, cond, ◌&&◌}
use mathlib.Core.List.{List}
use mathlib.Core.Path.{◌≡◌, refl, sym, ap, subst, ◌∙◌}
use mathlib.Core.Logic.{◌≢◌, ◌⊎◌, inl, inr, ⊎_elim}
use native.Mathlib.Decide.{ℕ_discrete}
use native.Mathlib.Omega.{arith}
use lib.Dec.{eqb}
use lib.ListN.{length, get_or, set}
use lib.Seq.{get_or-set_same, get_or-set_other}
use borrow.Author.Tests.{eqb-true, eq-eqb}
use Rattle.sets.specs.Sets.{has, union, without}
use Rattle.site.specs.declared.Site.{Site as Record}
use Rattle.run.specs.declared.Run.{Run}
use Rattle.run.proofs.Views.{Place, is_place, place_parts, parts_place, none_past, entry, entry_stopped}
use Rattle.run.specs.Sound.{Sound}
use Rattle.run.specs.Run.{no_site, site_at, place, receivers, taken_in, sent_in, stopped_in}
use Rattle.sets.proofs.Truths.{and_l, and_r}
use Rattle.promise.proofs.SetsMembers.{In, in_none, union_in, in_left, in_right, without_in, without_out, in_without}

-- Site i's record; site 0 is none.
abbrev pub record_in : List Record → ℕ → Record
record_in l zero = no_site
record_in l (suc i) = get_or l i no_site

pub record_at : (r : Run) (i : ℕ) → 1 ≤ i → record_in r.sites i ≡ site_at r i
record_at r zero h = absurd (omega arith)
record_at r (suc i) h = ap (λ (k : ℕ). get_or r.sites k no_site) (omega arith)

-- After one record is replaced, that site has the new one and the others have theirs.
module _ (l : List Record) (j : ℕ) (x : Record) where
  pub replaced : 1 ≤ j → j ≤ length l → record_in (set l (j - 1) x) j ≡ x
  replaced p q = go j p q
    where
      go : (j : ℕ) → 1 ≤ j → j ≤ length l → record_in (set l (j - 1) x) j ≡ x
      go zero p q = absurd (omega arith)
      go (suc i) p q = rw e (get_or-set_same l i x no_site (omega arith))
        where
          e : suc i - 1 ≡ i
          e = omega arith

  pub others : 1 ≤ j → (i : ℕ) → i ≢ j → record_in (set l (j - 1) x) i ≡ record_in l i
  others p zero ne = refl
  others p (suc i) ne = get_or-set_other l (j - 1) i x no_site (λ e. ne (omega arith))

-- Site i is one of the run's and has not stopped.
pub record Runs (r : Run) (i : ℕ) : Type 0 where
  pub least : 1 ≤ i
  pub most : i ≤ r.n
  pub up : has r.stopped i ≡ false

-- The record of a running site of a sound run has the site's number and the run's; it is where the invariant looks for it.
pub record Placed (r : Run) (i : ℕ) : Type 0 where
  pub here : record_in r.sites i ≡ site_at r i
  pub st_is : (record_in r.sites i).state ≡ (site_at r i).state
  pub ld_is : (record_in r.sites i).leader ≡ (site_at r i).leader
  pub mine : (site_at r i).number ≡ i
  pub size : (site_at r i).n ≡ r.n

pub placed : {r : Run} {i : ℕ} → Sound r → Runs r i → Placed r i
placed {r} {i} g x =
    record {
      here = record_at r i x.least;
      st_is = ap (λ (a : Record). a.state) (record_at r i x.least);
      ld_is = ap (λ (a : Record). a.leader) (record_at r i x.least);
      mine = (g.places i x.least x.most).number;
      size = (g.places i x.least x.most).sites;
    }

-- A message of kind K from k to i is outstanding.
abbrev pub Out : List ℕ → ℕ → ℕ → ℕ → Type 0
Out net K k i = In (receivers net K k) i

-- One entry of the network is replaced by m.
module _ (net : List ℕ) (K s m : ℕ) (len : length net ≡ 72) (K' s' i : ℕ) where
  -- it is the one looked for
  abbrev this : Bool
  this = is_place K s && (eqb K' K && eqb s' s)

  same : this ≡ true → (K ≡ K') × (s ≡ s')
  same e =
      let f : (eqb K' K && eqb s' s) ≡ true = and_r (is_place K s) (eqb K' K && eqb s' s) e in
      (sym (eqb-true K' K (and_l (eqb K' K) (eqb s' s) f)), sym (eqb-true s' s (and_r (eqb K' K) (eqb s' s) f)))

  pub entry_cases : Out (set net (place K s) m) K' s' i → Out net K' s' i ⊎ ((K ≡ K') × (s ≡ s') × In m i)
  entry_cases x = go this refl (subst (λ (y : ℕ). In y i) (entry net K s m K' s' len) x)
    where
      go : (b : Bool) → this ≡ b → In (cond b m (receivers net K' s')) i → Out net K' s' i ⊎ ((K ≡ K') × (s ≡ s') × In m i)
      go true e y = inr ((same e).0, (same e).1, y)
      go false e y = inl y

  pub entry_kept : Out net K' s' i → (K ≡ K' → s ≡ s' → In (receivers net K s) i → In m i) → Out (set net (place K s) m) K' s' i
  entry_kept x f = subst (λ (y : ℕ). In y i) (sym (entry net K s m K' s' len)) (go this refl)
    where
      go : (b : Bool) → this ≡ b → In (cond b m (receivers net K' s')) i
      go true e = f (same e).0 (same e).1 (rw ((same e).0, (same e).1) x)
      go false e = x

pub entry_same : (net : List ℕ) (K s m : ℕ) → length net ≡ 72 → Place K s → receivers (set net (place K s) m) K s ≡ m
entry_same net K s m len p = entry net K s m K s len ∙ simp (parts_place K s p, eq-eqb K K refl, eq-eqb s s refl)

-- What is outstanding has a place.
pub out_placed : (net : List ℕ) → length net ≡ 72 → (K k i : ℕ) → Out net K k i → Place K k
out_placed net len K k i x = go (is_place K k) refl
  where
    go : (b : Bool) → is_place K k ≡ b → Place K k
    go true e = place_parts K k e
    go false e = absurd (in_none i (rw (none_past net K k len e) at x))

-- The network after messages of kind K from s were written to the sites of m, after the message of kind K from k to j was taken out, after j stopped.
module _ (net : List ℕ) (K s m : ℕ) (len : length net ≡ 72) where
  pub sent_cases : (K' k i : ℕ) → Out (sent_in net K s m) K' k i → Out net K' k i ⊎ ((K ≡ K') × (s ≡ k) × In m i)
  sent_cases K' k i x =
      ⊎_elim (λ y. inl y) (λ y. ⊎_elim (λ z. inl (rw (← y.0, ← y.1) z)) (λ z. inr (y.0, y.1, z)) (union_in (receivers net K s) m i y.2))
      (entry_cases net K s (union (receivers net K s) m) len K' k i x)

  pub sent_old : (K' k i : ℕ) → Out net K' k i → Out (sent_in net K s m) K' k i
  sent_old K' k i x = entry_kept net K s (union (receivers net K s) m) len K' k i x (λ _ _. in_left (receivers net K s) m i)

  pub sent_new : Place K s → (i : ℕ) → In m i → Out (sent_in net K s m) K s i
  sent_new h i x = rw (entry_same net K s (union (receivers net K s) m) len h) (in_right (receivers net K s) m i x)

module _ (net : List ℕ) (K k j : ℕ) (len : length net ≡ 72) where
  pub taken_less : (K' k' i : ℕ) → Out (taken_in net K k j) K' k' i → Out net K' k' i
  taken_less K' k' i x =
      ⊎_elim (λ y. y) (λ y. rw (← y.0, ← y.1) (without_in (receivers net K k) j i y.2)) (entry_cases net K k (without (receivers net K k) j) len K' k' i x)

  pub taken_old : (K' k' i : ℕ) → Out net K' k' i → Out (taken_in net K k j) K' k' i ⊎ ((K ≡ K') × (k ≡ k') × (i ≡ j))
  taken_old K' k' i x = go (ℕ_discrete K K') (ℕ_discrete k k') (ℕ_discrete i j)
    where
      stays : (K ≡ K' → k ≡ k' → i ≢ j) → Out (taken_in net K k j) K' k' i
      stays n = entry_kept net K k (without (receivers net K k) j) len K' k' i x (λ e f y. in_without (receivers net K k) j i y (n e f))

      go : Dec (K ≡ K') → Dec (k ≡ k') → Dec (i ≡ j) → Out (taken_in net K k j) K' k' i ⊎ ((K ≡ K') × (k ≡ k') × (i ≡ j))
      go (yes e) (yes f) (yes d) = inr (e, f, d)
      go (no n) d d' = inl (stays (λ e. absurd (n e)))
      go (yes e) (no n) d' = inl (stays (λ _ f. absurd (n f)))
      go (yes e) (yes f) (no n) = inl (stays (λ _ _. n))

  pub taken_gone : Out (taken_in net K k j) K k j → ⊥
  taken_gone x =
      let p : Place K k = out_placed net len K k j (taken_less K k j x) in
      without_out (receivers net K k) j j (rw (entry_same net K k (without (receivers net K k) j) len p) at x) refl

module _ (net : List ℕ) (j : ℕ) where
  pub stopped_less : (K k i : ℕ) → Out (stopped_in net j) K k i → Out net K k i
  stopped_less K k i x = without_in (receivers net K k) j i (rw (entry_stopped net j (place K k)) at x)

  pub stopped_old : (K k i : ℕ) → Out net K k i → i ≢ j → Out (stopped_in net j) K k i
  stopped_old K k i x ne = rw (entry_stopped net j (place K k)) (in_without (receivers net K k) j i x ne)
