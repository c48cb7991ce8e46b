-- The number that every accepted event lowers: outstanding messages by their weight, what each running site may still do, and one for each pair
-- of sites of which both run, or one runs and does not know that the other stopped.
-- Assumes nothing.
use Prim.Native.Nat.{ℕ, suc, ◌+◌, ◌-◌, ◌*◌, ◌/◌, ◌^◌, ◌≤◌, ◌<◌}
use mathlib.Core.Bool.{Bool, true, false, cond, not, false≢true}
use mathlib.Core.List.{List}
use mathlib.Core.Path.{◌≡◌, refl, ap, subst}
use mathlib.Core.Logic.{◌≢◌}
use native.Mathlib.Decide.{ℕ_discrete, dec_lt}
use native.Mathlib.Omega.{arith}
use lib.Dec.{ltb}
use lib.ListN.{length, get_or, set}
use lib.Seq.{get_or-set_same, get_or-set_other, set_out}
use borrow.Author.Tests.{lt-ltb}
use Rattle.sets.specs.Sets.{bit, is_site, has, union, without}
use Rattle.sets.proofs.SetLaws.{has_site, one_if, members}
use Rattle.site.specs.declared.Site.{Site as Record}
use Rattle.run.specs.declared.Run.{Run}
use Rattle.run.specs.Run.{place, receivers, fresh_run, sent_in, taken_in, stopped_in}
use Rattle.run.proofs.Views.{Place, is_place, place_parts, parts_place, place_is, place_none, entry_stopped}
use Rattle.sets.proofs.Truths.{clash, fails}
use Rattle.promise.proofs.SetsMembers.{In, without_in}
use Rattle.promise.proofs.RunViews.{record_in, Out, out_placed}
use Rattle.promise.proofs.Count.{by_size, sum, sum_le, sum_lt, sum_at, members_union, members_le, members_without}
use Rattle.promise.proofs.Brings.{heavy, weigh}
use Rattle.promise.proofs.Classes.{Central}
use Rattle.promise.proofs.Measure.{firstly, own}

-- ---- messages

abbrev weigh_at : List ℕ → ℕ → ℕ
weigh_at net p = weigh (p / 8 + 1) * members (get_or net p 0) 8

pub messages : List ℕ → ℕ
messages net = sum 72 (weigh_at net)

scale : (b : Bool) (x y z : ℕ) → x ≤ y + z → cond b 2 1 * x ≤ cond b 2 1 * y + cond b 2 1 * z
scale true x y z h = omega arith
scale false x y z h = omega arith

scale_one : (b : Bool) (x y : ℕ) → x + 1 ≤ y → cond b 2 1 * x + cond b 2 1 ≤ cond b 2 1 * y
scale_one true x y h = omega arith
scale_one false x y h = omega arith

scale_le : (b : Bool) (x y : ℕ) → x ≤ y → cond b 2 1 * x ≤ cond b 2 1 * y
scale_le true x y h = omega arith
scale_le false x y h = omega arith

module _ (net : List ℕ) (len : length net ≡ 72) (K s : ℕ) (h : Place K s) where
  at : place K s ≡ 8 * (K - 1) + (s - 1)
  at = place_is K s (parts_place K s h)

  in_net : place K s < 72
  in_net = omega (arith, at)

  kind_at : place K s / 8 + 1 ≡ K
  kind_at = omega (arith, at)

  -- one entry is replaced by m
  entry_sum : (m : ℕ) → messages (set net (place K s) m) + weigh K * members (receivers net K s) 8 ≡ messages net + weigh K * members m 8
  unfolding messages
  entry_sum m =
      subst (λ (k : ℕ). sum 72 (weigh_at (set net (place K s) m)) + weigh k * members (receivers net K s) 8 ≡ sum 72 (weigh_at net) + weigh k * members m 8) kind_at
      (subst (λ (y : ℕ). sum 72 (weigh_at (set net (place K s) m)) + weigh_at net (place K s) ≡ sum 72 (weigh_at net) + weigh (place K s / 8 + 1) * members y 8) (get_or-set_same net (place K s) m 0 (omega (arith, in_net)))
      (sum_at 72 (weigh_at (set net (place K s) m)) (weigh_at net) (place K s) in_net (λ i ne. ap (λ (y : ℕ). weigh (i / 8 + 1) * members y 8) (get_or-set_other net (place K s) i m 0 ne))))

pub messages_sent : (net : List ℕ) (len : length net ≡ 72) (K s m : ℕ) → messages (sent_in net K s m) ≤ messages net + weigh K * members m 8
messages_sent net len K s m = go (is_place K s) refl
  where
    go : (b : Bool) → is_place K s ≡ b → messages (sent_in net K s m) ≤ messages net + weigh K * members m 8
    go false e = rw (set_out net (place K s) (union (receivers net K s) m) (omega (arith, place_none K s e))) (omega arith)
    go true e =
        omega (
          arith,
          entry_sum net len K s (place_parts K s e) (union (receivers net K s) m),
          scale (heavy K) (members (union (receivers net K s) m) 8) (members (receivers net K s) 8) (members m 8) (members_union (receivers net K s) m 8),
        )

module _ (net : List ℕ) (len : length net ≡ 72) (K k j : ℕ) (x : Out net K k j) where
  pub messages_taken : messages (taken_in net K k j) + weigh K ≤ messages net
  messages_taken =
      omega (
        arith,
        entry_sum net len K k (out_placed net len K k j x) (without (receivers net K k) j),
        scale_one (heavy K) (members (without (receivers net K k) j) 8) (members (receivers net K k) 8)
            (members_without (receivers net K k) j 8 x (has_site (receivers net K k) j x).least (has_site (receivers net K k) j x).most),
      )

  -- a stop takes that message out too
  pub messages_halted : messages (stopped_in net j) + weigh K ≤ messages net
  unfolding messages
  messages_halted = omega (arith, messages_taken, sum_le 72 (weigh_at (stopped_in net j)) (weigh_at (taken_in net K k j)) (λ p _. scale_le (heavy (p / 8 + 1)) _ _ (at p (ℕ_discrete p (place K k)))))
    where
      at : (p : ℕ) → Dec (p ≡ place K k) → members (get_or (stopped_in net j) p 0) 8 ≤ members (get_or (taken_in net K k j) p 0) 8
      at p (yes e) = rw (entry_stopped net j p, e, get_or-set_same net (place K k) (without (receivers net K k) j) 0 (omega (arith, in_net net len K k (out_placed net len K k j x)))) (omega arith)
      at p (no ne) = rw (entry_stopped net j p, get_or-set_other net (place K k) p (without (receivers net K k) j) 0 ne) (members_le _ _ 8 (without_in (get_or net p 0) j))

pub messages_stopped : (net : List ℕ) (j : ℕ) → messages (stopped_in net j) ≤ messages net
unfolding messages
messages_stopped net j = sum_le 72 (weigh_at (stopped_in net j)) (weigh_at net) (λ p _. scale_le (heavy (p / 8 + 1)) _ _ (members_le _ _ 8 (λ i x. without_in (get_or net p 0) j i (rw (entry_stopped net j p) at x))))

-- ---- what each running site may still do

pub part_of : ℕ → ℕ → Record → ℕ → ℕ
part_of S n x i = cond (has S i) 0 (1 + own Central n i x.state x.leader)

pub parts : Run → ℕ
parts r = sum r.n (λ i. part_of r.stopped r.n (record_in r.sites (suc i)) (suc i))

pub part_runs : (S n : ℕ) (x : Record) (i : ℕ) → has S i ≡ false → part_of S n x i ≡ 1 + own Central n i x.state x.leader
unfolding part_of
part_runs S n x i h = rw h refl

pub part_stopped : (S n : ℕ) (x : Record) (i : ℕ) → has S i ≡ true → part_of S n x i ≡ 0
unfolding part_of
part_stopped S n x i h = rw h refl

-- one site's part changes
pub parts_at : (r q : Run) (s : ℕ) → r.n ≡ q.n → 1 ≤ s → s ≤ r.n → ((i : ℕ) → i ≢ s → (has q.stopped i ≡ has r.stopped i) × (record_in q.sites i ≡ record_in r.sites i))
    → parts q + part_of r.stopped r.n (record_in r.sites s) s ≡ parts r + part_of q.stopped r.n (record_in q.sites s) s
unfolding parts part_of
parts_at r q s e p l h =
    subst (λ (n : ℕ). sum n (λ i. part_of q.stopped n (record_in q.sites (suc i)) (suc i)) + part_of r.stopped r.n (record_in r.sites s) s ≡ sum r.n (λ i. part_of r.stopped r.n (record_in r.sites (suc i)) (suc i)) + part_of q.stopped r.n (record_in q.sites s) s) e
    (subst (λ (s' : ℕ). sum r.n (λ i. part_of q.stopped r.n (record_in q.sites (suc i)) (suc i)) + part_of r.stopped r.n (record_in r.sites s') s'
    ≡ sum r.n (λ i. part_of r.stopped r.n (record_in r.sites (suc i)) (suc i)) + part_of q.stopped r.n (record_in q.sites s') s') back
    (sum_at r.n (λ i. part_of q.stopped r.n (record_in q.sites (suc i)) (suc i)) (λ i. part_of r.stopped r.n (record_in r.sites (suc i)) (suc i)) (s - 1) (omega arith)
    (λ i ne. let g = h (suc i) (λ d. ne (omega arith)) in rw (g.0, g.1) refl)))
  where
    back : suc (s - 1) ≡ s
    back = omega arith

-- ---- pairs

-- whether i and j have stopped, whether i knows of j, whether j knows of i
abbrev pair_of : Bool → Bool → Bool → Bool → ℕ
pair_of false false x y = 1
pair_of false true x y = one_if (not x)
pair_of true false x y = one_if (not y)
pair_of true true x y = 0

not_le : (x y : Bool) → (x ≡ true → y ≡ true) → one_if (not y) ≤ one_if (not x)
not_le true true h = omega arith
not_le true false h = absurd (false≢true (h refl))
not_le false true h = omega arith
not_le false false h = omega arith

not_one : (x : Bool) → one_if (not x) ≤ 1
not_one true = omega arith
not_one false = omega arith

-- more stops and more knowledge lower it
pair_falls : (a b x y a' b' x' y' : Bool) → (a ≡ true → a' ≡ true) → (b ≡ true → b' ≡ true) → (x ≡ true → x' ≡ true) → (y ≡ true → y' ≡ true) → pair_of a' b' x' y' ≤ pair_of a b x y
pair_falls a b x y true true x' y' p q u v = omega arith
pair_falls false false x y false false x' y' p q u v = omega arith
pair_falls false false x y false true x' y' p q u v = not_one x'
pair_falls false false x y true false x' y' p q u v = not_one y'
pair_falls false true x y false true x' y' p q u v = not_le x x' u
pair_falls false true x y false false x' y' p q u v = absurd (false≢true (q refl))
pair_falls false true x y true false x' y' p q u v = absurd (false≢true (q refl))
pair_falls true false x y true false x' y' p q u v = not_le y y' v
pair_falls true false x y false false x' y' p q u v = absurd (false≢true (p refl))
pair_falls true false x y false true x' y' p q u v = absurd (false≢true (p refl))
pair_falls true true x y false b' x' y' p q u v = absurd (false≢true (p refl))
pair_falls true true x y true false x' y' p q u v = absurd (false≢true (q refl))

abbrev known_of : Run → ℕ → ℕ
known_of r i = (record_in r.sites i).known

pair_at : Run → ℕ → ℕ → ℕ
pair_at r i j = cond (ltb i j) (pair_of (has r.stopped i) (has r.stopped j) (has (known_of r i) j) (has (known_of r j) i)) 0

pub pairs : Run → ℕ
pairs r = sum r.n (λ i. sum r.n (λ j. pair_at r (suc i) (suc j)))

-- q has more stops and more knowledge than r
module _ (r q : Run) (e : r.n ≡ q.n) (stops : (i : ℕ) → In r.stopped i → In q.stopped i) (knows : (i j : ℕ) → In (known_of r i) j → In (known_of q i) j) where
  at_most : (i j : ℕ) → pair_at q i j ≤ pair_at r i j
  unfolding pair_at
  at_most i j = go (ltb i j)
    where
      go : (b : Bool)
          → cond b (pair_of (has q.stopped i) (has q.stopped j) (has (known_of q i) j) (has (known_of q j) i)) 0
          ≤ cond b (pair_of (has r.stopped i) (has r.stopped j) (has (known_of r i) j) (has (known_of r j) i)) 0
      go true =
          pair_falls (has r.stopped i) (has r.stopped j) (has (known_of r i) j) (has (known_of r j) i) (has q.stopped i) (has q.stopped j) (has (known_of q i) j) (has (known_of q j) i)
          (stops i) (stops j) (knows i j) (knows j i)
      go false = omega arith

  pub pairs_le : pairs q ≤ pairs r
  unfolding pairs
  pairs_le =
      subst (λ (n : ℕ). sum n (λ i. sum n (λ j. pair_at q (suc i) (suc j))) ≤ sum r.n (λ i. sum r.n (λ j. pair_at r (suc i) (suc j)))) e
      (sum_le r.n (λ i. sum r.n (λ j. pair_at q (suc i) (suc j))) (λ i. sum r.n (λ j. pair_at r (suc i) (suc j)))
      (λ i _. sum_le r.n (λ j. pair_at q (suc i) (suc j)) (λ j. pair_at r (suc i) (suc j)) (λ j _. at_most (suc i) (suc j))))

  -- where one pair falls
  pairs_lt : (i j : ℕ) → i < r.n → j < r.n → pair_at q (suc i) (suc j) + 1 ≤ pair_at r (suc i) (suc j) → pairs q + 1 ≤ pairs r
  unfolding pairs
  pairs_lt i j p l f =
      subst (λ (n : ℕ). sum n (λ i. sum n (λ j. pair_at q (suc i) (suc j))) + 1 ≤ sum r.n (λ i. sum r.n (λ j. pair_at r (suc i) (suc j)))) e
      (sum_lt r.n (λ i. sum r.n (λ j. pair_at q (suc i) (suc j))) (λ i. sum r.n (λ j. pair_at r (suc i) (suc j)))
      (λ i _. sum_le r.n (λ j. pair_at q (suc i) (suc j)) (λ j. pair_at r (suc i) (suc j)) (λ j _. at_most (suc i) (suc j))) i p
      (sum_lt r.n (λ j. pair_at q (suc i) (suc j)) (λ j. pair_at r (suc i) (suc j)) (λ j _. at_most (suc i) (suc j)) j l f))

  -- a running site s comes to know that o stopped
  pub pairs_learn : (s o : ℕ) → 1 ≤ s → s ≤ r.n → 1 ≤ o → o ≤ r.n → o ≢ s → has q.stopped s ≡ false → has r.stopped o ≡ true → has (known_of r s) o ≡ false → has (known_of q s) o ≡ true
      → pairs q + 1 ≤ pairs r
  unfolding pair_at
  pairs_learn s o s1 sn o1 on ne run down old new = go (dec_lt s o)
    where
      run' : has r.stopped s ≡ false
      run' = fails (has r.stopped s) (λ h. clash (stops s h) run)

      s' : suc (s - 1) ≡ s
      s' = omega arith

      o' : suc (o - 1) ≡ o
      o' = omega arith

      go : Dec (s < o) → pairs q + 1 ≤ pairs r
      go (yes l) = pairs_lt (s - 1) (o - 1) (omega arith) (omega arith) (rw (s', o') (simp (lt-ltb s o l, run, run', stops o down, down, old, new) (omega arith)))
      go (no l) = pairs_lt (o - 1) (s - 1) (omega arith) (omega arith) (rw (s', o') (simp (lt-ltb o s (omega (arith, ne)), run, run', stops o down, down, old, new) (omega arith)))

-- ---- the potential

pub potential : Run → ℕ
potential r = messages r.net + parts r + pairs r

pub potential_is : (r : Run) → potential r ≡ messages r.net + parts r + pairs r
unfolding potential
potential_is r = refl

-- of a fresh run
pub fresh_potential : (n : ℕ) → 2 ≤ n → n ≤ 8 → potential (fresh_run n) ≡ 2 * n ^ 2 + 3 * n - 1
unfolding potential messages parts part_of pairs pair_at own firstly sum members has bit is_site
fresh_potential = by_size (λ n. potential (fresh_run n) ≡ 2 * n ^ 2 + 3 * n - 1) refl refl refl refl refl refl refl
