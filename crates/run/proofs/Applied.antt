-- What an effect of a site does to each view of a run: the records, the outstanding messages, the stopped sites.
-- Assumes nothing.
use Prim.Native.Nat.{ℕ, ◌-◌, ◌^◌, ◌≤◌, ◌<◌}
use mathlib.Core.Bool.{Bool, true, false, cond, not, ◌&&◌, ◌||◌, false≢true, or_comm, and-true, and-false}
use mathlib.Core.Path.{◌≡◌, refl, sym, ap, ◌∙◌}
use mathlib.Core.Logic.{◌≢◌, ⊎_elim}
use mathlib.Core.List.{List}
use lib.Dec.{eqb}
use lib.ListN.{get_or, set, length-set, length-map}
use lib.Seq.{set-get_or, set_out}
use borrow.Author.Tests.{eqb-true}
use native.Mathlib.Omega.{arith}
use Rattle.sets.specs.Sets.{is_site, has, minus, without, with_site}
use Rattle.sets.proofs.SetLaws.{site_is, has_with}
use Rattle.sets.proofs.Truths.{and_l, and_r}
use Rattle.sets.proofs.SubsetLaws.{minus_lt, union_lt}
use Rattle.site.specs.declared.Site.{Site}
use Rattle.run.specs.declared.Run.{Run}
use Rattle.run.specs.declared.Effect.{Effect}
use Rattle.run.specs.Run.{no_site, site_at, has_row, place, outstanding, has_stopped, taken_in, sent_in, stopped_in, remade, with_record, taken_out, sent_by, stopped_at}
use Rattle.run.specs.Event.{halting, halted_at, applied}
use Rattle.run.proofs.RunSteps.{set_either}
use Rattle.run.proofs.SoundLaws.{Bytes}
use Rattle.run.proofs.Views.{Shape, is_place, place_none, entry_stopped, record_same, record_other, out_taken, out_sent, out_stopped}

-- ---- the parts of an effect

-- it takes out the message of kind k from f to j; it writes it; it stops i
unfoldable pub takes_out : Effect → ℕ → ℕ → ℕ → ℕ → Bool
takes_out x s k f j = eqb k x.got && eqb f x.from && eqb j s

unfoldable pub writes : Effect → ℕ → ℕ → ℕ → ℕ → Bool
writes x s k f j = eqb k x.kind && eqb f s && has x.to j

unfoldable pub stops_at : Effect → ℕ → ℕ → Bool
stops_at x s i = x.stops && eqb i s

-- a message that it writes
pub record Written (x : Effect) (s k f j : ℕ) : Type 0 where
  pub kind : k ≡ x.kind
  pub from : f ≡ s
  pub to : has x.to j ≡ true

pub written : (x : Effect) (s k f j : ℕ) → writes x s k f j ≡ true → Written x s k f j
unfolding writes
written x s k f j h =
    let e : (eqb k x.kind && eqb f s) ≡ true = and_l (eqb k x.kind && eqb f s) (has x.to j) h in
    record {
      kind = eqb-true k x.kind (and_l (eqb k x.kind) (eqb f s) e);
      from = eqb-true f s (and_r (eqb k x.kind) (eqb f s) e);
      to = and_r (eqb k x.kind && eqb f s) (has x.to j) h;
    }

-- an effect of a site of a run: what it writes is written to bytes, and has its place
pub record Fits (s : ℕ) (x : Effect) : Type 0 where
  pub least : 1 ≤ s
  pub most : s ≤ 8
  pub bytes : x.to < 2 ^ 8
  pub places : (j : ℕ) → has x.to j ≡ true → is_place x.kind s ≡ true

-- ---- what it does

-- run w is r with an effect of site s: it has its record, every other site its old one; who stops has stopped; what is taken out or addressed to
-- a site that stops is gone, and what is written to sites that run has come
pub record Applied (r : Run) (s : ℕ) (x : Effect) (w : Run) : Type 0 where
  pub n : w.n ≡ r.n
  pub site : site_at w s ≡ x.site
  pub others : (i : ℕ) → 1 ≤ i → i ≢ s → site_at w i ≡ site_at r i
  pub stopped : (i : ℕ) → has_stopped w i ≡ (stops_at x s i || has_stopped r i)
  pub net : (k f j : ℕ) → outstanding w k f j ≡ (not (stops_at x s j || takes_out x s k f j) && outstanding r k f j || not (stops_at x s j || has_stopped r j) && writes x s k f j)

-- a stop is at a site
at_site : (s j : ℕ) → 1 ≤ s → s ≤ 8 → (is_site j && eqb j s) ≡ eqb j s
at_site s j l m = go (eqb j s) refl
  where
    go : (b : Bool) → eqb j s ≡ b → (is_site j && b) ≡ b
    go true e = simp (ap is_site (eqb-true j s e) ∙ site_is s l m)
    go false e = and-false (is_site j)

-- written messages that have no place are none
placed : (p u h n : Bool) → (h ≡ true → p ≡ true) → (p && u && (h && n)) ≡ (n && (u && h))
placed true true true n f = sym (and-true n)
placed true true false n f = sym (and-false n)
placed true false h n f = sym (and-false n)
placed false u true n f = absurd (false≢true (f refl))
placed false true false n f = sym (and-false n)
placed false false false n f = sym (and-false n)

-- what is gone where the site stops (b): what is taken out, and what is addressed to it (e)
gone : (b o t e : Bool) → cond b (o && not t && not e) (o && not t) ≡ (not (b && e || t) && o)
gone true o true true = and-false (o && false)
gone true o true false = and-true (o && false) ∙ and-false o
gone true o false true = and-false (o && true)
gone true o false false = and-true (o && true) ∙ and-true o
gone false o true e = and-false o
gone false o false e = and-true o

module _ (r : Run) (s : ℕ) (x : Effect) where
  -- the run before the site stops, and before the messages leave
  abbrev lighter : Run
  lighter = taken_out (with_record r s x.site) x.got x.from s

  abbrev before : Run
  before = halted_at lighter s x.stops

  sites_before : before.sites ≡ set r.sites (s - 1) x.site
  unfolding taken_out stopped_at
  sites_before = go x.stops
    where
      go : (b : Bool) → (halted_at lighter s b).sites ≡ set r.sites (s - 1) x.site
      go true = refl
      go false = refl

  -- the site has its new record
  pub sites_applied : (applied r s x).sites ≡ set r.sites (s - 1) x.site
  unfolding applied sent_by
  sites_applied = sites_before

  -- and has stopped if it stops
  pub set_applied : (applied r s x).stopped ≡ cond x.stops (with_site r.stopped s) r.stopped
  unfolding applied sent_by taken_out stopped_at
  set_applied = go x.stops
    where
      go : (b : Bool) → (halted_at lighter s b).stopped ≡ cond b (with_site r.stopped s) r.stopped
      go true = refl
      go false = refl

module _ (r : Run) (s : ℕ) (x : Effect) (h : Shape r) where
  shape_lighter : Shape (lighter r s x)
  unfolding taken_out
  shape_lighter = record { sites = length-set r.sites _ _ ∙ h.sites; net = length-set r.net _ _ ∙ h.net }

  shape_before : Shape (before r s x)
  unfolding stopped_at
  shape_before = go x.stops
    where
      go : (b : Bool) → Shape (halted_at (lighter r s x) s b)
      go true = record { sites = shape_lighter.sites; net = length-map (lighter r s x).net (λ (m : ℕ). without m s) ∙ shape_lighter.net }
      go false = shape_lighter

  pub shape_applied : Shape (applied r s x)
  unfolding applied sent_by
  shape_applied = record { sites = shape_before.sites; net = length-set (before r s x).net _ _ ∙ shape_before.net }

  n_before : (before r s x).n ≡ r.n
  unfolding taken_out stopped_at
  n_before = go x.stops
    where
      go : (b : Bool) → (halted_at (lighter r s x) s b).n ≡ r.n
      go true = refl
      go false = refl

  module _ (f : Fits s x) where
    stopped_before : (i : ℕ) → has_stopped (before r s x) i ≡ (stops_at x s i || has_stopped r i)
    unfolding stops_at taken_out has_stopped stopped_at
    stopped_before i = go x.stops
      where
        go : (b : Bool) → has_stopped (halted_at (lighter r s x) s b) i ≡ (b && eqb i s || has_stopped r i)
        go true = has_with r.stopped s i ∙ ap (λ (c : Bool). has r.stopped i || c) (at_site s i f.least f.most) ∙ or_comm (has r.stopped i) (eqb i s)
        go false = refl

    net_before : (k y j : ℕ) → outstanding (before r s x) k y j ≡ (not (stops_at x s j || takes_out x s k y j) && outstanding r k y j)
    unfolding stops_at takes_out outstanding
    net_before k y j = go x.stops ∙ gone x.stops (outstanding r k y j) (eqb k x.got && eqb y x.from && eqb j s) (eqb j s)
      where
        less : outstanding (lighter r s x) k y j ≡ (outstanding r k y j && not (eqb k x.got && eqb y x.from && eqb j s))
        less = out_taken (with_record r s x.site) x.got x.from s k y j (record { sites = length-set r.sites _ _ ∙ h.sites; net = h.net })

        go : (b : Bool) → outstanding (halted_at (lighter r s x) s b) k y j
            ≡ cond b (outstanding r k y j && not (eqb k x.got && eqb y x.from && eqb j s) && not (eqb j s)) (outstanding r k y j && not (eqb k x.got && eqb y x.from && eqb j s))
        go true = out_stopped (lighter r s x) s k y j ∙ ap (λ (c : Bool). c && not (eqb j s)) less
        go false = less

    n_applied : (applied r s x).n ≡ r.n
    unfolding applied sent_by
    n_applied = n_before

    site_applied : site_at (applied r s x) s ≡ x.site
    unfolding applied sent_by
    site_applied = ap (λ (l : List Site). get_or l (s - 1) no_site) (sites_before r s x) ∙ record_same r s x.site h f.least f.most

    others_applied : (i : ℕ) → 1 ≤ i → i ≢ s → site_at (applied r s x) i ≡ site_at r i
    unfolding applied sent_by
    others_applied i l d = ap (λ (y : List Site). get_or y (i - 1) no_site) (sites_before r s x) ∙ record_other r s i x.site f.least l d

    stopped_applied : (i : ℕ) → has_stopped (applied r s x) i ≡ (stops_at x s i || has_stopped r i)
    unfolding applied sent_by has_stopped
    stopped_applied i = stopped_before i

    net_applied : (k y j : ℕ) → outstanding (applied r s x) k y j ≡ (not (stops_at x s j || takes_out x s k y j) && outstanding r k y j || not (stops_at x s j || has_stopped r j) && writes x s k y j)
    unfolding applied writes
    net_applied k y j =
        out_sent (before r s x) x.kind s x.to k y j shape_before
        ∙ ap (λ (b : Bool). outstanding (before r s x) k y j || b) (placed (is_place x.kind s) (eqb k x.kind && eqb y s) (has x.to j) (not (has_stopped (before r s x) j)) (f.places j))
        ∙ simp (net_before k y j, stopped_before j)

    -- so the effect is seen as it is put into the run
    pub applied_is : Applied r s x (applied r s x)
    applied_is = record { n = n_applied; site = site_applied; others = others_applied; stopped = stopped_applied; net = net_applied }

-- ---- bytes stay bytes

abbrev Small : List ℕ → Type 0
Small net = (p : ℕ) → get_or net p 0 < 2 ^ 8

small_set : (net : List ℕ) (p v : ℕ) → Small net → v < 2 ^ 8 → Small (set net p v)
small_set net p v h l q = ⊎_elim (λ e. rw e (h q)) (λ e. rw e.1 l) (set_either net p q v 0)

module _ (r : Run) (s : ℕ) (x : Effect) (b : Bytes r) where
  small_lighter : Small (lighter r s x).net
  unfolding taken_out without
  small_lighter = small_set r.net _ _ b.net (minus_lt _ _ (b.net _))

  small_before : (c : Bool) → Small (halted_at (lighter r s x) s c).net
  unfolding without stopped_at
  small_before true p = rw (entry_stopped (lighter r s x).net s p) (minus_lt _ _ (small_lighter p))
  small_before false p = small_lighter p

  pub bytes_applied : x.to < 2 ^ 8 → Bytes (applied r s x)
  unfolding applied sent_by
  bytes_applied l =
      record {
        shape = shape_applied r s x b.shape;
        net = small_set (before r s x).net _ _ (small_before x.stops) (union_lt _ _ (small_before x.stops _) (minus_lt _ _ l));
      }

-- nothing is taken out where nothing is delivered
pub none_taken : (r : Run) (s : ℕ) → Shape r → taken_in r.net 0 0 s ≡ r.net
unfolding has_row is_site
none_taken r s h = set_out r.net (place 0 0) _ (omega (arith, h.net, place_none 0 0 refl))

-- ---- a stop leaves every record, and takes out nothing but what is addressed to the site

pub halt_applied : (r : Run) (s k to : ℕ) → Shape r → applied r s (halting (site_at r s) k to) ≡ sent_by (stopped_at r s) k s to
unfolding applied taken_out stopped_at has_row is_site
halt_applied r s k to h =
    ap (λ (l : List Site). sent_by (stopped_at (taken_out (remade r r.stopped l r.net) 0 0 s) s) k s to) (set-get_or r.sites (s - 1) no_site)
    ∙ ap (λ (l : List ℕ). sent_by (stopped_at (remade r r.stopped r.sites l) s) k s to) (none_taken r s h)

-- nothing is written to nobody
pub stop_applied : (r : Run) (s : ℕ) → Shape r → applied r s (halting (site_at r s) 0 0) ≡ stopped_at r s
unfolding sent_by stopped_at has_row is_site
stop_applied r s h =
    halt_applied r s 0 0 h
    ∙ ap (λ (l : List ℕ). remade r (with_site r.stopped s) r.sites l) (set_out (stopped_in r.net s) (place 0 s) _ (omega (arith, h.net, length-map r.net (λ (m : ℕ). without m s), place_none 0 s refl)))

-- ---- as the code puts it

-- a run after the site's stop, if it does stop, with the messages that leave: it is what was to be put
pub put_is : (r : Run) (s : ℕ) (x : Effect) (b : Bool) → x.stops ≡ b → (now : Run) → now ≡ halted_at (taken_out (with_record r s x.site) x.got x.from s) s b
    → (net : List ℕ) → net ≡ sent_in now.net x.kind s (minus x.to now.stopped) → record { n = now.n; stopped = now.stopped; sites = now.sites; net = net } ≡ applied r s x
unfolding applied sent_by
put_is r s x b e now f net g = rw g (rw f (rw e refl))
