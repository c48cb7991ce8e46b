-- Every accepted event lowers the potential, so that only so many events are accepted.
-- Assumes nothing.
use Prim.Native.Nat.{ℕ, ◌+◌, ◌-◌, ◌*◌, ◌/◌, ◌^◌, ◌≤◌}
use mathlib.Core.Bool.{true, not, ◌&&◌}
use mathlib.Core.List.{List, [], ◌∷◌}
use mathlib.Core.Path.{◌≡◌, refl, sym, ap, subst, ◌∙◌}
use mathlib.Core.Logic.{◌≢◌, ◌⊎◌, inl, inr, ⊎_elim}
use native.Mathlib.Omega.{arith}
use lib.Dec.{eqb, lit≤}
use lib.ListN.{length-map}
use borrow.Author.Tests.{eqb-false, not-true}
use Rattle.sets.specs.Sets.{has, both, minus, with_site}
use Rattle.sets.proofs.SetLaws.{members}
use Rattle.site.specs.declared.Step.{Step}
use Rattle.site.specs.declared.Step.TheVariants as step
use Rattle.site.specs.declared.Site.{Site as Record}
use Rattle.site.specs.declared.Done.{Done}
use Rattle.site.specs.Site.{in_run, names_of}
use Rattle.run.specs.declared.Run.{Run}
use Rattle.run.specs.declared.Event.{Event}
use Rattle.run.specs.declared.Event.TheVariants.{Act, Stop, Cut}
use Rattle.run.specs.Run.{site_at, outstanding, has_stopped, knows, remade, stopped_at, stopped_in}
use Rattle.run.specs.Event.{is_there, event_of}
use Rattle.run.specs.After.{Tale, accepted_by, onward, told, opening, after}
use Rattle.sets.proofs.Truths.{and_l, and_r, same as alike}
use Rattle.promise.proofs.SetsMembers.{In, minus_in, both_l, in_with, with_in, in_with_new}
use Rattle.promise.proofs.RunViews.{record_in, Runs}
use Rattle.run.proofs.SoundLaws.{sound_parts}
use Rattle.run.proofs.Views.{Shape}
use Rattle.run.proofs.Account.{Able, Acting, Accepted, Refuses, fate}
use Rattle.run.proofs.Account.Accepted.{acts, stops, cuts}
use Rattle.run.proofs.Applied.{none_taken}
use Rattle.run.proofs.GoodRuns.{accepted_one, fresh_is}
use Rattle.promise.proofs.RunEvents.{running, stop_run}
use Rattle.promise.proofs.Become.{by_site}
use Rattle.promise.proofs.Seen.{number, view_of}
use Rattle.promise.proofs.Brings.{Notices, weigh, net_worth, news_worth}
use Rattle.promise.proofs.Stepping.{in_run_lem}
use Rattle.promise.proofs.Keeping.{Upheld, Now, With, lessened, lessened_len, done_at, kind_at, whole_at, leaving, part_at, known, keeps}
use Rattle.promise.proofs.Count.{by_size, members_above, members_others, members_only, members_none, members_some}
use Rattle.promise.proofs.Classes.{Central}
use Rattle.promise.proofs.Measure.{own, falls}
use Rattle.promise.proofs.Potential.{messages, messages_sent, messages_taken, messages_halted, messages_stopped, part_of, parts, part_runs, part_stopped, parts_at, pairs, pairs_le, pairs_learn, potential, potential_is, fresh_potential}
use Rattle.promise.proofs.Fresh.{nothing, start_held}

news_one : (t : Step) → news_worth t ≤ 1
news_one (step.Begin v) = omega arith
news_one (step.Start from v) = omega arith
news_one (step.Deliver K from) = omega arith
news_one (step.Notice o) = omega arith
news_one step.TakeOver = omega arith
news_one step.Conclude = omega arith

module _ (r : Run) (h : Shape r) (s : ℕ) where
  pub net_delivered : (t : Step) → is_there r s t ≡ true → messages (lessened r s t) + net_worth t ≤ messages r.net
  unfolding outstanding
  net_delivered (step.Begin v) m = omega (arith, ap messages (none_taken r s h))
  net_delivered (step.Start from v) m = messages_taken r.net h.net 1 from s m
  net_delivered (step.Deliver K from) m = messages_taken r.net h.net K from s m
  net_delivered (step.Notice o) m = omega (arith, ap messages (none_taken r s h))
  net_delivered step.TakeOver m = omega (arith, ap messages (none_taken r s h))
  net_delivered step.Conclude m = omega (arith, ap messages (none_taken r s h))

  pub net_halted : (t : Step) → is_there r s t ≡ true → messages (stopped_in r.net s) + net_worth t ≤ messages r.net
  unfolding outstanding
  net_halted (step.Begin v) m = omega (arith, messages_stopped r.net s)
  net_halted (step.Start from v) m = messages_halted r.net h.net 1 from s m
  net_halted (step.Deliver K from) m = messages_halted r.net h.net K from s m
  net_halted (step.Notice o) m = omega (arith, messages_stopped r.net s)
  net_halted step.TakeOver m = omega (arith, messages_stopped r.net s)
  net_halted step.Conclude m = omega (arith, messages_stopped r.net s)

-- Site s of r stops: its part goes, and no pair rises.
module _ (r : Run) (s : ℕ) (x : Runs r s) (n8 : r.n ≤ 8) (net : List ℕ) where
  abbrev gone : Run
  gone = remade r (with_site r.stopped s) r.sites net

  parts_gone : parts gone + (1 + own Central r.n s (record_in r.sites s).state (record_in r.sites s).leader) ≡ parts r
  parts_gone =
      omega (
        arith,
        parts_at r gone s refl x.least x.most (λ i ne. (same i ne, refl)),
        part_runs r.stopped r.n (record_in r.sites s) s x.up,
        part_stopped (with_site r.stopped s) r.n (record_in r.sites s) s (in_with_new r.stopped s s (record { least = x.least; most = omega (arith, x.most) }) refl),
      )
    where
      same : (i : ℕ) → i ≢ s → has (with_site r.stopped s) i ≡ has r.stopped i
      same i ne = alike _ _ (λ h. ⊎_elim (λ y. y) (λ e. absurd (ne e)) (with_in r.stopped s i h)) (in_with r.stopped s i)

  pairs_gone : pairs gone ≤ pairs r
  pairs_gone = pairs_le r gone refl (in_with r.stopped s) (λ i j y. y)

-- Site s takes a step.
module _ (w : ℕ → Type 0) (r : Run) (h : Upheld w r) (s : ℕ) (t : Step) (al : Acting r s t) where
  open known w r h s t al use {good, seen as y, kinds, whole_run_lem, part_run_lem, place, new, still}

  abbrev z : Record
  z = site_at r s

  abbrev d : Done
  d = done_at r s t

  abbrev q : Run
  q = whole_at r s t

  -- what a running site may still do, before
  abbrev before : ℕ
  before = own Central r.n s (record_in r.sites s).state (record_in r.sites s).leader

  -- messages to a part m of the sites that the step writes to
  module _ (m : ℕ) (sub : (i : ℕ) → In m i → In d.to i) where
    weight : weigh (kind_at r s t) * members m 8 ≡ weigh (number y.κ) * members m 8
    weight = go (members_some m 8)
      where
        go : (members m 8 ≡ 0) ⊎ ((i : ℕ) × In m i) → weigh (kind_at r s t) * members m 8 ≡ weigh (number y.κ) * members m 8
        go (inl e) = rw e (zero_times (weigh (kind_at r s t)) (weigh (number y.κ)))
          where
            zero_times : (a b : ℕ) → a * 0 ≡ b * 0
            zero_times a b = omega arith
        go (inr x) = ap (λ (k : ℕ). weigh k * members m 8) (kinds x.0 (sub x.0 x.1))

    lowers : own Central r.n s d.site.state d.site.leader + weigh (kind_at r s t) * members m 8 + 1 ≤ before + (net_worth t + news_worth t)
    lowers =
        omega (
          arith,
          weight,
          y.spends.fee,
          falls (view_of w r) s (λ i. In d.to i) h.inv (running al.able).least r.n (members m 8)
              (λ f. members_above m s r.n 8 (λ i x. (f i (sub i x), y.within i (sub i x)))) (λ f. (members_others m s r.n 8 (running al.able).least (running al.able).most (λ i x. (f i (sub i x), y.within i (sub i x)))).0) (λ k f. members_only m k 8 (λ i x. f i (sub i x))) (λ f. members_none m 8 (λ i x. f i (sub i x))) y.act,
        )

  -- ---- whole

  parts_whole : parts q + (1 + before) ≡ parts r + (1 + own Central r.n s d.site.state d.site.leader)
  parts_whole =
      omega (
        arith,
        parts_at r q s refl (running al.able).least (running al.able).most (λ i ne. (refl, still i ne)),
        part_runs r.stopped r.n (record_in r.sites s) s (running al.able).up,
        ap (λ (a : Record). part_of r.stopped r.n a s) new,
        part_runs r.stopped r.n d.site s (running al.able).up,
      )

  more : (i k : ℕ) → In (record_in r.sites i).known k → In (record_in q.sites i).known k
  more i k =
      by_site (λ i. In (record_in r.sites i).known k → In (record_in q.sites i).known k) s
      (λ x. subst (λ (a : Record). In a.known k) (sym new) (y.holds.knows k (subst (λ (a : Record). In a.known k) place.here x)))
      (λ i ne x. subst (λ (a : Record). In a.known k) (sym (still i ne)) x) i

  none_rises : pairs q ≤ pairs r
  none_rises = pairs_le r q refl (λ i x. x) more

  -- a notice is news
  news : (u : Step) → u ≡ t → pairs q + news_worth u ≤ pairs r
  news (step.Begin v) e = omega (arith, none_rises)
  news (step.Start from v) e = omega (arith, none_rises)
  news (step.Deliver k from) e = omega (arith, none_rises)
  news step.TakeOver e = omega (arith, none_rises)
  news step.Conclude e = omega (arith, none_rises)
  news (step.Notice o) e =
      pairs_learn r q refl (λ i x. x) more s o (running al.able).least (running al.able).most noticed.0 noticed.1 other (running al.able).up (and_l (has r.stopped o) (not (has z.known o)) there)
      (ap (λ (a : Record). has a.known o) place.here ∙ not-true (has z.known o) (and_r (has r.stopped o) (not (has z.known o)) there))
      (ap (λ (a : Record). has a.known o) new ∙ y.spends.learns o (subst (λ (u : Step). Notices u o) e refl))
    where
      names : (in_run z o && not (eqb o z.number)) ≡ true
      names = subst (λ (u : Step). names_of z u ≡ true) (sym e) al.names

      there : (has r.stopped o && not (has z.known o)) ≡ true
      there = unfold has_stopped knows in subst (λ (u : Step). is_there r s u ≡ true) (sym e) al.there

      noticed : (1 ≤ o) × (o ≤ r.n)
      noticed =
          let i = in_run_lem z o (and_l (in_run z o) (not (eqb o z.number)) names) in
          (i.0, rw place.size at i.1)

      other : o ≢ s
      other f = eqb-false o z.number (not-true (eqb o z.number) (and_r (in_run z o) (not (eqb o z.number)) names)) (f ∙ sym place.mine)

  pub whole_falls : potential (event_of r (Act s t)).run + 1 ≤ potential r
  whole_falls =
      rw whole_run_lem
      (omega (
        arith,
        potential_is q,
        potential_is r,
        messages_sent (lessened r s t) (lessened_len r s t h.shape) (kind_at r s t) s (minus d.to r.stopped),
        net_delivered r h.shape s t al.there,
        parts_whole,
        news t refl,
        lowers (minus d.to r.stopped) (minus_in d.to r.stopped),
      ))

  -- ---- cut short

  pub part_falls : (x : ℕ) → potential (event_of r (Cut s t x)).run + 1 ≤ potential r
  part_falls x =
      rw (part_run_lem x)
      (omega (
        arith,
        potential_is (part_at r s t x),
        potential_is r,
        messages_sent (stopped_in r.net s) (length-map r.net _ ∙ h.shape.net) (kind_at r s t) s (leaving r s t x),
        net_halted r h.shape s t al.there,
        parts_gone r s (running al.able) good.most (part_at r s t x).net,
        pairs_gone r s (running al.able) good.most (part_at r s t x).net,
        news_one t,
        lowers (leaving r s t x) (λ i y. both_l d.to x i (minus_in (both d.to x) (with_site r.stopped s) i y)),
      ))

-- ---- every event

module _ (w : ℕ → Type 0) (r : Run) (h : Upheld w r) where
  stop_falls : (s : ℕ) → Able r s → potential (event_of r (Stop s)).run + 1 ≤ potential r
  stop_falls s n = rw (stop_run h.shape n) (unfold stopped_at in lower)
    where
      most : r.n ≤ 8
      most = (sound_parts r h.shape n.sound).most

      lower : potential (gone r s (running n) most (stopped_in r.net s)) + 1 ≤ potential r
      lower =
          omega (
            arith,
            potential_is (gone r s (running n) most (stopped_in r.net s)),
            potential_is r,
            messages_stopped r.net s,
            parts_gone r s (running n) most (stopped_in r.net s),
            pairs_gone r s (running n) most (stopped_in r.net s),
          )

  -- an accepted event counts 1, and the potential falls by as much
  pub event_falls : (e : Event) → accepted_by (event_of r e).outcome + potential (event_of r e).run ≤ potential r
  event_falls e = ⊎_elim (λ a. omega (arith, accepted_one (event_of r e).outcome, go a)) (λ (n : Refuses r e). rw n.unchanged (omega arith)) (fate r e)
    where
      go : {e : Event} → Accepted r e → potential (event_of r e).run + 1 ≤ potential r
      go (acts {s} {t} al) = whole_falls w r h s t al
      go (cuts {s} {t} {x = x} al) = part_falls w r h s t al x
      go (stops {s} n) = stop_falls s n

pub told_falls : (w : ℕ → Type 0) (t : Tale) (es : List Event) → Upheld w t.run → (told t es).accepted + potential (told t es).run ≤ t.accepted + potential t.run
unfolding onward
told_falls w t [] h = omega arith
told_falls w t (e ∷ es) h = omega (arith, told_falls (With w (Now t.run e)) (onward t e) es (keeps w t.run h e), event_falls w t.run h e)

-- ---- from fresh

-- the bound of demand 3, and that it is no lower than the potential of a fresh run
abbrev demanded : ℕ → ℕ
demanded n = 5 * (n - 1) + 3 * (n - 1) * (n - 2) / 2 + (n + 1) ^ 2

pub within_bound : (n : ℕ) → 2 ≤ n → n ≤ 8 → 2 * n ^ 2 + 3 * n - 1 ≤ demanded n
within_bound = by_size (λ n. 2 * n ^ 2 + 3 * n - 1 ≤ demanded n) (lit≤ tt) (lit≤ tt) (lit≤ tt) (lit≤ tt) (lit≤ tt) (lit≤ tt) (lit≤ tt)

pub accepted_bound : (n : ℕ) → 2 ≤ n → n ≤ 8 → (es : List Event) → (after n es).accepted ≤ 2 * n ^ 2 + 3 * n - 1
unfolding after opening
accepted_bound n p q es =
    omega (
      arith,
      told_falls nothing (opening n) es (start_held n p q),
      ap potential (fresh_is n p q),
      fresh_potential n p q,
    )
