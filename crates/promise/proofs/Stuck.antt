-- Where only stops could still be accepted, every running site has decided.
-- Assumes nothing.
use Prim.Native.Nat.{ℕ, zero, suc, ◌-◌, ◌≤◌, ◌<◌}
use mathlib.Core.Bool.{Bool, true, false, cond, not, ◌&&◌, ◌||◌}
use mathlib.Core.List.{List}
use mathlib.Core.Path.{◌≡◌, refl, sym, ap, subst, ◌∙◌}
use mathlib.Core.Logic.{◌≢◌, ◌⊎◌, inl, inr, ⊎_elim}
use native.Mathlib.Decide.{ℕ_discrete, dec_lt}
use native.Mathlib.Omega.{arith}
use lib.Dec.{eqb, leb, ltb}
use borrow.Author.Tests.{eq-eqb, ne_eqb, eqb-true, le-leb, lt-ltb, not-false}
use Rattle.sets.specs.Sets.{has, minus, others_of, below_of, subset}
use Rattle.sets.proofs.SetLaws.{Site, has_site, subset_has, subset_of}
use Rattle.sets.proofs.SubsetLaws.{minus_lt, others_lt, all_lt, nobody}
use Rattle.refusal.specs.declared.Refusal.TheVariants.{NotAllowed, Conflict as in_conflict}
use Rattle.site.specs.declared.State.{State}
use Rattle.site.specs.declared.State.TheVariants.{Q, W, P, A, C}
use Rattle.site.specs.declared.Vote.TheVariants as vote
use Rattle.site.specs.declared.Outcome.{Outcome}
use Rattle.site.specs.declared.Outcome.TheVariants.{Taken, Passed, Refused}
use Rattle.site.specs.declared.Order.{Order}
use Rattle.site.specs.declared.Order.TheVariants.{To, Over, Conflict}
use Rattle.site.specs.declared.Step.{Step}
use Rattle.site.specs.declared.Step.TheVariants as step
use Rattle.site.specs.declared.Site.{Site as Record}
use Rattle.site.specs.declared.Done.{Done}
use Rattle.site.specs.Site.{is_q, is_p, in_state, ends_of, to_all, in_run, names_of, polls, collects, awaited_of, refused, taken}
use Rattle.site.proofs.SiteSteps.{sound_parts as site_parts}
use Rattle.site.specs.First.{begin_of, start_of, vote_of, tally_of}
use Rattle.site.specs.Leader.{order_at, obeyed, obey_of, ack_of, over_in, take_over_of, settle_of}
use Rattle.site.specs.Step.{notice_of, conclude_of, deliver_of, rule_of, answered}
use Rattle.run.specs.declared.Run.{Run}
use Rattle.run.specs.declared.Event.{Event}
use Rattle.run.specs.declared.Event.TheVariants.{Act}
use Rattle.run.specs.Run.{site_at, receivers, outstanding, has_stopped, knows}
use Rattle.run.specs.Sound.{Sound, SoundMessage, sound_run}
use Rattle.run.specs.Event.{is_there, fresh_of, event_of}
use Rattle.run.specs.After.{accepted_by, after}
use Rattle.run.proofs.SoundLaws.{sound_parts}
use Rattle.run.proofs.GoodRuns as run
use Rattle.sets.proofs.Truths.{and_i, clash, fails, or_none, either}
use Rattle.promise.proofs.SetsMembers.{In, in_none, minus_in, minus_out, others_in, others_out, below_in}
use Rattle.promise.proofs.RunViews.{record_in, record_at, Runs, placed, Out, out_placed}
use Rattle.promise.proofs.RunEvents.{IsAccepted, accepted_by_lem, allow}
use Rattle.promise.proofs.Classes.{Kind, Start, Yes, No, MoveP, MoveW, Ack, Commit, Abort, Prepare, Central, IsA, IsC, WP, First, is_a, is_c_lem}
use Rattle.promise.proofs.View.{Lowest}
use Rattle.promise.proofs.Become.{by_site}
use Rattle.promise.proofs.Owed.{Due}
use Rattle.promise.proofs.OwedCentral.{Asks}
use Rattle.promise.proofs.Owes.{Owes}
use Rattle.promise.proofs.Seen.{number, Recorded, view_of}
use Rattle.promise.proofs.Stepping.{Sure, Stepped, steps}
use Rattle.promise.specs.Words.{IsStop, Voted}
use Rattle.promise.proofs.Keeping.{Upheld, With, by_rule}
use Rattle.promise.proofs.Fresh.{nothing, held_after}
use Rattle.promise.proofs.Owing.{owed_votes, owed_after}

-- ---- steps that are never refused, but for a conflict

-- an outcome that is no refusal, but perhaps a conflict
abbrev Tame : Outcome → Type 0
Tame Taken = Unit
Tame Passed = Unit
Tame (Refused g) = g ≡ in_conflict

tame_cond : (b : Bool) (x y : Done) → Tame x.outcome → Tame y.outcome → Tame (cond b x y).outcome
tame_cond true x y p q = p
tame_cond false x y p q = q

tame_order : (o : Order) (s : Record) (k from : ℕ) → Tame (obeyed o s k from).outcome
tame_order (To q) s k from = tame_cond (eqb k 4 || eqb k 5) _ _ tt tt
tame_order Over s k from = tt
tame_order Conflict s k from = refl

tame_deliver : (s : Record) (k from : ℕ) → Tame (deliver_of s k from).outcome
unfolding deliver_of vote_of ack_of obey_of
tame_deliver s k from =
    tame_cond (eqb k 2) _ _ (tame_cond (polls s) _ _ tt tt)
    (tame_cond (eqb k 3) _ _ (tame_cond (polls s) _ _ tt tt)
    (tame_cond (eqb k 6) _ _ (tame_cond (collects s) _ _ tt tt) (tame_cond (ltb from s.leader) _ _ tt (tame_order (order_at k s.state) s k from))))

tame_start : (s : Record) (from : ℕ) → Tame (start_of s from vote.Yes).outcome
unfolding start_of
tame_start s from = tame_cond (not (ltb from s.leader) && is_q s.state) _ _ tt tt

tame_notice : (s : Record) (o : ℕ) → Tame (notice_of s o).outcome
unfolding notice_of
tame_notice s o = tame_cond (has s.known o) _ _ tt tt

tamed : (X : Type 0) (o : Outcome) → Tame o → Sure o X → IsAccepted o
tamed X Taken t u = tt
tamed X Passed t u = tt
tamed X (Refused g) t u = u t

-- ---- a run in which no step is accepted

module _ (w : ℕ → Type 0) (r : Run) (h : Upheld w r) (o : Owes (view_of w r)) (ok : sound_run r ≡ true) (g : Sound r)
    (idle : (s : ℕ) (t : Step) → IsAccepted (event_of r (Act s t)).outcome → ⊥) where
  acts : (s : ℕ) (t : Step) → Runs r s → names_of (site_at r s) t ≡ true → is_there r s t ≡ true → IsAccepted (rule_of (site_at r s) t).outcome → ⊥
  unfolding answered
  acts s t x n i a = idle s t (allow r s t ok x n i (subst (λ y. IsAccepted y.outcome) (sym (by_rule r g s t x n)) a))

  -- a step that can only be refused for a conflict is accepted
  tames : (s : ℕ) (t : Step) → Runs r s → names_of (site_at r s) t ≡ true → is_there r s t ≡ true → Tame (rule_of (site_at r s) t).outcome → ⊥
  tames s t x n i u = acts s t x n i (tamed (Stepped w r g h.inv s x t (rule_of (site_at r s) t)) (rule_of (site_at r s) t).outcome u (steps w r g h.inv s x t n i))

  -- no message is outstanding
  module _ (K k i : ℕ) (m : Out r.net K k i) where
    sent : SoundMessage r K k i
    unfolding outstanding
    sent = g.messages K k i m

    gets : Runs r i
    unfolding has_stopped
    gets = record { least = (has_site (receivers r.net K k) i m).least; most = sent.to; up = sent.runs }

    sender : in_run (site_at r i) k ≡ true
    unfolding in_run
    sender = and_i (leb 1 k) (leb k (site_at r i).n) (le-leb 1 k (out_placed r.net h.shape.net K k i m).first) (le-leb k (site_at r i).n (rw (g.places i gets.least gets.most).sites sent.from))

    ends : ends_of K k (site_at r i).number ≡ true
    ends = rw (g.places i gets.least gets.most).number sent.ends

    none_other : not (eqb K 1) ≡ true → ⊥
    unfolding outstanding
    none_other ne =
        tames i (step.Deliver K k) gets (and_i (in_run (site_at r i) k && not (eqb K 1)) (ends_of K k (site_at r i).number) (and_i (in_run (site_at r i) k) (not (eqb K 1)) sender ne) ends) m
        (tame_deliver (site_at r i) K k)

  none_start : (k i : ℕ) → Out r.net 1 k i → ⊥
  unfolding outstanding
  none_start k i m = tames i (step.Start k vote.Yes) (gets 1 k i m) (and_i (in_run (site_at r i) k) (ends_of 1 k (site_at r i).number) (sender 1 k i m) (ends 1 k i m)) m (tame_start (site_at r i) k)

  quiet : (κ : Kind) (k i : ℕ) → Out r.net (number κ) k i → ⊥
  quiet Start k i m = none_start k i m
  quiet Yes k i m = none_other 2 k i m refl
  quiet No k i m = none_other 3 k i m refl
  quiet MoveP k i m = none_other 4 k i m refl
  quiet MoveW k i m = none_other 5 k i m refl
  quiet Ack k i m = none_other 6 k i m refl
  quiet Commit k i m = none_other 7 k i m refl
  quiet Abort k i m = none_other 8 k i m refl
  quiet Prepare k i m = none_other 9 k i m refl

  -- a live message is recorded
  held : (κ : Kind) (k i : ℕ) → 1 ≤ i → (view_of w r).live κ k i → Recorded κ (site_at r i) k
  held κ k i p (inl m) = absurd (quiet κ k i m)
  held κ k i p (inr x) = subst (λ (a : Record). Recorded κ a k) (record_at r i p) x

  -- a running site s
  module _ (s : ℕ) (x : Runs r s) where
    abbrev z : Record
    z = site_at r s

    open placed g x use {st_is, ld_is, mine, size}

    -- it knows who has stopped
    informed : (i : ℕ) → 1 ≤ i → i ≤ r.n → i ≢ s → In r.stopped i → In z.known i
    unfolding has_stopped knows in_run
    informed i p q ne d =
        ⊎_elim (λ y. y)
        (λ y. absurd (tames s (step.Notice i) x
        (and_i (leb 1 i && leb i z.n) (not (eqb i z.number)) (and_i (leb 1 i) (leb i z.n) (le-leb 1 i p) (le-leb i z.n (rw size q))) (ap not (ne_eqb i z.number (λ e. ne (e ∙ mine)))))
        (and_i (has r.stopped i) (not (has z.known i)) d (ap not y)) (tame_notice z i)))
        (either (has z.known i))

    -- a site of the run that it does not know stopped runs
    others_run : (i : ℕ) → 1 ≤ i → i ≤ r.n → i ≢ s → has z.known i ≡ false → Runs r i
    others_run i p q ne f = record { least = p; most = q; up = fails (has r.stopped i) (λ d. clash (informed i p q ne d) f) }

    -- the lowest running site
    module _ (low : Lowest (view_of w r) s) where
      lower_known_lem : (i : ℕ) → 1 ≤ i → i < s → In z.known i
      lower_known_lem i p q =
          ⊎_elim (informed i p (omega (arith, x.most)) (λ e. omega arith)) (λ y. absurd (low i q (record { least = p; most = omega (arith, x.most); up = y }))) (either (has r.stopped i))

      -- it would take over
      taken_over : (q : State) (a : Record) → IsAccepted (over_in q a).outcome
      taken_over Q a = tt
      taken_over W a = tt
      taken_over P a = tt
      taken_over A a = tt
      taken_over C a = tt

      leads : z.leader ≡ z.number
      leads = go (dec_lt z.leader z.number)
        where
          below : subset (below_of z.number) z.known ≡ true
          below = subset_of (below_of z.number) z.known (unfold below_of in all_lt (z.number - 1)) (λ i m. lower_known_lem i (has_site (below_of z.number) i m).least (rw mine at (below_in z.number i m)))

          go : Dec (z.leader < z.number) → z.leader ≡ z.number
          go (no n) = omega (arith, (site_parts z (g.places s x.least x.most).sound).leader)
          go (yes l) = absurd (acts s step.TakeOver x refl refl (unfold take_over_of in simp (lt-ltb z.leader z.number l, below) (taken_over z.state z)))

      itself : (view_of w r).ld s ≡ s
      itself = ld_is ∙ leads ∙ mine

      -- it has left q
      not_q : z.state ≡ Q → ⊥
      not_q q = go (ℕ_discrete s 1)
        where
          go : Dec (s ≡ 1) → ⊥
          go (no ne) = o.shared.left s x (itself, λ f. ne f.0) (rw (st_is ∙ q) tt)
          go (yes e) = acts s (step.Begin vote.Yes) x refl refl (unfold begin_of in simp (eq-eqb z.number 1 (mine ∙ e), q) tt)

      due : (i : ℕ) → Runs r i → i ≢ s → Due Central (view_of w r).live s z.state z.leader i ((view_of w r).st i)
      due i y ne = subst (λ (q : State). Due Central (view_of w r).live s q z.leader i ((view_of w r).st i)) st_is (subst (λ (l : ℕ). Due Central (view_of w r).live s ((view_of w r).st s) l i ((view_of w r).st i)) ld_is (o.shared.due s i x y (λ e. ne (sym e))))

      asks : (i : ℕ) → Runs r i → i ≢ s → Asks (view_of w r).live s z.state i ((view_of w r).st i)
      asks i y ne = subst (λ (q : State). Asks (view_of w r).live s q i ((view_of w r).st i)) st_is ((o.central refl).asks s i x y (λ e. ne (sym e)))

      -- site 1 in w would conclude
      not_first : s ≡ 1 → z.state ≡ W → ⊥
      not_first e q = acts s step.Conclude x refl refl (unfold conclude_of polls tally_of in simp (q, eq-eqb z.number 1 (mine ∙ e)) (go (not (eqb z.no 0) || not (subset z.known z.yes)) refl))
        where
          said : (z.no ≡ 0) → subset z.known z.yes ≡ true → (i : ℕ) → In (others_of z.n z.number) i → In z.yes i
          said n k i m =
              let p : Site i = has_site (others_of z.n z.number) i m in
              let l : i ≤ r.n = rw size at (others_in z.n z.number i m) in
              let ne : i ≢ s = λ f. others_out z.n z.number i m (f ∙ sym mine) in
              ⊎_elim (subset_has z.known z.yes i k)
              (λ f. let y : Runs r i = others_run i p.least l ne f in
              ⊎_elim (λ m. absurd (held Start s i p.least m)) (⊎_elim (held Yes i s x.least) (λ m. absurd (in_none i (rw n at (held No i s x.least m))))) ((asks i y ne).asked e (rw q tt)))
              (either (has z.known i))

          go : (b : Bool) → (not (eqb z.no 0) || not (subset z.known z.yes)) ≡ b
              → IsAccepted (cond b (taken (in_state z A) 8 (to_all z)) (cond (subset (others_of z.n z.number) z.yes) (taken (in_state z P) 4 (to_all z)) (refused z NotAllowed))).outcome
          go true f = tt
          go false f =
              let n : z.no ≡ 0 = eqb-true z.no 0 (not-false (eqb z.no 0) (or_none (not (eqb z.no 0)) (not (subset z.known z.yes)) f).0) in
              let k : subset z.known z.yes ≡ true = not-false (subset z.known z.yes) (or_none (not (eqb z.no 0)) (not (subset z.known z.yes)) f).1 in
              simp (subset_of (others_of z.n z.number) z.yes (others_lt z.n z.number) (said n k)) tt

      -- a leader in w or p would conclude
      not_waiting : (First Central s z.state z.leader → ⊥) → WP z.state → polls z ≡ false → collects z ≡ true → ⊥
      not_waiting late q f c = acts s step.Conclude x refl refl (unfold conclude_of settle_of in simp (f, c, eq-eqb (awaited_of z) 0 none) (go (is_p z.state)))
        where
          go : (b : Bool) → IsAccepted (cond b (taken (in_state z C) 7 (to_all z)) (taken (in_state z A) 8 (to_all z))).outcome
          go true = tt
          go false = tt

          acked : (i : ℕ) → In (minus (to_all z) z.acked) i → ⊥
          acked i m =
              let a : In (to_all z) i = minus_in (to_all z) z.acked i m in
              let b : In (others_of z.n z.number) i = unfold to_all in minus_in (others_of z.n z.number) z.known i a in
              let k : has z.known i ≡ false = unfold to_all in minus_out (others_of z.n z.number) z.known i a in
              let p : Site i = has_site (to_all z) i a in
              let ne : i ≢ s = λ e. others_out z.n z.number i b (e ∙ sym mine) in
              let y : Runs r i = others_run i p.least (rw size at (others_in z.n z.number i b)) ne k in
              ⊎_elim (held MoveP s i p.least) (⊎_elim (held MoveW s i p.least) (λ u. clash (held Ack i s x.least u) (minus_out (to_all z) z.acked i m)))
              ((due i y ne).moved (leads ∙ mine, late) q)

          none : awaited_of z ≡ 0
          none =
              let e : awaited_of z ≡ minus (to_all z) z.acked = unfold awaited_of in simp (f, c) in
              e ∙ nobody (minus (to_all z) z.acked) (minus_lt (to_all z) z.acked (unfold to_all in minus_lt (others_of z.n z.number) z.known (others_lt z.n z.number))) (λ i. fails (has (minus (to_all z) z.acked) i) (acked i))

      -- so it has decided, and its order to every other running site has come
      decided : (q : State) → z.state ≡ q → (j : ℕ) → Runs r j → IsA ((view_of w r).st j) ⊎ IsC ((view_of w r).st j)
      decided Q e j y = absurd (not_q e)
      decided W e j y = go (ℕ_discrete s 1)
        where
          go : Dec (s ≡ 1) → IsA ((view_of w r).st j) ⊎ IsC ((view_of w r).st j)
          go (yes d) = absurd (not_first d e)
          go (no d) =
              absurd (not_waiting (λ f. d f.0) (rw e tt) (unfold polls in simp (e, ne_eqb z.number 1 (λ f. d (sym mine ∙ f)))) (unfold collects in simp (eq-eqb z.leader z.number leads, e, ne_eqb z.number 1 (λ f. d (sym mine ∙ f)))))
      decided P e j y = absurd (not_waiting (λ f. rw e at f.1) (rw e tt) (unfold polls in simp e) (unfold collects in simp (eq-eqb z.leader z.number leads, e)))
      decided A e j y =
          inl (by_site (λ i. Runs r i → IsA ((view_of w r).st i)) s (λ _. rw (st_is ∙ e) tt)
          (λ i d y. ⊎_elim (λ m. absurd (held Abort s i y.least m)) (λ u. u) ((due i y d).aborts (leads ∙ mine, λ f. rw e at f.1) (rw e tt))) j y)
      decided C e j y =
          inr (by_site (λ i. Runs r i → IsC ((view_of w r).st i)) s (λ _. rw (st_is ∙ e) tt)
          (λ i d y. ⊎_elim (λ m. absurd (held Commit s i y.least m)) (λ u. u) ((due i y d).commits (leads ∙ mine, λ f. rw e at f.1) (rw e tt))) j y)

  -- ---- the lowest running site is there

  runs? : (i : ℕ) → Runs r i ⊎ (Runs r i → ⊥)
  runs? i = go (dec_lt 0 i) (dec_lt r.n i) (either (has r.stopped i))
    where
      go : Dec (0 < i) → Dec (r.n < i) → In r.stopped i ⊎ (has r.stopped i ≡ false) → Runs r i ⊎ (Runs r i → ⊥)
      go (no p) q d = inr (λ x. absurd (omega (arith, x.least)))
      go (yes p) (yes q) d = inr (λ x. absurd (omega (arith, x.most)))
      go (yes p) (no q) (inl d) = inr (λ x. clash d x.up)
      go (yes p) (no q) (inr d) = inl (record { least = omega arith; most = omega arith; up = d })

  lowest : (m : ℕ) → ((k : ℕ) × Runs r k × Lowest (view_of w r) k) ⊎ ((i : ℕ) → i < m → Runs r i → ⊥)
  lowest zero = inr (λ i l x. absurd (omega arith))
  lowest (suc m) = go (lowest m) (runs? m)
    where
      go : ((k : ℕ) × Runs r k × Lowest (view_of w r) k) ⊎ ((i : ℕ) → i < m → Runs r i → ⊥) → Runs r m ⊎ (Runs r m → ⊥) → ((k : ℕ) × Runs r k × Lowest (view_of w r) k) ⊎ ((i : ℕ) → i < suc m → Runs r i → ⊥)
      go (inl k) d = inl k
      go (inr n) (inl x) = inl (m, x, n)
      go (inr n) (inr f) = inr (λ i l x. at i l x (ℕ_discrete i m))
        where
          at : (i : ℕ) → i < suc m → Runs r i → Dec (i ≡ m) → ⊥
          at i l x (yes e) = f (rw e at x)
          at i l x (no e) = n i (omega arith) x

  pub all_decided : (j : ℕ) → Runs r j → IsA ((view_of w r).st j) ⊎ IsC ((view_of w r).st j)
  all_decided j y = ⊎_elim (λ k. decided k.0 k.1 k.2 (site_at r k.0).state refl j y) (λ n. absurd (n j (omega arith) y)) (lowest (suc j))

-- ---- a run from fresh

pub decided_after : (n : ℕ) → 2 ≤ n → n ≤ 8 → (es : List Event) → ((e : Event) → accepted_by (event_of (after n es).run e).outcome ≡ 1 → IsStop e)
    → (i : ℕ) → Runs (after n es).run i → ((record_in (after n es).run.sites i).state ≡ C) ⊎ ((record_in (after n es).run.sites i).state ≡ A)
decided_after n p q es h i x =
    ⊎_elim (λ a. inr (is_a _ a)) (λ c. inl (is_c_lem _ c))
    (all_decided w r (held_after n p q es) (owed_votes nothing w r (owed_after n p q es)) g.sound (sound_parts r g.bytes.shape g.sound)
    (λ s t a. h (Act s t) (accepted_by_lem (event_of r (Act s t)).outcome a)) i x)
  where
    r : Run
    r = (after n es).run

    w : ℕ → Type 0
    w = With nothing (Voted (fresh_of n).run es)

    g : run.IsGood r
    g = run.after_good n es p q
