-- Every event of a run keeps the invariant.
-- Assumes nothing.
use Prim.Native.Nat.{ℕ, ◌≤◌}
use mathlib.Core.Bool.{Bool, true, cond}
use mathlib.Core.List.{List, [], ◌∷◌}
use mathlib.Core.Path.{◌≡◌, refl, sym, ap, subst, ◌∙◌}
use mathlib.Core.Logic.{◌≢◌, ◌⊎◌, inl, inr, ⊎_elim}
use native.Mathlib.Omega.{arith}
use lib.Dec.{eqb}
use lib.ListN.{length, length-set, length-map}
use borrow.Author.Tests.{ne_eqb}
use Rattle.sets.specs.Sets.{has, both, minus, with_site}
use Rattle.std.specs.Prelude.{Err}
use Rattle.refusal.specs.declared.Refusal.{Refusal}
use Rattle.refusal.specs.declared.Refusal.TheVariants.{Conflict}
use Rattle.site.specs.declared.Vote.TheVariants as vote
use Rattle.site.specs.declared.Outcome.{Outcome}
use Rattle.site.specs.declared.Outcome.TheVariants.{Taken, Passed, Refused}
use Rattle.site.specs.declared.Step.{Step}
use Rattle.site.specs.declared.Step.TheVariants as step_is
use Rattle.site.specs.declared.Done.{Done}
use Rattle.site.specs.Site.{names_of}
use Rattle.site.specs.Step.{rule_of, done_of, answered, step_of}
use Rattle.run.specs.declared.Run.{Run}
use Rattle.run.specs.declared.Event.{Event}
use Rattle.run.specs.declared.Event.TheVariants.{Act, Stop, Cut}
use Rattle.run.specs.declared.Ran.{Ran}
use Rattle.run.specs.Run.{site_at, taken_out, sent_by, stopped_at, taken_in}
use Rattle.run.specs.Sound.{Sound}
use Rattle.run.specs.Event.{got_by, got_from, whole_step, applied, event_of}
use Rattle.run.specs.After.{accepted_by}
use Rattle.promise.proofs.SetsMembers.{In, in_none, minus_in, both_l, both_r}
use Rattle.run.proofs.Views.{Shape}
use Rattle.promise.proofs.RunViews.{record_in, Placed, placed, replaced, others, Runs, Out, taken_less}
use Rattle.run.proofs.SoundLaws.{sound_parts}
use Rattle.run.proofs.Account.{Able, Acting, Accepted, Why, Denied, Refuses, fate, happens, then_accepted, actor_most}
use Rattle.run.proofs.Account.Accepted.{acts, stops, cuts}
use Rattle.run.proofs.Account.Why.{misnamed, stopped, missing, own}
use Rattle.run.proofs.Account.Denied.{unsound, step, not_one, again}
use Rattle.run.proofs.Applied.{halt_applied, none_taken}
use Rattle.run.proofs.RunLaws.{cut_accepted}
use Rattle.promise.proofs.RunEvents.{IsAccepted, accepted_is, running, stop_run}
use Rattle.promise.proofs.Classes.{IsYes, Gives, IsQ, yes_gives}
use Rattle.promise.proofs.View.{Inv}
use Rattle.promise.proofs.First.{Own}
use Rattle.promise.proofs.Less.{Less, stop, Votes, stop_less}
use Rattle.promise.proofs.Become.{by_site, become}
use Rattle.promise.proofs.Send.{send}
use Rattle.promise.proofs.Kept.{Kept, kept_less, kept_whole, kept_cut}
use Rattle.promise.proofs.Seen.{number, view_of, whole_run, wholly_less, stopped_view, part_run, partly_less}
use Rattle.promise.proofs.Brings.{Delivers, Voices, Starts}
use Rattle.promise.proofs.Stepping.{Sure, Stepped, steps}
use Rattle.promise.specs.Words.{Voted, begins, answers, leaves, later}

-- What runs from fresh have: the lists' lengths, and the invariant of safety.
pub record Upheld (w : ℕ → Type 0) (r : Run) : Type 0 where
  pub shape : Shape r
  pub inv : Inv (view_of w r)
  pub own : Own (view_of w r)

-- The same, as what every run keeps.
kept_of : {w : ℕ → Type 0} {r : Run} → Upheld w r → Kept (view_of w r)
kept_of h = record { shared = h.inv; first = h.own }

-- ---- votes of one event

-- some event gives a vote
pub some : {r : Run} {es : List Event} {j : ℕ} → Voted r es j → length es ≡ 0 → ⊥
some (begins h) z = omega arith
some (answers h) z = omega arith
some (leaves h x) z = omega arith
some (later h) z = omega arith

-- the event e gives the vote of j
abbrev pub Now : Run → Event → ℕ → Type 0
Now r e j = Voted r (e ∷ []) j

-- what a vote in an event says of it, and which event gives one
spoken : {r : Run} {s : ℕ} {t : Step} {j : ℕ} → Now r (Act s t) j → (j ≡ s) × Voices t × ((event_of r (Act s t)).outcome ≡ Taken)
spoken (begins h) = (refl, tt, h)
spoken (answers h) = (refl, tt, h)
spoken (later h) = absurd (some h refl)

spoken_cut : {r : Run} {s x : ℕ} {t : Step} {j : ℕ} → Now r (Cut s t x) j → (j ≡ s) × Voices t × ((event_of r (Act s t)).outcome ≡ Taken)
spoken_cut (leaves h y) = (refl, tt, h)
spoken_cut (later h) = absurd (some h refl)

speaks : (r : Run) (s : ℕ) (t : Step) → Voices t → (event_of r (Act s t)).outcome ≡ Taken → Now r (Act s t) s
speaks r s (step_is.Begin vote.Yes) v h = begins h
speaks r s (step_is.Start k vote.Yes) v h = answers h
speaks r s (step_is.Begin vote.No) v h = absurd v
speaks r s (step_is.Start k vote.No) v h = absurd v
speaks r s (step_is.Deliver k i) v h = absurd v
speaks r s (step_is.Notice o) v h = absurd v
speaks r s step_is.TakeOver v h = absurd v
speaks r s step_is.Conclude v h = absurd v

speaks_cut : (r : Run) (s : ℕ) (t : Step) (x : ℕ) → Voices t → Starts t → (event_of r (Act s t)).outcome ≡ Taken → has x 1 ≡ true → Now r (Cut s t x) s
speaks_cut r s (step_is.Start k vote.Yes) x v o h e = leaves h e
speaks_cut r s (step_is.Start k vote.No) x v o h e = absurd v
speaks_cut r s (step_is.Begin u) x v o h e = absurd o
speaks_cut r s (step_is.Deliver k i) x v o h e = absurd o
speaks_cut r s (step_is.Notice u) x v o h e = absurd o
speaks_cut r s step_is.TakeOver x v o h e = absurd o
speaks_cut r s step_is.Conclude x v o h e = absurd o

-- the votes after an event
abbrev pub With : (ℕ → Type 0) → (ℕ → Type 0) → ℕ → Type 0
With w v j = w j ⊎ v j

-- ---- a step of site s, accepted

-- an accepted step is seen
sure : {X : Type 0} (o : Outcome) → IsAccepted o → Sure o X → X
sure Taken h x = x
sure Passed h x = x
sure (Refused g) h x = absurd h

-- the network without the message that a step delivers
abbrev pub lessened : Run → ℕ → Step → List ℕ
lessened r s t = taken_in r.net (got_by t) (got_from t) s

-- a step takes nothing out of the network, or the one message that it delivers: what holds in both cases, of the network and of what is delivered, holds
pub by_delivery : (M : List ℕ → (ℕ → ℕ → Type 0) → Type 0) (r : Run) (s : ℕ) (t : Step) → Shape r → M r.net (λ K k. ⊥)
    → ((c f : ℕ) → M (taken_in r.net c f s) (λ K k. (c ≡ K) × (f ≡ k))) → M (lessened r s t) (Delivers t)
by_delivery M r s t h none one = go t
  where
    nothing : M (taken_in r.net 0 0 s) (λ K k. ⊥)
    nothing = subst (λ (l : List ℕ). M l (λ K k. ⊥)) (sym (none_taken r s h)) none

    go : (t : Step) → M (lessened r s t) (Delivers t)
    go (step_is.Begin v) = nothing
    go (step_is.Start f v) = one 1 f
    go (step_is.Deliver c f) = one c f
    go (step_is.Notice o) = nothing
    go step_is.TakeOver = nothing
    go step_is.Conclude = nothing

-- so it leaves fewer messages
pub lessened_len : (r : Run) (s : ℕ) (t : Step) → Shape r → length (lessened r s t) ≡ 72
lessened_len r s t h = length-set r.net _ _ ∙ h.net

pub lessened_less : (r : Run) (s : ℕ) (t : Step) → Shape r → (K k i : ℕ) → Out (lessened r s t) K k i → Out r.net K k i
lessened_less r s t h = taken_less r.net (got_by t) (got_from t) s h.net

-- a step of a site of a sound run, with the right names, goes by its rule
pub by_rule : (r : Run) (g : Sound r) (s : ℕ) (t : Step) → Runs r s → names_of (site_at r s) t ≡ true → step_of (site_at r s) t ≡ answered (rule_of (site_at r s) t)
unfolding step_of done_of
by_rule r g s t x n = simp ((g.places s x.least x.most).sound, n)

-- What a step of site s does, the kind of what it writes, and the run after the whole step.
abbrev pub done_at : Run → ℕ → Step → Done
done_at r s t = rule_of (site_at r s) t

abbrev pub kind_at : Run → ℕ → Step → ℕ
kind_at r s t = cond (eqb (done_at r s t).to 0) 0 (done_at r s t).kind

abbrev pub whole_at : Run → ℕ → Step → Run
whole_at r s t = whole_run r (lessened r s t) s (done_at r s t).site (kind_at r s t) (minus (done_at r s t).to r.stopped)

-- Where s stops inside the step and messages to x leave: to whom, and the run after it.
abbrev pub leaving : Run → ℕ → Step → ℕ → ℕ
leaving r s t x = minus (both (done_at r s t).to x) (with_site r.stopped s)

abbrev pub part_at : Run → ℕ → Step → ℕ → Run
part_at r s t x = part_run r s (kind_at r s t) (leaving r s t x)

-- What is known of an accepted step.
pub record Known (w : ℕ → Type 0) (r : Run) (h : Upheld w r) (s : ℕ) (t : Step) (al : Acting r s t) : Type 0 where
  pub good : Sound r
  pub most : s ≤ 8
  pub seen : Stepped w r good h.inv s (running al.able) t (done_at r s t)
  pub kinds : (i : ℕ) → In (done_at r s t).to i → kind_at r s t ≡ number seen.κ
  pub outcome : (event_of r (Act s t)).outcome ≡ (done_at r s t).outcome
  pub whole_run_lem : (event_of r (Act s t)).run ≡ whole_at r s t
  pub part_run_lem : (x : ℕ) → (event_of r (Cut s t x)).run ≡ part_at r s t x
  -- the record of s before and after the step, and the others
  pub place : Placed r s
  pub new : record_in (whole_at r s t).sites s ≡ (done_at r s t).site
  pub still : (i : ℕ) → i ≢ s → record_in (whole_at r s t).sites i ≡ record_in r.sites i

module _ (w : ℕ → Type 0) (r : Run) (h : Upheld w r) (s : ℕ) (t : Step) (al : Acting r s t) where
  abbrev d : Done
  d = done_at r s t

  pub known : Known w r h s t al
  unfolding applied taken_out sent_by stopped_at answered
  known =
      record {
        good = good;
        most = most;
        seen = seen;
        kinds = λ i y. ap (λ (b : Bool). cond b 0 d.kind) (ne_eqb d.to 0 (λ e. in_none i (rw e at y))) ∙ seen.kind i y;
        outcome = ap (λ (a : Ran). a.outcome) (happens (acts al)) ∙ ap (λ a. a.outcome) rule_is;
        whole_run_lem = ap (λ (a : Ran). a.run) (happens (acts al)) ∙ ap (λ a. applied r s (whole_step t a)) rule_is;
        part_run_lem = λ x. ap (λ (a : Ran). a.run) (happens (cuts {x = x} al)) ∙ halt_applied r s _ _ h.shape ∙ ap (λ a. sent_by (stopped_at r s) a.kind s (both a.to x)) rule_is;
        place = placed good (running al.able);
        new = replaced r.sites s d.site (running al.able).least (omega (arith, h.shape.sites, most));
        still = others r.sites s d.site (running al.able).least;
      }
    where
      good : Sound r
      good = sound_parts r h.shape al.able.sound

      most : s ≤ 8
      most = omega (arith, (running al.able).most, good.most)

      rule_is : step_of (site_at r s) t ≡ answered d
      rule_is = by_rule r good s t (running al.able) al.names

      seen : Stepped w r good h.inv s (running al.able) t d
      seen = sure d.outcome (subst (λ a. IsAccepted a.outcome) rule_is (accepted_is (step_of (site_at r s) t).outcome al.accepted)) (steps w r good h.inv s (running al.able) t al.names al.there)

  open known use {most, seen, kinds, outcome, whole_run_lem, part_run_lem}

  -- the run after the step is no more than the invariant allows for
  pub whole_less : (w' : ℕ → Type 0) → Less (view_of w' (whole_at r s t)) (send (become (view_of w r) s d.site.state d.site.leader (view_of w' r).voted) seen.κ s (λ i. In d.to i))
  whole_less w' =
      wholly_less w w' r h.shape (lessened r s t) (lessened_len r s t h.shape) s (running al.able).least most d.site (kind_at r s t) (minus d.to r.stopped) seen.κ
      (λ i. In d.to i) (lessened_less r s t h.shape) (λ i y. let z = minus_in d.to r.stopped i y in (kinds i z, z)) seen.holds.heard

  pub part_less : (w' : ℕ → Type 0) (x : ℕ) → Less (view_of w' (part_at r s t x)) (send (stop (view_of w r) s (view_of w' r).voted) seen.κ s (λ i. In (both d.to x) i))
  part_less w' x =
      partly_less w w' r h.shape s (running al.able).least most (kind_at r s t) (leaving r s t x) seen.κ (λ i. In (both d.to x) i)
      (λ i y. let z = minus_in (both d.to x) (with_site r.stopped s) i y in (kinds i (both_l d.to x i z), z))

  -- the votes
  module _ (v : ℕ → Type 0) (who : (i : ℕ) → v i → (i ≡ s) × Voices t × ((event_of r (Act s t)).outcome ≡ Taken)) where
    given : v s → Gives seen.κ × IsQ ((view_of w r).st s)
    given y = seen.votes.voices (who s y).1 (sym outcome ∙ (who s y).2)

    votes : Votes (view_of w r) s (view_of (With w v) r).voted
    votes =
        record {
          old = λ i f p q. inl (f p q);
          new = by_site (λ i. (1 ≤ i → i ≤ r.n → With w v i) → (view_of w r).voted i ⊎ ((i ≡ s) × IsQ ((view_of w r).st s))) s (λ f. at_s (f (running al.able).least (running al.able).most))
              (λ i ne f. inl (λ p q. ⊎_elim (λ y. y) (λ y. absurd (ne (who i y).0)) (f p q)));
        }
      where
        at_s : w s ⊎ v s → (view_of w r).voted s ⊎ ((s ≡ s) × IsQ ((view_of w r).st s))
        at_s (inl y) = inl (λ _ _. y)
        at_s (inr y) = inr (refl, (given y).1)

    quiet : (Gives seen.κ → ⊥) → (view_of (With w v) r).voted s → (view_of w r).voted s
    quiet n f p q = ⊎_elim (λ y. y) (λ y. absurd (n (given y).0)) (f p q)

  pub whole_held : Upheld (With w (Now r (Act s t))) (event_of r (Act s t)).run
  whole_held =
      subst (Upheld (With w (Now r (Act s t)))) (sym whole_run_lem)
      (record {
        shape = record { sites = length-set r.sites _ _ ∙ h.shape.sites; net = length-set (lessened r s t) _ _ ∙ lessened_len r s t h.shape };
        inv = after.shared;
        own = after.first;
      })
    where
      after : Kept (view_of (With w (Now r (Act s t))) (whole_at r s t))
      after =
          kept_less _ _ (whole_less (With w (Now r (Act s t))))
          (kept_whole (view_of w r) s (kept_of h) (running al.able) _ (votes (Now r (Act s t)) (λ i. spoken)) _ _ seen.κ seen.uses (λ i. In d.to i) (λ i. In d.to i) seen.act (λ i y. y)
          (λ y p q. inr (speaks r s t (seen.votes.gives y).0 (outcome ∙ (seen.votes.gives y).1))) (quiet (Now r (Act s t)) (λ i. spoken)))

  pub part_held : (x : ℕ) → Upheld (With w (Now r (Cut s t x))) (event_of r (Cut s t x)).run
  part_held x =
      subst (Upheld (With w (Now r (Cut s t x)))) (sym (part_run_lem x))
      (record {
        shape = record { sites = h.shape.sites; net = simp (length-set, length-map) h.shape.net };
        inv = after.shared;
        own = after.first;
      })
    where
      left : IsYes seen.κ → (i : ℕ) → In (both d.to x) i → (view_of (With w (Now r (Cut s t x))) r).voted s
      left o i y p q =
          let e = seen.votes.leaves o i (both_l d.to x i y) in
          let g = seen.votes.gives (yes_gives seen.κ o) in
          inr (speaks_cut r s t x g.0 e.0 (outcome ∙ g.1) (subst (λ (i : ℕ). has x i ≡ true) e.1 (both_r d.to x i y)))

      after : Kept (view_of (With w (Now r (Cut s t x))) (part_at r s t x))
      after =
          kept_less _ _ (part_less (With w (Now r (Cut s t x))) x)
          (kept_cut (view_of w r) s (kept_of h) (running al.able) _ (votes (Now r (Cut s t x)) (λ i. spoken_cut)) _ _ seen.κ seen.uses (λ i. In d.to i) (λ i. In (both d.to x) i) seen.act
          (λ i y. both_l d.to x i y) left (quiet (Now r (Cut s t x)) (λ i. spoken_cut)))

-- ---- every event

-- the votes may be written in another way
pub revote : (w w' : ℕ → Type 0) (r : Run) → ((i : ℕ) → w i → w' i) → ((i : ℕ) → w' i → w i) → Upheld w r → Upheld w' r
revote w w' r f g h = record { shape = h.shape; inv = after.shared; own = after.first }
  where
    after : Kept (view_of w' r)
    after =
        kept_less (view_of w r) (view_of w' r)
        (record { by = refl; absent = λ i y. y; st = λ i. refl; ld = λ i. refl; runs = λ i y. y; old = λ i y p q. f i (y p q); new = λ i y. inl (λ p q. g i (y p q)); live = λ κ k i y. y })
        (kept_of h)

module _ (w : ℕ → Type 0) (r : Run) (h : Upheld w r) where
  -- a refused event changes nothing, and gives no vote
  refused_held : (e : Event) → Refuses r e → Upheld (With w (Now r e)) (event_of r e).run
  refused_held e n =
      subst (Upheld (With w (Now r e))) (sym (ap (λ (a : Ran). a.run) n.unchanged)) (revote w (With w (Now r e)) r (λ i y. inl y) (λ i. ⊎_elim (λ y. y) (λ y. absurd (silent e n i y))) h)
    where
      counts : (e : Event) → Refuses r e → accepted_by (event_of r e).outcome ≡ 1 → ⊥
      counts e n q = let z : ◌≡◌ {A = ℕ} 0 1 = sym (ap (λ (a : Ran). accepted_by a.outcome) n.unchanged) ∙ q in omega arith

      silent : (e : Event) → Refuses r e → (i : ℕ) → Now r e i → ⊥
      silent (Act s t) n i y = counts (Act s t) n (ap accepted_by (spoken y).2)
      silent (Cut s t x) n i y = counts (Cut s t x) n (cut_accepted r s t x ∙ ap accepted_by (spoken_cut y).2)
      silent (Stop s) n i (later y) = some y refl

  stop_held : (s : ℕ) → Able r s → Upheld (With w (Now r (Stop s))) (event_of r (Stop s)).run
  stop_held s n =
      subst (Upheld (With w (Now r (Stop s)))) (sym (stop_run h.shape n))
      (revote w (With w (Now r (Stop s))) (stopped_at r s) (λ i y. inl y) (λ i. ⊎_elim (λ y. y) silent) stops_held)
    where
      silent : {i : ℕ} → Now r (Stop s) i → w i
      silent (later y) = absurd (some y refl)

      stops_held : Upheld w (stopped_at r s)
      stops_held = record { shape = unfold stopped_at in record { sites = h.shape.sites; net = length-map r.net _ ∙ h.shape.net }; inv = after.shared; own = after.first }
        where
          after : Kept (view_of w (stopped_at r s))
          after =
              kept_less _ _ (stopped_view r s (actor_most n) w w)
              (kept_less _ _ (stop_less (view_of w r) s _ (running n) (record { old = λ i y. y; new = λ i y. inl y })) (kept_of h))

  pub keeps : (e : Event) → Upheld (With w (Now r e)) (event_of r e).run
  keeps e = ⊎_elim go (refused_held e) (fate r e)
    where
      go : {e : Event} → Accepted r e → Upheld (With w (Now r e)) (event_of r e).run
      go (acts {s} {t} al) = whole_held w r h s t al
      go (cuts {s} {t} {x = x} al) = part_held w r h s t al x
      go (stops {s} n) = stop_held s n

  -- a step that a site refuses is no conflict
  peaceful : {s : ℕ} {g : Refusal} {t : Step} → Why r s t (Err g) → g ≡ Conflict → ⊥
  unfolding answered
  peaceful (misnamed e) q = cc
  peaceful (stopped e) q = cc
  peaceful (missing a e) q = cc
  peaceful {s} {t = t} (own a m i o) q =
      subst (λ (o : Outcome). Sure o (Stepped w r (sound_parts r h.shape a.sound) h.inv s (running a) t (rule_of (site_at r s) t)))
      (sym (ap (λ b. b.outcome) (by_rule r (sound_parts r h.shape a.sound) s t (running a) m)) ∙ o)
      (steps w r (sound_parts r h.shape a.sound) h.inv s (running a) t m i) q

  -- no event conflicts
  pub at_peace : (e : Event) → (event_of r e).outcome ≡ Refused Conflict → ⊥
  at_peace e q = ⊎_elim taken refused (fate r e)
    where
      taken : Accepted r e → ⊥
      taken a = let z : ◌≡◌ {A = ℕ} 1 0 = sym (then_accepted a) ∙ ap accepted_by q in omega arith

      grounded : {e : Event} {g : Refusal} → Denied r e g → g ≡ Conflict → ⊥
      grounded (unsound e) q = cc
      grounded (step a y) q = peaceful y q
      grounded (not_one e) q = cc
      grounded (again e) q = cc

      refused : Refuses r e → ⊥
      refused n = grounded n.why (let e = sym (ap (λ (a : Ran). a.outcome) n.unchanged) ∙ q in cc)
