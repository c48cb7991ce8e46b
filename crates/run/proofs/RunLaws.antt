-- Theorems about every event of every run: refusals, stops inside a step, how the views change, what is left alone, and that
-- a and c are never left. (SoundLaws says what soundness means, GoodRuns that it is kept.)
-- Assumes nothing.
use Prim.Native.Nat.{ℕ, ◌-◌, ◌≤◌}
use mathlib.Core.Bool.{Bool, true, false, cond, not, ◌&&◌, ◌||◌}
use mathlib.Core.Path.{◌≡◌, refl, sym, ap, subst, ◌∙◌}
use mathlib.Core.Logic.{◌≢◌, ⊎_elim}
use native.Mathlib.Omega.{arith}
use lib.Dec.{eqb, lit<}
use lib.ListN.{get_or}
use borrow.Author.Tests.{ne_eqb}
use Rattle.sets.specs.Sets.{has}
use Rattle.sets.proofs.SetLaws.{has_none, has_both}
use Rattle.sets.proofs.SubsetLaws.{both_lt}
use Rattle.sets.proofs.Truths.{and_l, and_r, or_e, or_r, clash}
use Rattle.site.specs.declared.State.TheVariants.{A, C}
use Rattle.site.specs.declared.Site.{Site}
use Rattle.refusal.specs.declared.Refusal.{Refusal}
use Rattle.refusal.specs.declared.Refusal.TheVariants.{NotSound}
use Rattle.refusal.specs.Refusals.{Test}
use Rattle.site.specs.declared.Outcome.{Outcome}
use Rattle.site.specs.declared.Outcome.TheVariants.{Taken, Passed, Refused}
use Rattle.site.specs.declared.Step.{Step}
use Rattle.site.specs.Step.{step_of}
use Rattle.site.proofs.SiteLaws.{abort_kept, commit_kept, to_lt}
use Rattle.site.proofs.SiteMessages.{message}
use Rattle.run.specs.declared.Run.{Run}
use Rattle.run.specs.declared.Event.{Event}
use Rattle.run.specs.declared.Event.TheVariants.{Act, Stop, Cut}
use Rattle.run.specs.declared.Effect.{Effect}
use Rattle.run.specs.declared.Ran.{Ran}
use Rattle.run.specs.Run.{no_site, site_at, state_of, leader_of, knows, outstanding, has_stopped}
use Rattle.run.specs.Sound.{sound_run}
use Rattle.run.specs.Event.{actor, step_ground, refused_run, effect_of, applied, unless, happened, goes_of, event_of}
use Rattle.run.specs.After.{accepted_by}
use Rattle.run.proofs.RunSteps.{set_either}
use Rattle.run.proofs.Views.{Shape, is_place, parts_place}
use Rattle.run.proofs.Account.{Able, Accepted, actor_least, actor_most, Why, why, Account, account, happens, Refuses, fate, then_accepted}
use Rattle.run.proofs.Account.Accepted.{acts, stops, cuts}
use Rattle.run.proofs.Account.Why.{fine, misnamed, stopped, missing, own}
use Rattle.run.proofs.Account.Account.{accepted, denied}
use Rattle.run.proofs.Applied.{takes_out, writes, stops_at, Fits, Applied, applied_is, sites_applied}

-- ---- refusals

-- "Refused: run and site come back unchanged, no message, zero counts"
pub refused_unchanged : (r : Run) (e : Event) (g : Refusal) → (event_of r e).outcome ≡ Refused g → event_of r e ≡ refused_run r g
refused_unchanged r e g q = ⊎_elim taken refused (fate r e)
  where
    taken : Accepted r e → event_of r e ≡ refused_run r g
    taken a = let z : ◌≡◌ {A = ℕ} 1 0 = sym (then_accepted a) ∙ ap accepted_by q in absurd (omega arith)

    refused : Refuses r e → event_of r e ≡ refused_run r g
    refused n = n.unchanged ∙ ap (refused_run r) (let e = sym (ap (λ (x : Ran). x.outcome) n.unchanged) ∙ q in cc)

-- how a stop inside a step ends, by how the step would: "refused as that step would be", else taken
abbrev pub cut_outcome : Outcome → Outcome
cut_outcome Taken = Taken
cut_outcome Passed = Taken
cut_outcome (Refused g) = Refused g

pub cut_outcome_lem : (r : Run) (s : ℕ) (t : Step) (x : ℕ) → (event_of r (Cut s t x)).outcome ≡ cut_outcome (event_of r (Act s t)).outcome
unfolding event_of goes_of
cut_outcome_lem r s t x = go (sound_run r) refl
  where
    taken : (o : Outcome) → accepted_by o ≡ 1 → Taken ≡ cut_outcome o
    taken Taken y = refl
    taken Passed y = refl
    taken (Refused g) y = absurd (omega arith)

    same : {g : Test} → Why r s t g → (unless g r (happened r (Cut s t x))).outcome ≡ cut_outcome (unless g r (happened r (Act s t))).outcome
    same (fine a) = taken (step_of (site_at r s) t).outcome a.accepted
    same (misnamed q) = refl
    same (stopped q) = refl
    same (missing a q) = refl
    same (own a n i q) = refl

    go : (b : Bool) → sound_run r ≡ b → (cond b (unless (step_ground r s t) r (happened r (Cut s t x))) (refused_run r NotSound)).outcome
        ≡ cut_outcome (cond b (unless (step_ground r s t) r (happened r (Act s t))) (refused_run r NotSound)).outcome
    go true p = same (why r s t p)
    go false p = refl

-- a stop inside a step is accepted exactly when the step is
pub cut_accepted : (r : Run) (s : ℕ) (t : Step) (x : ℕ) → accepted_by (event_of r (Cut s t x)).outcome ≡ accepted_by (event_of r (Act s t)).outcome
cut_accepted r s t x = ap accepted_by (cut_outcome_lem r s t x) ∙ go (event_of r (Act s t)).outcome
  where
    go : (o : Outcome) → accepted_by (cut_outcome o) ≡ accepted_by o
    go Taken = refl
    go Passed = refl
    go (Refused g) = refl

-- ---- the views after an accepted event

-- what a step writes has its place
posted : {r : Run} {s : ℕ} (t : Step) → Able r s → (j : ℕ) → has (step_of (site_at r s) t).to j ≡ true → is_place (step_of (site_at r s) t).kind s ≡ true
posted {r} {s} t a j h =
    let m = message (site_at r s) t j h in
    parts_place (step_of (site_at r s) t).kind s (record { least = m.least; most = omega (arith, m.most); first = actor_least a; last = actor_most a })

-- the effect of an accepted event fits its site
pub fits : {r : Run} {e : Event} → Accepted r e → Fits (actor e) (effect_of r e)
fits {r} (acts {s} {t} a) = record { least = actor_least a.able; most = actor_most a.able; bytes = to_lt (site_at r s) t; places = posted t a.able }
fits (stops a) = record { least = actor_least a; most = actor_most a; bytes = lit< tt; places = λ j h. absurd (clash h (has_none j)) }
fits {r} (cuts {s} {t} {x} a) =
    let to = (step_of (site_at r s) t).to in
    record {
      least = actor_least a.able;
      most = actor_most a.able;
      bytes = both_lt to x (to_lt (site_at r s) t);
      places = λ j h. posted t a.able j (and_l (has to j) (has x j) (sym (has_both to x j) ∙ h));
    }

-- the run after an accepted event is the run with its effect, view by view
pub seen : {r : Run} {e : Event} → Shape r → Accepted r e → Applied r (actor e) (effect_of r e) (event_of r e).run
seen {r} {e} h a = subst (λ (x : Ran). Applied r (actor e) (effect_of r e) x.run) (sym (happens a)) (applied_is r (actor e) (effect_of r e) h (fits a))

-- ---- frame

-- what an event of site s leaves alone, from run r to run w: every other record, the messages to others, those from others,
-- who runs but for s, and who has stopped
pub record Frame (s : ℕ) (r w : Run) : Type 0 where
  pub n : w.n ≡ r.n
  pub records : (i : ℕ) → 1 ≤ i → i ≢ s → site_at w i ≡ site_at r i
  pub stay : (k f j : ℕ) → j ≢ s → outstanding r k f j ≡ true → outstanding w k f j ≡ true
  pub come : (k f j : ℕ) → f ≢ s → outstanding w k f j ≡ true → outstanding r k f j ≡ true
  pub stops : (i : ℕ) → i ≢ s → has_stopped w i ≡ true → has_stopped r i ≡ true
  pub stopped : (i : ℕ) → has_stopped r i ≡ true → has_stopped w i ≡ true

-- an effect of site s reaches nothing else
module _ (r : Run) (s : ℕ) (x : Effect) where
  takes_own : (k f j : ℕ) → j ≢ s → (stops_at x s j || takes_out x s k f j) ≡ false
  unfolding stops_at takes_out
  takes_own k f j d = go x.stops (eqb k x.got && eqb f x.from)
    where
      go : (a b : Bool) → (a && eqb j s || b && eqb j s) ≡ false
      go true true = simp (ne_eqb j s d)
      go true false = simp (ne_eqb j s d)
      go false true = simp (ne_eqb j s d)
      go false false = refl

  writes_own : (k f j : ℕ) → f ≢ s → writes x s k f j ≡ false
  unfolding writes
  writes_own k f j d = go (eqb k x.kind)
    where
      go : (a : Bool) → (a && eqb f s && has x.to j) ≡ false
      go true = simp (ne_eqb f s d)
      go false = refl

  stops_own : (i : ℕ) → i ≢ s → stops_at x s i ≡ false
  unfolding stops_at
  stops_own i d = go x.stops
    where
      go : (a : Bool) → (a && eqb i s) ≡ false
      go true = ne_eqb i s d
      go false = refl

  pub framed : {w : Run} → Applied r s x w → Frame s r w
  framed {w} v =
      record {
        n = v.n;
        records = v.others;
        stay = λ k f j d o. v.net k f j ∙ simp (takes_own k f j d, o);
        come = λ k f j d o. and_r (not (stops_at x s j || takes_out x s k f j)) (outstanding r k f j) (only k f j d o);
        stops = λ i d o. sym (v.stopped i ∙ ap (λ (b : Bool). b || has_stopped r i) (stops_own i d)) ∙ o;
        stopped = λ i o. v.stopped i ∙ or_r (stops_at x s i) (has_stopped r i) o;
      }
    where
      only : (k f j : ℕ) → f ≢ s → outstanding w k f j ≡ true → (not (stops_at x s j || takes_out x s k f j) && outstanding r k f j) ≡ true
      only k f j d o =
          ⊎_elim (λ y. y) (λ y. absurd (clash (and_r (not (stops_at x s j || has_stopped r j)) (writes x s k f j) y) (writes_own k f j d)))
          (or_e (not (stops_at x s j || takes_out x s k f j) && outstanding r k f j) (not (stops_at x s j || has_stopped r j) && writes x s k f j) (sym (v.net k f j) ∙ o))

frame_same : (r : Run) (s : ℕ) → Frame s r r
frame_same r s =
    record { n = refl; records = λ i l d. refl; stay = λ k f j d h. h; come = λ k f j d h. h; stops = λ i d h. h; stopped = λ i h. h }

-- an event changes no record but the acting site's, takes no message but those addressed to it, adds only messages from it,
-- stops at most it, and no stopped site is ever not stopped again
pub frame : (r : Run) (e : Event) → Shape r → Frame (actor e) r (event_of r e).run
frame r e h = go (account r e)
  where
    go : {x : Ran} → Account r e x → Frame (actor e) r x.run
    go (accepted a) = framed r (actor e) (effect_of r e) (applied_is r (actor e) (effect_of r e) h (fits a))
    go (denied d) = frame_same r (actor e)

-- so the views of another site are as they were
module _ (r : Run) (e : Event) (i : ℕ) (h : Shape r) (l : 1 ≤ i) (d : i ≢ actor e) where
  pub state_kept : state_of (event_of r e).run i ≡ state_of r i
  unfolding state_of
  state_kept = ap (λ (x : Site). x.state) ((frame r e h).records i l d)

  pub leader_kept : leader_of (event_of r e).run i ≡ leader_of r i
  unfolding leader_of
  leader_kept = ap (λ (x : Site). x.leader) ((frame r e h).records i l d)

  pub knows_kept : (j : ℕ) → knows (event_of r e).run i j ≡ knows r i j
  unfolding knows
  knows_kept j = ap (λ (x : Site). has x.known j) ((frame r e h).records i l d)

-- ---- records

-- what an event may do to a record: nothing, or a step
pub data Steps (x : Site) : Site → Type 0 where
  stays : Steps x x
  takes : (t : Step) → Steps x (step_of x t).site

-- every record of every run, place by place, stays or makes a step
pub record_steps : (r : Run) (e : Event) (i : ℕ) → Steps (site_at r i) (site_at (event_of r e).run i)
record_steps r e i = go (account r e)
  where
    at : (s : ℕ) (x : Effect) → Steps (site_at r s) x.site → Steps (site_at r i) (site_at (applied r s x) i)
    at s x h =
        subst (λ l. Steps (site_at r i) (get_or l (i - 1) no_site)) (sym (sites_applied r s x))
        (⊎_elim (λ q. subst (Steps (site_at r i)) (sym q) stays) (λ q. subst (Steps (site_at r i)) (sym q.1) (subst (λ (p : ℕ). Steps (get_or r.sites p no_site) x.site) (sym q.0) h))
        (set_either r.sites (s - 1) (i - 1) x.site no_site))

    happening : {d : Event} → Accepted r d → Steps (site_at r i) (site_at (happened r d).run i)
    happening (acts {s} {t} a) = at s (effect_of r (Act s t)) (takes t)
    happening (stops {s} a) = at s (effect_of r (Stop s)) stays
    happening (cuts {s} {t} {x} a) = at s (effect_of r (Cut s t x)) stays

    go : {x : Ran} → Account r e x → Steps (site_at r i) (site_at x.run i)
    go (accepted a) = happening a
    go (denied d) = stays

-- whatever the run, a and c are never left
pub abort_stays : (r : Run) (e : Event) (i : ℕ) → state_of r i ≡ A → state_of (event_of r e).run i ≡ A
unfolding state_of
abort_stays r e i = go (record_steps r e i)
  where
    go : {x y : Site} → Steps x y → x.state ≡ A → y.state ≡ A
    go stays h = h
    go {x} (takes t) h = abort_kept x t h

pub commit_stays : (r : Run) (e : Event) (i : ℕ) → state_of r i ≡ C → state_of (event_of r e).run i ≡ C
unfolding state_of
commit_stays r e i = go (record_steps r e i)
  where
    go : {x y : Site} → Steps x y → x.state ≡ C → y.state ≡ C
    go stays h = h
    go {x} (takes t) h = commit_kept x t h
