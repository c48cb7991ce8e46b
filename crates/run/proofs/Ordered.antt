-- Leaders in order: the side condition under which a sound run stays sound, event by event.
-- In a sound run where it does not hold a Conclude may write to a lower site, and the run that comes back is not sound (Unordered).
-- Assumes nothing.
use Prim.Native.Nat.{ℕ, ◌^◌, ◌≤◌, ◌<◌}
use mathlib.Core.Bool.{Bool, true, false, cond, not, ◌&&◌, ◌||◌}
use mathlib.Core.Path.{◌≡◌, refl, sym, ap, subst, ◌∙◌}
use mathlib.Core.Logic.{⊎_elim}
use native.Mathlib.Omega.{arith}
use native.Mathlib.Decide.{ℕ_discrete}
use borrow.Author.Tests.{le-leb, eq-eqb}
use Rattle.sets.specs.Sets.{has, both, with_site, subset, all_of}
use Rattle.sets.proofs.SetLaws.{site_is, has_all, has_both, has_none}
use Rattle.sets.proofs.Truths.{and_l, and_r, or_e, or_l, or_r, not_e, clash, fails}
use Rattle.sets.proofs.SubsetLaws.{all_lt, subset_lt, subset_self, subset_trans, within_with, with_within}
use Rattle.site.specs.declared.Site.{Site}
use Rattle.site.specs.declared.Step.{Step}
use Rattle.site.specs.declared.Step.TheVariants.{Notice}
use Rattle.site.specs.declared.Answer.{Answer}
use Rattle.site.specs.Site.{sound_of, ends_of}
use Rattle.site.specs.Step.{step_of}
use Rattle.site.proofs.SiteFacts.{lower_known, Follows, Grows, Concludes, Message}
use Rattle.site.proofs.SiteFacts.Follows.{same, obeys, itself}
use Rattle.site.proofs.SiteFacts.Grows.{kept, gained}
use Rattle.site.proofs.SiteSteps.{sound_parts as site_parts, parts_ends}
use Rattle.site.proofs.SiteMessages.{other_parts, lower_known_lem, known_lower, message}
use Rattle.site.proofs.SiteLaws.{step_changes, sound_kept as site_kept, grows_has}
use Rattle.run.specs.declared.Run.{Run}
use Rattle.run.specs.declared.Event.{Event}
use Rattle.run.specs.declared.Event.TheVariants.{Act}
use Rattle.run.specs.declared.Effect.{Effect}
use Rattle.run.specs.Run.{site_at, leader_of, knows, outstanding, has_stopped}
use Rattle.run.specs.Sound.{SoundPlace, SoundMessage, Sound}
use Rattle.run.specs.Event.{actor, halting, effect_of, applied}
use Rattle.run.proofs.Views.{Shape}
use Rattle.run.proofs.Account.{Able, Acting, Accepted, actor_least, actor_in}
use Rattle.run.proofs.Account.Accepted.{acts, stops, cuts}
use Rattle.run.proofs.Applied.{takes_out, writes, stops_at, Written, written, Fits, Applied, set_applied, applied_is}

-- each running leader k knows the sites 1 to k - 1 stopped
pub record Ordered (r : Run) : Type 0 where
  pub lower : (k j : ℕ) → k ≤ r.n → has_stopped r k ≡ false → leader_of r k ≡ k → 1 ≤ j → j < k → knows r k j ≡ true

-- ---- an effect that keeps a run sound and its leaders in order

-- its record is sound for its place, knows only stopped sites, and knows all lower ones where it leads and runs; what it writes goes between
-- sites of the run with the right ends
pub record Keeps (r : Run) (s : ℕ) (x : Effect) : Type 0 where
  pub in_run_lem : s ≤ r.n
  pub sound : sound_of x.site ≡ true
  pub sites : x.site.n ≡ r.n
  pub number : x.site.number ≡ s
  pub known : subset x.site.known r.stopped ≡ true
  pub ends : (j : ℕ) → has x.to j ≡ true → (j ≤ r.n) × (ends_of x.kind s j ≡ true)
  pub lower : x.stops ≡ false → x.site.leader ≡ s → (j : ℕ) → 1 ≤ j → j < s → has x.site.known j ≡ true

stopped_lt : {r : Run} → Sound r → r.stopped < 2 ^ 8
stopped_lt {r} g = subset_lt r.stopped (all_of r.n) g.stopped (all_lt r.n)

module _ (r : Run) (s : ℕ) (x : Effect) (h : Shape r) (f : Fits s x) (k : Keeps r s x) where
  abbrev then : Run
  then = applied r s x

  v : Applied r s x then
  v = applied_is r s x h f

  -- no stopped site runs again, and only sites of the run have stopped
  grown : Sound r → subset r.stopped then.stopped ≡ true
  grown g = rw (set_applied r s x) (go x.stops)
    where
      go : (b : Bool) → subset r.stopped (cond b (with_site r.stopped s) r.stopped) ≡ true
      go true = within_with r.stopped s (stopped_lt g)
      go false = subset_self r.stopped

  within : Sound r → subset then.stopped (all_of r.n) ≡ true
  within g = rw (set_applied r s x) (go x.stops)
    where
      go : (b : Bool) → subset (cond b (with_site r.stopped s) r.stopped) (all_of r.n) ≡ true
      go true =
          with_within r.stopped s (all_of r.n) (all_lt r.n) g.stopped
          (has_all r.n s ∙ simp (site_is s f.least f.most, le-leb s r.n k.in_run_lem))
      go false = g.stopped

  place_then : Sound r → (i : ℕ) → 1 ≤ i → i ≤ r.n → Dec (i ≡ s) → SoundPlace then i
  place_then g i l m (yes d) =
      subst (SoundPlace then) (sym d)
      (record {
        sound = rw v.site k.sound;
        sites = rw (v.site, v.n) k.sites;
        number = rw v.site k.number;
        known = rw v.site (subset_trans x.site.known r.stopped then.stopped (stopped_lt g) k.known (grown g));
      })
  place_then g i l m (no d) =
      let p : SoundPlace r i = g.places i l m in
      let e : site_at then i ≡ site_at r i = v.others i l d in
      record {
        sound = rw e p.sound;
        sites = rw (e, v.n) p.sites;
        number = rw e p.number;
        known = rw e (subset_trans (site_at r i).known r.stopped then.stopped (stopped_lt g) p.known (grown g));
      }

  -- who neither stops nor had stopped runs
  runs_then : (j : ℕ) → stops_at x s j ≡ false → has_stopped r j ≡ false → has_stopped then j ≡ false
  runs_then j p q = v.stopped j ∙ simp (p, q)

  neither : (a b : Bool) → not (a || b) ≡ true → a ≡ false
  neither a b e = fails a (λ y. clash (or_l a b y) (not_e (a || b) e))

  message_then : Sound r → (y z j : ℕ) → outstanding then y z j ≡ true → SoundMessage then y z j
  message_then g y z j u = ⊎_elim old new (or_e was come (sym (v.net y z j) ∙ u))
    where
      was : Bool
      was = not (stops_at x s j || takes_out x s y z j) && outstanding r y z j

      come : Bool
      come = not (stops_at x s j || has_stopped r j) && writes x s y z j

      old : was ≡ true → SoundMessage then y z j
      old e =
          let m : SoundMessage r y z j = g.messages y z j (and_r (not (stops_at x s j || takes_out x s y z j)) (outstanding r y z j) e) in
          let p : stops_at x s j ≡ false = neither (stops_at x s j) (takes_out x s y z j) (and_l (not (stops_at x s j || takes_out x s y z j)) (outstanding r y z j) e) in
          record { from = rw v.n m.from; to = rw v.n m.to; ends = m.ends; runs = runs_then j p m.runs }

      new : come ≡ true → SoundMessage then y z j
      new e =
          let p : Written x s y z j = written x s y z j (and_r (not (stops_at x s j || has_stopped r j)) (writes x s y z j) e) in
          let q = k.ends j p.to in
          record {
            from = rw (v.n, p.from) k.in_run_lem;
            to = rw v.n q.0;
            ends = rw (p.kind, p.from) q.1;
            runs = v.stopped j ∙ not_e (stops_at x s j || has_stopped r j) (and_l (not (stops_at x s j || has_stopped r j)) (writes x s y z j) e);
          }

  pub sound_then : Sound r → Sound then
  sound_then g =
      record {
        least = rw v.n g.least;
        most = rw v.n g.most;
        stopped = rw v.n (within g);
        places = λ i l m. place_then g i l (rw v.n at m) (ℕ_discrete i s);
        messages = message_then g;
      }

  pub ordered_then : Ordered r → Ordered then
  unfolding leader_of knows stops_at
  ordered_then o = record { lower = λ i j m u l p q. go i j (rw v.n at m) (sym (v.stopped i) ∙ u) l p q (ℕ_discrete i s) }
    where
      up : (i : ℕ) → (stops_at x s i || has_stopped r i) ≡ false → has_stopped r i ≡ false
      up i e = fails (has_stopped r i) (λ y. clash (or_r (stops_at x s i) (has_stopped r i) y) e)

      goes : (i : ℕ) → i ≡ s → (stops_at x s i || has_stopped r i) ≡ false → x.stops ≡ false
      goes i d e = fails x.stops (λ y. clash (or_l (stops_at x s i) (has_stopped r i) (simp (y, eq-eqb i s d))) e)

      go : (i j : ℕ) → i ≤ r.n → (stops_at x s i || has_stopped r i) ≡ false → (site_at then i).leader ≡ i → 1 ≤ j → j < i → Dec (i ≡ s) → has (site_at then i).known j ≡ true
      go i j m u l p q (yes d) =
          let e : site_at then i ≡ x.site = ap (site_at then) d ∙ v.site in
          rw e (k.lower (goes i d u) (sym (ap (λ (y : Site). y.leader) e) ∙ l ∙ d) j p (omega arith))
      go i j m u l p q (no d) = rw (v.others i (omega arith) d) (o.lower i j m (up i u) (rw (v.others i (omega arith) d) at l) p q)

-- ---- the effect of an accepted event is one

-- a site that acts
module _ (r : Run) (s : ℕ) (t : Step) (g : Sound r) (o : Ordered r) (x : Acting r s t) where
  abbrev me : Site
  me = site_at r s

  abbrev a : Answer
  a = step_of (site_at r s) t

  here : SoundPlace r s
  here = g.places s (actor_least x.able) (actor_in x.able)

  -- a leader that concludes knows all lower sites stopped
  lower : Concludes me t → lower_known me ≡ true
  unfolding leader_of knows
  lower c =
      known_lower me (λ j l m. o.lower s j (actor_in x.able) x.able.runs (c.leads ∙ here.number) l (rw here.number at m))

  -- so what it writes goes between sites of the run and has the right ends
  right : (j : ℕ) → has a.to j ≡ true → (j ≤ r.n) × (ends_of a.kind s j ≡ true)
  right j p =
      let m : Message me t a.kind j = message me t j p in (
        rw here.sites at (other_parts me j m.other).last,
        subst (λ (i : ℕ). ends_of a.kind i j ≡ true) here.number (parts_ends (m.ends lower)),
      )

  -- what it newly knows has stopped
  known_stopped : {m w : ℕ} → Grows me t Notice m w → subset m r.stopped ≡ true → subset w r.stopped ≡ true
  unfolding has_stopped
  known_stopped kept e = e
  known_stopped {m} (gained j b _) e = with_within m j r.stopped (stopped_lt g) e (and_l (has_stopped r j) (not (knows r s j)) (rw b at x.there))

  -- what it knew before the step, if it leads after it
  knew : {l : ℕ} → Follows me l → l ≡ s → (j : ℕ) → 1 ≤ j → j < s → has me.known j ≡ true
  unfolding leader_of knows
  knew same e j p q = o.lower s j (actor_in x.able) x.able.runs e p q
  knew (obeys l m) e j p q = absurd (omega (arith, here.number))
  knew (itself l k) e j p q = lower_known_lem me (site_parts me here.sound) k j p (rw here.number q)

  keeps_step : Keeps r s (effect_of r (Act s t))
  keeps_step =
      record {
        in_run_lem = actor_in x.able;
        sound = site_kept me t here.sound;
        sites = (step_changes me t).n ∙ here.sites;
        number = (step_changes me t).number ∙ here.number;
        known = known_stopped (step_changes me t).known here.known;
        ends = right;
        lower = λ _ l j p q. grows_has (step_changes me t).known j (knew (step_changes me t).leader l j p q);
      }

-- a site that stops, after some messages of which it is the sender
keeps_stop : (r : Run) (s k to : ℕ) → Sound r → Able r s → ((j : ℕ) → has to j ≡ true → (j ≤ r.n) × (ends_of k s j ≡ true)) → Keeps r s (halting (site_at r s) k to)
keeps_stop r s k to g b e =
    let p : SoundPlace r s = g.places s (actor_least b) (actor_in b) in
    record { in_run_lem = actor_in b; sound = p.sound; sites = p.sites; number = p.number; known = p.known; ends = e; lower = λ q. absurd (clash refl q) }

pub keeps : {r : Run} {e : Event} → Sound r → Ordered r → Accepted r e → Keeps r (actor e) (effect_of r e)
keeps {r} g o (acts {s} {t} x) = keeps_step r s t g o x
keeps {r} g o (stops {s} b) = keeps_stop r s 0 0 g b (λ j h. absurd (clash h (has_none j)))
keeps {r} g o (cuts {s} {t} {x = c} x) =
    let to = (step_of (site_at r s) t).to in
    keeps_stop r s (step_of (site_at r s) t).kind (both to c) g x.able (λ j h. right r s t g o x j (and_l (has to j) (has c j) (sym (has_both to c j) ∙ h)))
