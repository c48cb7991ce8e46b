-- The one account of an event: why it is accepted, or on which ground it is refused, and what it comes to.
-- Assumes nothing.
use Prim.Native.Nat.{ℕ, ◌≤◌}
use Rattle.std.specs.Prelude.{Ok, Err}
use mathlib.Core.Bool.{Bool, true, false, cond, ◌&&◌}
use mathlib.Core.Path.{◌≡◌, refl, ap, ◌∙◌}
use mathlib.Core.Logic.{◌⊎◌, inl, inr}
use native.Mathlib.Omega.{arith}
use lib.Dec.{leb}
use borrow.Author.Tests.{leb-true}
use Rattle.sets.proofs.Truths.{and_l, and_r}
use Rattle.refusal.specs.declared.Refusal.{Refusal}
use Rattle.refusal.specs.declared.Refusal.TheVariants.{NotSound, WrongNames, ActorStopped, NotThere}
use Rattle.refusal.specs.Refusals.{Test, clear}
use Rattle.site.specs.declared.Outcome.{Outcome}
use Rattle.site.specs.declared.Outcome.TheVariants.{Taken, Passed, Refused}
use Rattle.site.specs.declared.Step.{Step}
use Rattle.site.specs.Site.{names_of}
use Rattle.site.specs.Step.{step_of, ground_of}
use Rattle.run.specs.declared.Run.{Run}
use Rattle.run.specs.declared.Event.{Event}
use Rattle.run.specs.declared.Event.TheVariants.{Act, Stop, Cut}
use Rattle.run.specs.declared.Ran.{Ran}
use Rattle.run.specs.Run.{site_at, has_stopped}
use Rattle.run.specs.Sound.{sound_run}
use Rattle.run.specs.Event.{actor, is_actor, is_there, step_ground, stop_ground, refused_run, unless, happened, goes_of, event_of}
use Rattle.run.specs.After.{accepted_by}
use Rattle.run.proofs.SoundLaws.{n_most}

-- ---- what is known of an accepted event

-- grounds 1 to 3 do not hold: a sound run, in which site s is one that runs
pub record Able (r : Run) (s : ℕ) : Type 0 where
  pub sound : sound_run r ≡ true
  pub actor : is_actor r s ≡ true
  pub runs : has_stopped r s ≡ false

-- no ground holds for step t of site s
pub record Acting (r : Run) (s : ℕ) (t : Step) : Type 0 where
  pub able : Able r s
  pub names : names_of (site_at r s) t ≡ true
  pub there : is_there r s t ≡ true
  pub accepted : accepted_by (step_of (site_at r s) t).outcome ≡ 1

pub data Accepted (r : Run) : Event → Type 0 where
  acts : {s : ℕ} {t : Step} → Acting r s t → Accepted r (Act s t)
  stops : {s : ℕ} → Able r s → Accepted r (Stop s)
  cuts : {s : ℕ} {t : Step} {x : ℕ} → Acting r s t → Accepted r (Cut s t x)

pub able_of : {r : Run} {e : Event} → Accepted r e → Able r (actor e)
able_of (acts a) = a.able
able_of (stops a) = a
able_of (cuts a) = a.able

-- the acting site is one of 1 to n, and so of eight
module _ {r : Run} {s : ℕ} (a : Able r s) where
  pub actor_least : 1 ≤ s
  unfolding is_actor
  actor_least = leb-true 1 s (and_l (leb 1 s) (leb s r.n) a.actor)

  pub actor_in : s ≤ r.n
  unfolding is_actor
  actor_in = leb-true s r.n (and_r (leb 1 s) (leb s r.n) a.actor)

  pub actor_most : s ≤ 8
  actor_most = omega (arith, actor_in, n_most r a.sound)

-- ---- why an event is refused

-- the grounds of a step of site s in a sound run, each where its turn comes
pub data Why (r : Run) (s : ℕ) (t : Step) : Test → Type 0 where
  fine : Acting r s t → Why r s t clear
  misnamed : (is_actor r s && names_of (site_at r s) t) ≡ false → Why r s t (Err WrongNames)
  stopped : has_stopped r s ≡ true → Why r s t (Err ActorStopped)
  missing : Able r s → is_there r s t ≡ false → Why r s t (Err NotThere)
  own : {g : Refusal} → Able r s → names_of (site_at r s) t ≡ true → is_there r s t ≡ true → (step_of (site_at r s) t).outcome ≡ Refused g → Why r s t (Err g)

pub why : (r : Run) (s : ℕ) (t : Step) → sound_run r ≡ true → Why r s t (step_ground r s t)
unfolding step_ground
why r s t p = go (is_actor r s && names_of (site_at r s) t) (has_stopped r s) (is_there r s t) (step_of (site_at r s) t).outcome refl refl refl refl
  where
    able : (is_actor r s && names_of (site_at r s) t) ≡ true → has_stopped r s ≡ false → Able r s
    able q u = record { sound = p; actor = and_l (is_actor r s) (names_of (site_at r s) t) q; runs = u }

    names : (is_actor r s && names_of (site_at r s) t) ≡ true → names_of (site_at r s) t ≡ true
    names q = and_r (is_actor r s) (names_of (site_at r s) t) q

    go : (b c d : Bool) (o : Outcome) → (is_actor r s && names_of (site_at r s) t) ≡ b → has_stopped r s ≡ c → is_there r s t ≡ d → (step_of (site_at r s) t).outcome ≡ o
        → Why r s t (cond b (cond c (Err ActorStopped) (cond d (ground_of o) (Err NotThere))) (Err WrongNames))
    go false c d o q u v w = misnamed q
    go true true d o q u v w = stopped u
    go true false false o q u v w = missing (able q u) v
    go true false true Taken q u v w = fine (record { able = able q u; names = names q; there = v; accepted = ap accepted_by w })
    go true false true Passed q u v w = fine (record { able = able q u; names = names q; there = v; accepted = ap accepted_by w })
    go true false true (Refused g) q u v w = own (able q u) (names q) v w

-- an event by which site s takes step t, whole or cut short
pub data Asks : Event → ℕ → Step → Type 0 where
  whole : {s : ℕ} {t : Step} → Asks (Act s t) s t
  short : {s : ℕ} {t : Step} {x : ℕ} → Asks (Cut s t x) s t

-- an event is refused with 1 in an unsound run, as its step is, or with 2 or 3 where it is a stop
pub data Denied (r : Run) : Event → Refusal → Type 0 where
  unsound : {e : Event} → sound_run r ≡ false → Denied r e NotSound
  step : {e : Event} {s : ℕ} {g : Refusal} {t : Step} → Asks e s t → Why r s t (Err g) → Denied r e g
  not_one : {s : ℕ} → is_actor r s ≡ false → Denied r (Stop s) WrongNames
  again : {s : ℕ} → has_stopped r s ≡ true → Denied r (Stop s) ActorStopped

-- ---- the account

-- what an event comes to: it happens, or it is refused with its ground
pub data Account (r : Run) (e : Event) : Ran → Type 0 where
  accepted : Accepted r e → Account r e (happened r e)
  denied : {g : Refusal} → Denied r e g → Account r e (refused_run r g)

step_account : (r : Run) (e : Event) (s : ℕ) (t : Step) → Asks e s t → (Acting r s t → Accepted r e) → (g : Test) → Why r s t g → Account r e (unless g r (happened r e))
step_account r e s t a f (Ok u) (fine x) = accepted (f x)
step_account r e s t a f (Err g) y = denied (step a y)

stop_account : (r : Run) (s : ℕ) → sound_run r ≡ true → Account r (Stop s) (unless (stop_ground r s) r (happened r (Stop s)))
unfolding stop_ground
stop_account r s p = go (is_actor r s) (has_stopped r s) refl refl
  where
    go : (b c : Bool) → is_actor r s ≡ b → has_stopped r s ≡ c → Account r (Stop s) (unless (cond b (cond c (Err ActorStopped) clear) (Err WrongNames)) r (happened r (Stop s)))
    go false c q u = denied (not_one q)
    go true true q u = denied (again u)
    go true false q u = accepted (stops (record { sound = p; actor = q; runs = u }))

-- every event of every run ends in one of these ways
pub account : (r : Run) (e : Event) → Account r e (event_of r e)
unfolding event_of goes_of
account r e = go (sound_run r) refl e
  where
    go : (b : Bool) → sound_run r ≡ b → (e : Event) → Account r e (cond b (goes_of r e) (refused_run r NotSound))
    go false p e = denied (unsound p)
    go true p (Act s t) = step_account r (Act s t) s t whole acts _ (why r s t p)
    go true p (Stop s) = stop_account r s p
    go true p (Cut s t x) = step_account r (Cut s t x) s t short cuts _ (why r s t p)

-- a refused event, with its ground and the reason for it
pub record Refuses (r : Run) (e : Event) : Type 0 where
  pub ground : Refusal
  pub why : Denied r e ground
  pub unchanged : event_of r e ≡ refused_run r ground

pub fate : (r : Run) (e : Event) → Accepted r e ⊎ Refuses r e
fate r e = go (account r e) refl
  where
    go : {x : Ran} → Account r e x → event_of r e ≡ x → Accepted r e ⊎ Refuses r e
    go (accepted a) q = inl a
    go (denied {g = g} d) q = inr (record { ground = g; why = d; unchanged = q })

-- ---- and back: where no ground holds, the event happens

step_free : {r : Run} {s : ℕ} {t : Step} → Acting r s t → step_ground r s t ≡ clear
unfolding step_ground
step_free {r} {s} {t} a = simp (a.able.actor, a.names, a.able.runs, a.there) (go (step_of (site_at r s) t).outcome a.accepted)
  where
    go : (o : Outcome) → accepted_by o ≡ 1 → ground_of o ≡ clear
    go Taken y = refl
    go Passed y = refl
    go (Refused g) y = absurd (omega arith)

pub happens : {r : Run} {e : Event} → Accepted r e → event_of r e ≡ happened r e
unfolding event_of goes_of stop_ground
happens (acts a) = simp (a.able.sound, step_free a)
happens (stops a) = simp (a.sound, a.actor, a.runs)
happens (cuts a) = simp (a.able.sound, step_free a)

-- an outcome that is no refusal is that of an accepted event
pub accepted_then : (r : Run) (e : Event) → accepted_by (event_of r e).outcome ≡ 1 → Accepted r e
accepted_then r e q = go (account r e) q
  where
    go : {x : Ran} → Account r e x → accepted_by x.outcome ≡ 1 → Accepted r e
    go (accepted a) q = a
    go (denied d) q = absurd (omega arith)

pub then_accepted : {r : Run} {e : Event} → Accepted r e → accepted_by (event_of r e).outcome ≡ 1
then_accepted a = ap (λ (x : Ran). accepted_by x.outcome) (happens a) ∙ go a
  where
    go : {r : Run} {e : Event} → Accepted r e → accepted_by (happened r e).outcome ≡ 1
    go (acts a) = a.accepted
    go (stops a) = refl
    go (cuts a) = refl

-- an event of a sound run, tested for soundness or not, is the same
pub sound_goes : (r : Run) (e : Event) → sound_run r ≡ true → goes_of r e ≡ event_of r e
unfolding event_of
sound_goes r e h = simp h
