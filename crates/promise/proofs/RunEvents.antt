-- What an accepted event does, in the form that the argument uses, and outcomes that are no refusal.
-- Assumes nothing.
use Prim.Native.Nat.{ℕ}
use mathlib.Core.Bool.{true}
use mathlib.Core.Path.{◌≡◌, refl, sym, ap, subst, ◌∙◌}
use native.Mathlib.Omega.{arith}
use borrow.Author.Tests.{le-leb}
use Rattle.site.specs.declared.Outcome.{Outcome}
use Rattle.site.specs.declared.Outcome.TheVariants.{Taken, Passed, Refused}
use Rattle.site.specs.declared.Step.{Step}
use Rattle.site.specs.Site.{names_of}
use Rattle.site.specs.Step.{step_of}
use Rattle.run.specs.declared.Run.{Run}
use Rattle.run.specs.declared.Event.TheVariants.{Act, Stop}
use Rattle.run.specs.declared.Ran.{Ran}
use Rattle.run.specs.Run.{site_at, has_stopped, stopped_at}
use Rattle.run.specs.Sound.{sound_run}
use Rattle.run.specs.Event.{is_actor, is_there, event_of}
use Rattle.run.specs.After.{accepted_by}
use Rattle.run.proofs.Views.{Shape}
use Rattle.run.proofs.Account.{Able, Acting, actor_least, actor_in, happens}
use Rattle.run.proofs.Account.Accepted.{acts, stops}
use Rattle.run.proofs.Applied.{stop_applied}
use Rattle.promise.proofs.RunViews.{Runs}

-- An outcome that is no refusal.
abbrev pub IsAccepted : Outcome → Type 0
IsAccepted Taken = Unit
IsAccepted Passed = Unit
IsAccepted (Refused g) = ⊥

pub accepted_is : (o : Outcome) → accepted_by o ≡ 1 → IsAccepted o
accepted_is Taken e = tt
accepted_is Passed e = tt
accepted_is (Refused g) e = absurd (omega arith)

pub accepted_by_lem : (o : Outcome) → IsAccepted o → accepted_by o ≡ 1
accepted_by_lem Taken a = refl
accepted_by_lem Passed a = refl
accepted_by_lem (Refused g) a = absurd a

-- A site that is able to act is one that runs.
pub running : {r : Run} {s : ℕ} → Able r s → Runs r s
unfolding has_stopped
running a = record { least = actor_least a; most = actor_in a; up = a.runs }

-- Where no ground holds, the step is accepted.
pub allow : (r : Run) (s : ℕ) (t : Step) → sound_run r ≡ true → Runs r s → names_of (site_at r s) t ≡ true → is_there r s t ≡ true → IsAccepted (step_of (site_at r s) t).outcome → IsAccepted (event_of r (Act s t)).outcome
unfolding is_actor has_stopped
allow r s t p x n i a = subst (λ (y : Ran). IsAccepted y.outcome) (sym (happens (acts acting))) a
  where
    acting : Acting r s t
    acting =
        record {
          able = record { sound = p; actor = simp (le-leb 1 s x.least, le-leb s r.n x.most); runs = x.up };
          names = n;
          there = i;
          accepted = accepted_by_lem (step_of (site_at r s) t).outcome a;
        }

-- What a stop of a running site leaves.
pub stop_run : {r : Run} {s : ℕ} → Shape r → Able r s → (event_of r (Stop s)).run ≡ stopped_at r s
stop_run {r} {s} h a = ap (λ (y : Ran). y.run) (happens (stops a)) ∙ stop_applied r s h
