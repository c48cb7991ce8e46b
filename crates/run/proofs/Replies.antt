-- What the code asks a site for is what the events say: an event of a site is what its reply comes to.
-- Assumes nothing.
use Prim.Native.Nat.{ℕ}
use mathlib.Core.Bool.{Bool, true, false, cond, ◌&&◌, true≢false, false≢true}
use mathlib.Core.Path.{◌≡◌, refl, sym}
use Rattle.sets.specs.Sets.{minus, both, count_of}
use Rattle.sets.proofs.SetLaws.{has_minus}
use Rattle.std.specs.Prelude.{Result, Ok, Err}
use Rattle.refusal.specs.declared.Refusal.{Refusal}
use Rattle.refusal.specs.declared.Refusal.TheVariants.{WrongNames, ActorStopped, NotThere}
use Rattle.refusal.specs.Refusals.{clear, checked}
use Rattle.site.specs.declared.Outcome.{Outcome}
use Rattle.site.specs.declared.Outcome.TheVariants.{Taken, Passed, Refused}
use Rattle.site.specs.declared.Step.{Step}
use Rattle.site.specs.declared.Step.TheVariants.{Begin, Start, Deliver, Notice, TakeOver, Conclude}
use Rattle.site.specs.declared.Answer.{Answer}
use Rattle.site.specs.Site.{names_of}
use Rattle.site.specs.Step.{step_of, ground_of}
use Rattle.run.specs.declared.Run.{Run}
use Rattle.run.specs.declared.Event.TheVariants.{Act, Cut}
use Rattle.run.specs.declared.Ran.{Ran}
use Rattle.run.specs.Run.{site_at, outstanding, knows, has_stopped}
use Rattle.run.specs.Event.{is_actor, is_there, step_ground, whole_step, halting, applied, refused_run, taken_run, unless, goes_of}
use Rattle.run.specs.Reply.{there_in, step_ground_in, reply_from, reply_of}

-- the news of a site are the stopped sites that it does not know of
pub there_in_lem : (r : Run) (s : ℕ) (t : Step) → is_there r s t ≡ there_in t s (minus r.stopped (site_at r s).known) r.net
unfolding outstanding has_stopped knows
there_in_lem r s (Begin v) = refl
there_in_lem r s (Start from v) = refl
there_in_lem r s (Deliver k from) = refl
there_in_lem r s (Notice o) = sym (has_minus r.stopped (site_at r s).known o)
there_in_lem r s TakeOver = refl
there_in_lem r s Conclude = refl

-- the event that follows from the answer, or the refusal
abbrev pub come : Run → (Answer → Ran) → Result Answer Refusal → Ran
come r f (Ok a) = f a
come r f (Err g) = refused_run r g

-- a whole step, and a step cut short
abbrev pub whole : Run → ℕ → Step → Answer → Ran
whole r s t a = record { run = applied r s (whole_step t a); outcome = a.outcome; counts = a.counts }

abbrev pub short : Run → ℕ → ℕ → Answer → Ran
short r s x a = taken_run (applied r s (halting (site_at r s) a.kind (both a.to x))) (count_of (both a.to x))

module _ (r : Run) (s : ℕ) (t : Step) where
  abbrev answer : Answer
  answer = step_of (site_at r s) t

  replied : (f : Answer → Ran) → unless (step_ground r s t) r (f answer) ≡ come r f (reply_of r s t)
  unfolding reply_of step_ground step_ground_in has_stopped
  replied f = go (is_actor r s) (names_of (site_at r s) t) (has_stopped r s) (is_there r s t) _ (there_in_lem r s t) answer.outcome
    where
      go : (a b c d k : Bool) → d ≡ k → (o : Outcome)
          → unless (cond (a && b) (cond c (Err ActorStopped) (cond d (ground_of o) (Err NotThere))) (Err WrongNames)) r (f answer)
          ≡ come r f (cond a (checked (cond b (cond c (Err ActorStopped) (cond k clear (Err NotThere))) (Err WrongNames)) (reply_from o answer)) (Err WrongNames))
      go true true true d k q o = refl
      go true true false true true q Taken = refl
      go true true false true true q Passed = refl
      go true true false true true q (Refused g) = refl
      go true true false false false q o = refl
      go true true false true false q o = absurd (true≢false q)
      go true true false false true q o = absurd (false≢true q)
      go true false c d k q o = refl
      go false b c d k q o = refl

  -- a step of site s, whole or cut short, is what its reply comes to
  pub act_is : goes_of r (Act s t) ≡ come r (whole r s t) (reply_of r s t)
  unfolding goes_of
  act_is = replied (whole r s t)

  pub cut_is : (x : ℕ) → goes_of r (Cut s t x) ≡ come r (short r s x) (reply_of r s t)
  unfolding goes_of
  cut_is x = replied (short r s x)
