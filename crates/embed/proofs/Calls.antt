-- What the proofs of the calls share: a refusal's number, an outcome and what a call leaves for it, an answer at the front of its room, and a verdict's bytes.
-- Assumes nothing.
use Prim.Native.Nat.{ℕ, ◌+◌, ◌*◌, ◌≤◌}
use mathlib.Core.List.{List, ◌++◌, flat_map}
use mathlib.Core.Path.{◌≡◌, refl, sym, ap, ◌∙◌}
use lib.ListN.{length, take, drop}
use borrow.Author.Tests.{le-leb}
use native.Mathlib.Omega.{arith}
use Rattle.std.specs.Prelude.{Option, Some, None, Result, Ok, Err}
use Rattle.std.specs.Result.{IsOk}
use Rattle.refusal.specs.declared.Refusal.{Refusal}
use Rattle.refusal.specs.Refusals.{refusal_number, Test, clear, answer_number}
use Rattle.text.specs.Text.{fits, spliced}
use Rattle.text.proofs.Putting.{flat_length}
use Rattle.site.specs.declared.Step.{Step}
use Rattle.site.specs.declared.Outcome.{Outcome}
use Rattle.site.specs.declared.Outcome.TheVariants.{Taken, Passed, Refused}
use Rattle.site.specs.Step.{number_of}
use Rattle.run.specs.declared.Event.{Event}
use Rattle.run.specs.declared.Event.TheVariants.{Act, Stop, Cut}
use Rattle.run.proofs.Events.{Accepted, refused_not}
use Rattle.judge.specs.declared.Local.{Local}
use Rattle.judge.specs.declared.Verdict.{Verdict}
use Rattle.judge.specs.declared.Witness.{Witness}
use Rattle.embed.specs.Bytes.{leaves_both, called}
use Rattle.embed.specs.SiteCall.{no_step, stepping}
use Rattle.embed.specs.SheetCalls.{local_bytes, head_bytes}

-- ---- a number

-- no refusal has the number 0
pub numbered : (why : Refusal) → refusal_number why ≡ 0 → ⊥
numbered why e = grind (arith, e)

-- so that 0 is told of what is not refused
pub answered : {A : Type 0} (r : Result A Refusal) → answer_number r ≡ 0 → IsOk r
answered (Ok x) e = refl
answered (Err why) e = absurd (numbered why e)

pub cleared : (t : Test) → answer_number t ≡ 0 → t ≡ clear
cleared (Ok u) e = refl
cleared (Err why) e = absurd (numbered why e)

-- ---- an outcome

-- an accepted outcome is returned as 0
pub accepted_zero : (o : Outcome) → Accepted o → 0 ≡ number_of o
accepted_zero Taken h = refl
accepted_zero Passed h = refl
accepted_zero (Refused g) h = absurd (refused_not g h)

-- with the new bytes
pub accepted_new : (o : Outcome) (old new answer : List ℕ) → Accepted o → leaves_both 0 new answer ≡ called o old new answer
accepted_new Taken old new answer h = refl
accepted_new Passed old new answer h = refl
accepted_new (Refused g) old new answer h = absurd (refused_not g h)

module _ (o : Outcome) (old new rest answer : List ℕ) (w : answer ≡ rest) where
  -- a call that leaves the old bytes and returns the ground's number is what a refused outcome wants
  pub called_refused : (g : Refusal) → o ≡ Refused g → leaves_both (refusal_number g) old answer ≡ called o old new rest
  called_refused g e = ap (leaves_both (refusal_number g) old) w ∙ sym (ap (λ (y : Outcome). called y old new rest) e)

  -- and one that leaves the new bytes and returns 0 what an accepted one wants
  pub called_accepted : (r : ℕ) (after : List ℕ) → r ≡ 0 → after ≡ new → Accepted o → leaves_both r after answer ≡ called o old new rest
  called_accepted r after u v h = (λ i. leaves_both (u i) (v i) (w i)) ∙ accepted_new o old new rest h

-- an event that is no step is refused with 13
pub stop_refused : (e : Event) (site room : List ℕ) → ((s : ℕ) (t : Step) → e ≡ Act s t → ⊥) → no_step 13 site room ≡ stepping (Ok e) site room
stop_refused (Act a t) site room h = absurd (h a t refl)
stop_refused (Stop a) site room h = refl
stop_refused (Cut a t to) site room h = refl

-- ---- an answer

-- a part that fits, put at the front
pub put_front : (part l : List ℕ) → 0 + length part ≤ length l → spliced l 0 part ≡ take 0 l ++ (part ++ drop (0 + length part) l)
unfolding spliced fits
put_front part l h = simp (le-leb _ _ h)

-- ---- a verdict

pub local_length : (l : Local) → length (local_bytes l) ≡ 6
unfolding local_bytes
local_length l = refl

pub locals_length : (l : List Local) → length (flat_map local_bytes l) ≡ 6 * length l
locals_length = flat_length local_bytes 6 local_length

pub head_length : (v : Verdict) → length (head_bytes v) ≡ 14
unfolding head_bytes
head_length v = go v.blocking refl
  where
    go : (b : Option Witness) → v.blocking ≡ b → length (head_bytes v) ≡ 14
    go None e = simp e
    go (Some w) e = simp e
