-- What a step's outcome and a run's soundness come to: for the proofs of the functions that ask a site and test a run.
-- Assumes nothing.
use mathlib.Core.Path.{◌≡◌, refl}
use Rattle.refusal.specs.declared.Refusal.{Refusal}
use Rattle.site.specs.declared.Outcome.{Outcome}
use Rattle.site.specs.declared.Outcome.TheVariants.{Taken, Passed, Refused}
use Rattle.site.specs.declared.Answer.{Answer}
use Rattle.std.specs.Prelude.{Ok}
use Rattle.run.specs.Reply.{reply_from}

-- taken or passed over: what the code knows of an outcome that is not refused
abbrev pub Accepted : Outcome → Type 0
Accepted o = (g : Refusal) → o ≡ Refused g → ⊥

pub refused_not : (g : Refusal) → Accepted (Refused g) → ⊥
refused_not g h = h g refl

pub reply_good : (o : Outcome) (a : Answer) → Accepted o → reply_from o a ≡ Ok a
reply_good Taken a h = refl
reply_good Passed a h = refl
reply_good (Refused g) a h = absurd (refused_not g h)
