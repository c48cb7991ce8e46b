-- How the code asks a site for a step: its answer, or the first ground on which the step is refused.
-- Assumes nothing.
use Rattle.std.specs.Prelude.{ℕ, Bool, true, cond, List, Result, Ok, Err}
use Rattle.sets.specs.Sets.{has, minus}
use Rattle.refusal.specs.declared.Refusal.{Refusal}
use Rattle.refusal.specs.declared.Refusal.TheVariants.{WrongNames, ActorStopped, NotThere}
use Rattle.refusal.specs.Refusals.{Test, clear, checked}
use Rattle.site.specs.declared.Outcome.{Outcome}
use Rattle.site.specs.declared.Outcome.TheVariants.{Taken, Passed, Refused}
use Rattle.site.specs.declared.Step.{Step}
use Rattle.site.specs.declared.Step.TheVariants.{Begin, Start, Deliver, Notice, TakeOver, Conclude}
use Rattle.site.specs.declared.Site.{Site}
use Rattle.site.specs.declared.Answer.{Answer}
use Rattle.site.specs.Site.{start, names_of}
use Rattle.site.specs.Step.{step_of}
use Rattle.run.specs.declared.Run.{Run}
use Rattle.run.specs.Run.{site_at, receivers}
use Rattle.run.specs.Event.{is_actor}

-- what a step is about is there: its message in the network, its stopped site among the news
abbrev pub there_in : Step → ℕ → ℕ → List ℕ → Bool
there_in (Begin v) s news net = true
there_in (Start from v) s news net = has (receivers net start from) s
there_in (Deliver k from) s news net = has (receivers net k from) s
there_in (Notice o) s news net = has news o
there_in TakeOver s news net = true
there_in Conclude s news net = true

-- the first of the grounds 2 to 4 on which a step of a site of the run is refused, if it is; the news of a site are the stopped sites
-- that it does not know of
unfoldable pub step_ground_in : Site → ℕ → Step → ℕ → List ℕ → Test
step_ground_in x s t stopped net = cond (names_of x t) (cond (has stopped s) (Err ActorStopped) (cond (there_in t s (minus stopped x.known) net) clear (Err NotThere))) (Err WrongNames)

-- a site's answer, or the ground on which it refuses
abbrev pub reply_from : Outcome → Answer → Result Answer Refusal
reply_from Taken a = Ok a
reply_from Passed a = Ok a
reply_from (Refused g) a = Err g

-- grounds 2 to 4 in their order, then the site's own
unfoldable pub reply_of : Run → ℕ → Step → Result Answer Refusal
reply_of r s t =
    cond (is_actor r s) (checked (step_ground_in (site_at r s) s t r.stopped r.net) (reply_from (step_of (site_at r s) t).outcome (step_of (site_at r s) t))) (Err WrongNames)
