-- Runs after lists of events.
-- Assumes nothing.
use Prim.Native.Nat.{ℕ}
use mathlib.Core.List.{List, [], ◌∷◌, ◌++◌}
use mathlib.Core.Path.{◌≡◌, refl}
use Rattle.run.specs.declared.Run.{Run}
use Rattle.run.specs.declared.Event.{Event}
use Rattle.run.specs.Event.{event_of}
use Rattle.run.specs.After.{Tale, onward, told, after}
use Rattle.run.proofs.GoodRuns.{IsGood, good_kept}

-- What every event of a good run keeps, any events keep.
pub told_keeps : (M : Run → Type 0) → ((r : Run) (e : Event) → IsGood r → M r → M (event_of r e).run) → (t : Tale) (es : List Event) → IsGood t.run → M t.run → M (told t es).run
unfolding onward
told_keeps M f t [] g m = m
told_keeps M f t (e ∷ es) g m = told_keeps M f (onward t e) es (good_kept t.run e g) (f t.run e g m)

-- Events after events.
told_on : (t : Tale) (es fs : List Event) → told t (es ++ fs) ≡ told (told t es) fs
told_on t [] fs = refl
told_on t (e ∷ es) fs = told_on (onward t e) es fs

pub after_on : (n : ℕ) (es fs : List Event) → after n (es ++ fs) ≡ told (after n es) fs
unfolding after
after_on n es fs = told_on _ es fs
