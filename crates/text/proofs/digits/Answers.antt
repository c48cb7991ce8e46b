-- What is left to show.
use native.Mathlib.Omega.{arith}
use Rattle.text.proofs.DigitLaws.{one_put}
use Rattle.text.proofs.digits.Goals as goal

pub loop-place-preserved : goal.loop-place-preserved
loop-place-preserved c = one_put c.loop-place.invariant _ _ c.loop-place-test.true (omega arith) c.digit.ensures
