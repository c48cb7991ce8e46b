-- `text::digits` meets its contract.
-- Assumes nothing.
use Rattle.text.proofs.DigitLaws.{ToPut}
use Rattle.text.proofs.digits.Given as goal

abbrev pub invariant-loop-place : goal.invariant-loop-place
invariant-loop-place l = ToPut l.initial.text l.at l.n l.text l.left l.place
