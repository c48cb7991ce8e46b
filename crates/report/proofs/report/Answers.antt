-- `report` meets its contract: the longest text fits, and so does this one.
-- Assumes nothing.
use mathlib.Core.Path.{refl, subst⁻¹}
use native.Mathlib.Omega.{arith}
use Rattle.sheet.specs.declared.Sheet.{Sheet}
use Rattle.judge.specs.Facts.{Says}
use Rattle.report.specs.Report.Reported.{cramped}
use Rattle.report.proofs.Bounds.{refused_size, accepted_size}
use Rattle.report.proofs.Telling.{accepted, tells_refused, tells_accepted}
use Rattle.report.proofs.report.Goals as goal

pub returns-then-out-lt-LONGEST : goal.returns-then-out-lt-LONGEST
returns-then-out-lt-LONGEST c = cramped c.if-out-lt-LONGEST.true refl refl refl

pub put_accepted-requires : goal.put_accepted-requires
put_accepted-requires c =
    let a = accepted _ _ _ _ _ c.in-Ok.is c.judge.ensures in
    omega (arith, accepted_size _ _ (c.parts-sheet.ensures.fine a.read) a.few (subst⁻¹ (λ (s : Sheet). Says s c.in-Ok.verdict) c.parts-sheet.ensures.value a.says))

pub returns-in-Ok : goal.returns-in-Ok
returns-in-Ok c = tells_accepted _ _ _ _ _ _ _ (omega arith) c.judge.ensures _ c.in-Ok.is _ c.parts-sheet.ensures.value c.put_accepted.ensures

pub put_refused-requires : goal.put_refused-requires
put_refused-requires c = omega (arith, refused_size c.from.result (omega arith))

pub returns-in-Err : goal.returns-in-Err
returns-in-Err c = tells_refused _ _ _ _ _ _ _ (omega arith) c.judge.ensures _ c.in-Err.is (rw c.from.ensures at c.put_refused.ensures)
