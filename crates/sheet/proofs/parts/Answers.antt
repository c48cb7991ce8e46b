-- `parts` meets its contract: the parts where the frame holds, and fine where no ground does.
-- Assumes nothing.
use mathlib.Core.Path.{◌≡◌, sym, ap, subst, ◌∙◌}
use mathlib.Core.Bool.{false}
use Rattle.std.specs.Result.{is_ok}
use Rattle.refusal.specs.Refusals.{clear}
use Rattle.sheet.specs.Grounds.{frame_ground}
use Rattle.sheet.specs.Fine.{Fine}
use Rattle.sheet.proofs.GroundLaws.{sheet_is, sheet_none, clear_is, frame_refuses}
use Rattle.sheet.proofs.CycleLaws.{accepted_fine}
use Rattle.sheet.proofs.parts.Goals as goal

pub returns-then-is_err : goal.returns-then-is_err
returns-then-is_err c =
    let l = c.args.bytes.now in
    let held : is_ok (frame_ground l) ≡ false = ap is_ok (sym c.frame_ground.ensures) ∙ c.if-is_err.ensures.negation in
    record { value = c.no_sheet.ensures ∙ sym (sheet_none l held); fine = λ z. absurd (frame_refuses l held z) }

pub returns : goal.returns
returns c =
    let l = c.args.bytes.now in
    let none : frame_ground l ≡ clear = sym c.frame_ground.ensures ∙ clear_is c.frame_ground.result c.if-is_err.ensures.negation in
    record {
      value = c.parts.ensures ∙ sym (sheet_is l none);
      fine = λ z. subst Fine (sym c.parts.ensures) (accepted_fine l (λ k. (c.type_inv.bytes k).fits) z);
    }
