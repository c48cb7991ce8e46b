-- `ground` meets its contract: a ground of the frame comes first, then one of the parts.
-- Assumes nothing.
use mathlib.Core.Path.{◌≡◌, sym, ap, ◌∙◌}
use borrow.Author.Rules.{rules}
use Rattle.std.specs.Prelude.{Err}
use Rattle.refusal.specs.Refusals.{clear}
use Rattle.sheet.specs.Record.{parts_by}
use Rattle.sheet.specs.Grounds.{frame_ground, parts_ground}
use Rattle.sheet.proofs.GroundLaws.{framed, frame_first, parts_next}
use Rattle.sheet.proofs.FineLaws.{moves_few, sites_few}
use Rattle.sheet.proofs.ground.Goals as goal

pub returns-in_err-frame_ground : goal.returns-in_err-frame_ground
returns-in_err-frame_ground c =
    let same : c.from_residual.result ≡ Err c.in_err-frame_ground.field-0.0 = search rules in
    same ∙ sym (frame_first c.args.bytes.now (sym c.frame_ground.ensures ∙ c.in_err-frame_ground.was))

pub parts_ground-requires : goal.parts_ground-requires
unfolding parts_by
parts_ground-requires c =
    let l = c.args.bytes.now in
    let f = framed l (sym c.frame_ground.ensures ∙ c.in_ok-frame_ground.was) in
    rw c.parts.ensures ((moves_few l f, sites_few l f))

pub returns : goal.returns
returns c =
    let l = c.args.bytes.now in
    let none : frame_ground l ≡ clear = sym c.frame_ground.ensures ∙ c.in_ok-frame_ground.was in
    c.parts_ground.ensures ∙ ap parts_ground c.parts.ensures ∙ sym (parts_next l none)
