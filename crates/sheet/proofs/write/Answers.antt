-- `write` meets its contract: the grounds, then the room, then the record.
-- Assumes nothing.
use Prim.Native.Nat.{ℕ}
use mathlib.Core.List.{◌++◌}
use mathlib.Core.Path.{◌≡◌, refl, sym, ap, ◌∙◌}
use native.Mathlib.Omega.{arith}
use borrow.Author.Rules.{rules}
use lib.ListN.{drop}
use Rattle.std.specs.Prelude.{Result, Ok, Err}
use Rattle.refusal.specs.declared.Refusal.{Refusal}
use Rattle.refusal.specs.Refusals.{clear}
use Rattle.sheet.specs.Write.{record_of, write_ground}
use Rattle.sheet.proofs.WriteLaws.{refused_parts, refused_room, written}
use Rattle.sheet.proofs.write.Goals as goal

pub returns-in_err-write_ground : goal.returns-in_err-write_ground
returns-in_err-write_ground c =
    let same : c.from_residual.result ≡ Err c.in_err-write_ground.field-0.0 = search rules in
    rw (refused_parts c.args.sheet c.args.room.now (sym c.write_ground.ensures ∙ c.in_err-write_ground.was)) (same, refl)

pub record_length-length-requires : goal.record_length-length-requires
record_length-length-requires c = sym c.write_ground.ensures ∙ c.in_ok-write_ground.was

pub returns-then-room-length : goal.returns-then-room-length
returns-then-room-length c =
    let none : write_ground c.args.sheet ≡ clear = sym c.write_ground.ensures ∙ c.in_ok-write_ground.was in
    rw (refused_room c.args.sheet c.args.room.now none (omega (arith, c.record_length-length.ensures.0, c.if-room-length.true))) (refl, refl)

pub put_record-requires : goal.put_record-requires
put_record-requires c = (sym c.write_ground.ensures ∙ c.in_ok-write_ground.was, c.record_length-length.ensures.0, c.if-room-length.false)

pub returns : goal.returns
returns c =
    let none : write_ground c.args.sheet ≡ clear = sym c.write_ground.ensures ∙ c.in_ok-write_ground.was in
    let size = c.record_length-length.ensures.0 in
    rw (written c.args.sheet c.args.room.now none (omega (arith, size, c.if-room-length.false))) (
      ap (λ (n : ℕ). let answer : Result ℕ Refusal = Ok n in answer) size,
      c.put_record.ensures ∙ ap (λ (n : ℕ). record_of c.args.sheet ++ drop n c.args.room.now) size,
    )
