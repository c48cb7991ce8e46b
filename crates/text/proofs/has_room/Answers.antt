-- `text::has_room` meets its contract.
-- Assumes nothing.
use mathlib.Core.Path.{sym, ◌∙◌}
use borrow.Author.Tests.{lt-leb}
use native.Mathlib.Omega.{arith}
use Prim.Native.Nat.{◌+◌}
use Rattle.text.specs.Text.{fits}
use Rattle.text.proofs.TextLaws.{room_left}
use Rattle.text.proofs.has_room.Goals as goal

pub returns-then-at-room : goal.returns-then-at-room
unfolding fits
returns-then-at-room c = room_left c.args.room c.args.at c.args.size c.if-at-room.true

pub returns-else-at-room : goal.returns-else-at-room
unfolding fits
returns-else-at-room c = lt-leb c.args.at c.args.room c.if-at-room.false ∙ sym (lt-leb (c.args.at + c.args.size) c.args.room (omega arith))
