-- `text::put` meets its contract.
-- Assumes nothing.
use mathlib.Core.Path.{◌≡◌, sym, ◌∙◌}
use mathlib.Core.Bool.{true, false}
use borrow.Author.Tests.{leb-true}
use lib.ListN.{length}
use Prim.Native.Nat.{◌+◌}
use Rattle.text.specs.Text.{fits, spliced, end_of}
use Rattle.text.proofs.put.Goals as goal

pub returns-then-not-has_room : goal.returns-then-not-has_room
unfolding spliced end_of
returns-then-not-has_room c =
    let no : fits (length c.args.text.now) c.args.at (length c.args.part.now) ≡ false = (sym c.has_room.ensures ∙ c.if-not-has_room.true) in
    (simp no, simp no)

pub copy-requires : goal.copy-requires
unfolding fits
copy-requires c = leb-true (c.args.at + length c.args.part.now) (length c.args.text.now) ((sym c.has_room.ensures ∙ c.if-not-has_room.false))

pub returns : goal.returns
unfolding spliced end_of
returns c =
    let yes : fits (length c.args.text.now) c.args.at (length c.args.part.now) ≡ true = (sym c.has_room.ensures ∙ c.if-not-has_room.false) in
    (simp yes c.copy.ensures.to, simp yes c.copy.ensures.bytes)
