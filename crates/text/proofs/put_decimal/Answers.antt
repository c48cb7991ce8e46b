-- `text::put_decimal` meets its contract.
-- Assumes nothing.
use mathlib.Core.Path.{◌≡◌, sym, ap, ◌∙◌}
use mathlib.Core.Bool.{true, false}
use borrow.Author.Tests.{leb-true}
use lib.ListN.{length}
use Rattle.text.specs.Text.{fits, spliced, end_of}
use Rattle.text.specs.Decimal.{decimal}
use Rattle.text.proofs.put_decimal.Goals as goal

pub returns-then-not-has_room : goal.returns-then-not-has_room
unfolding spliced end_of
returns-then-not-has_room c =
    let no : fits (length c.args.text.now) c.args.at (length (decimal c.args.n)) ≡ false = ap (fits (length c.args.text.now) c.args.at) (sym c.width-size.ensures) ∙ (sym c.has_room.ensures ∙ c.if-not-has_room.true) in
    (simp no, simp no)

pub digits-requires : goal.digits-requires
unfolding fits
digits-requires c = (c.width-size.ensures, leb-true _ _ (sym c.has_room.ensures ∙ c.if-not-has_room.false))

pub returns : goal.returns
unfolding spliced end_of
returns c =
    let yes : fits (length c.args.text.now) c.args.at (length (decimal c.args.n)) ≡ true = ap (fits (length c.args.text.now) c.args.at) (sym c.width-size.ensures) ∙ (sym c.has_room.ensures ∙ c.if-not-has_room.false) in
    (simp yes c.digits.ensures.to, simp yes c.digits.ensures.bytes)
