-- `put_middle` meets its contract: the messages, then the number.
-- Assumes nothing.
use mathlib.Core.Path.{ap, ◌∙◌}
use native.Mathlib.Omega.{arith}
use lib.ListN.{length}
use borrow.Author.Rules.{rules}
use Rattle.text.proofs.PageLaws.{wrote, and_then, in_words}
use Rattle.sheet.specs.Write.{four_bytes, middle_bytes}
use Rattle.sheet.proofs.WriteLaws.{four_are}
use Rattle.sheet.proofs.writer.put_middle.Goals as goal

pub returns : goal.returns
unfolding middle_bytes four_bytes
returns c =
    let four = c.to_be_bytes.ensures ∙ four_are c.args.first (search rules) in
    let a = in_words (wrote c.put.ensures (omega (arith, ap length four, c.requires))) four in
    and_then a (wrote c.put-2.ensures (omega (arith, c.requires)))
