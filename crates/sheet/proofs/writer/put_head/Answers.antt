-- `put_head` meets its contract: four bytes, then the counts.
-- Assumes nothing.
use mathlib.Core.Path.{◌≡◌, ap, ◌∙◌}
use native.Mathlib.Omega.{arith}
use lib.ListN.{length, take}
use lib.Seq.{length-take-le}
use borrow.Author.Rules.{rules}
use Rattle.text.proofs.PageLaws.{wrote, and_then, in_words}
use Rattle.sheet.proofs.WriteLaws.{two_are}
use Rattle.sheet.proofs.writer.put_head.Goals as goal

pub returns : goal.returns
returns c =
    let long = c.to_be_bytes.ensures ∙ two_are c.args.follows (search rules) in
    let all : length (take c.args.sites c.args.counts.now) ≡ c.args.sites = length-take-le c.args.sites c.args.counts.now (search rules) in
    let a = wrote c.put.ensures (omega (arith, ap length long, c.requires.1)) in
    let b = wrote c.put-2.ensures (omega (arith, ap length long, c.requires.1)) in
    let d = wrote c.put-3.ensures (omega (arith, ap length long, all, c.requires.1)) in
    and_then (in_words a long) (and_then b d)
