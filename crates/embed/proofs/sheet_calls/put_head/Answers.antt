-- `embed::sheet_calls::put_head` meets its contract: piece after piece.
-- Assumes nothing.
use mathlib.Core.Path.{◌≡◌}
use native.Mathlib.Omega.{arith}
use lib.ListN.{length}
use Rattle.text.proofs.PageLaws.{wrote, and_then, in_words}
use Rattle.embed.specs.SheetCalls.{head_bytes}
use borrow.Author.Rules.{rules}
use Rattle.embed.proofs.sheet_calls.put_head.Goals as goal

pub returns : goal.returns
unfolding head_bytes
returns c =
    let four : length c.witness_bytes.result ≡ 4 = search rules in
    let sites = wrote c.put.ensures (omega arith) in
    let witness = wrote c.put-2.ensures (omega arith) in
    let tolerance = wrote c.put-3.ensures (omega arith) in
    in_words (and_then sites (and_then witness tolerance)) (simp (c.to_be_bytes.ensures, c.witness_bytes.ensures, c.unwrap_or.ensures))
