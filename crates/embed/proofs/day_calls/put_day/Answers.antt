-- `embed::day_calls::put_day` meets its contract.
-- Assumes nothing.
use mathlib.Core.List.{[], ◌∷◌, ◌++◌}
use mathlib.Core.Path.{◌≡◌, refl}
use native.Mathlib.Omega.{arith}
use lib.ListN.{length}
use Rattle.text.proofs.PageLaws.{wrote, and_then, in_words, given_back}
use Rattle.embed.specs.DayCall.{day_bytes, eight_of}
use borrow.Author.Rules.{rules}
use Rattle.embed.proofs.day_calls.put_day.Goals as goal

pub returns : goal.returns
unfolding day_bytes eight_of
returns c =
    let m : length c.to_be_bytes.result ≡ 8 = search rules in
    let n : length c.to_be_bytes-2.result ≡ 8 = search rules in
    let o : length c.to_be_bytes-3.result ≡ 8 = search rules in
    let accepted = wrote c.put.ensures (omega arith) in
    let written = wrote c.put-2.ensures (omega arith) in
    let place = wrote c.put-3.ensures (omega arith) in
    let awaited = wrote c.put-4.ensures (omega arith) in
    let text = in_words (and_then accepted (and_then written (and_then place awaited))) (λ i. c.to_be_bytes.ensures i ++ (c.to_be_bytes-2.ensures i ++ (c.to_be_bytes-3.ensures i ++ (c.args.day.awaited ∷ c.args.day.lowest ∷ [])))) in
    (given_back text (search rules) refl).bytes
