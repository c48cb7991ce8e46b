-- `embed::sheet_calls::put_verdict` meets its contract: what it says of the whole sheet is put, then the local states.
-- Assumes nothing.
use Prim.Native.Nat.{ℕ, ◌+◌}
use mathlib.Core.List.{List, ◌++◌, flat_map}
use mathlib.Core.Path.{◌≡◌, refl, ap, ◌∙◌}
use native.Mathlib.Omega.{arith}
use lib.ListN.{length, drop, length-append}
use Rattle.std.specs.List.{flat_map as joined}
use Rattle.text.proofs.PageLaws.{wrote, and_then, in_words, given_back}
use Rattle.text.proofs.Putting.{length_mapped, rows_joined}
use Rattle.embed.specs.SheetCalls.{local_bytes, head_bytes, verdict_bytes}
use Rattle.embed.proofs.Calls.{head_length, locals_length}
use borrow.Author.Rules.{rules}
use Rattle.embed.proofs.sheet_calls.put_verdict.Goals as goal

pub returns : goal.returns
unfolding verdict_bytes
returns c =
    let v = c.args.verdict.now in
    let all : length v.locals ≡ 32 = search (rules, length_mapped) in
    let rows = c.as_flattened.ensures.value ∙ ap (joined (λ (x : List ℕ). x)) c.rows_of-rows.ensures ∙ rows_joined local_bytes v.locals in
    let locals = in_words (wrote c.put.ensures (omega (arith, c.requires, c.put_head.ensures.size, c.put_head.ensures.put.to, head_length v, ap length rows, locals_length v.locals, all))) rows in
    let long : 0 + length (head_bytes v ++ flat_map local_bytes v.locals) ≡ 206 = omega (arith, length-append (head_bytes v) (flat_map local_bytes v.locals), head_length v, locals_length v.locals, all) in
    (given_back (and_then c.put_head.ensures locals) (search rules) refl).bytes ∙ ap (λ (k : ℕ). verdict_bytes v ++ drop k c.args.out.now) long
