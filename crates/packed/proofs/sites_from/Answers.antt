-- `packed::sites_from` meets its contract.
-- Assumes nothing.
use mathlib.Core.Path.{sym, ◌∙◌}
use mathlib.Core.List.{[], map}
use native.Mathlib.Omega.{arith}
use borrow.Author.Rules.{rules}
use borrow.Author.Tests.{tests}
use lib.ListN.{get_or}
use Rattle.std.proofs.lemmas.List.{same_lists, get_or-map, length-map}
use Rattle.packed.specs.Bytes.{site_from}
use Rattle.packed.proofs.Arrays.{made}
use Rattle.packed.proofs.sites_from.Goals as goal

pub returns : goal.returns
returns c =
    let rows = c.args.rows.now in
    same_lists c.from_fn.result (map site_from rows) (c.from_fn.ensures.items.long ∙ sym c.requires ∙ sym (length-map rows site_from))
    (λ k d b.
    made _ (λ i. site_from (get_or rows i [])) _ (λ i y q w. search (rules, tests)) c.from_fn.result 8 c.from_fn.ensures.items k d (omega (arith, c.from_fn.ensures.items.long))
    ∙ sym (get_or-map site_from rows k [] d (omega (arith, c.from_fn.ensures.items.long, c.requires))))
