-- `packed::rows_of` meets its contract.
-- Assumes nothing.
use borrow.Author.Rules.{rules}
use borrow.Author.Tests.{tests}
use Rattle.run.specs.Run.{no_site}
use Rattle.packed.specs.Bytes.{site_bytes}
use Rattle.packed.proofs.Arrays.{mapped}
use Rattle.packed.proofs.rows_of.Goals as goal

pub returns : goal.returns
returns c = mapped _ site_bytes _ c.args.sites c.map.result 8 no_site (λ p x y q w. search (rules, tests)) (search rules) c.map.ensures.items
