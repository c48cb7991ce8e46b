-- `packed::run_from` meets its contract.
-- Assumes nothing.
use mathlib.Core.List.{map}
use mathlib.Core.Path.{ap, ◌∙◌}
use lib.ListN.{length, drop}
use Rattle.packed.specs.Bytes.{sites_at, site_from, rows_in, run_from}
use Rattle.packed.proofs.Reading.{rows_length, rows_sites}
use Rattle.packed.proofs.run_from.Goals as goal

pub sites_from-requires : goal.sites_from-requires
sites_from-requires c = ap length c.rows_in.ensures ∙ rows_length c.args.run.now

pub returns : goal.returns
unfolding run_from rows_in
returns c = simp (c.sites_from.ensures ∙ ap (map site_from) c.rows_in.ensures ∙ rows_sites 8 (drop sites_at c.args.run.now), c.net_from.ensures)
