-- `packed::read_run` meets its contract.
-- Assumes nothing.
use borrow.Author.Rules.{rules}
use Rattle.run.specs.Event.{fresh_of}
use Rattle.packed.specs.Bytes.{run_in}
use Rattle.packed.proofs.Reading.{run_told, run_sized}
use Rattle.packed.proofs.read_run.Goals.{in_default-via-in-Some+else-tells_run, in_default-via-in_default}
use Rattle.packed.proofs.read_run.Goals as goal

pub returns-in_default : goal.returns-in_default
unfolding run_in fresh_of
returns-in_default c =
    elim c.in_default.branch [
      | in_default-via-in-Some+else-tells_run w ↦ search (rules, run_told, run_sized, c.fresh.ensures)
      | in_default-via-in_default w ↦ search (rules, run_told, run_sized, c.fresh.ensures)
    ]
