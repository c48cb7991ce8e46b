-- `sheets::main` lends words and room enough for any sheet and the longest report.
-- Assumes nothing.
use native.Mathlib.Omega.{arith}
use Rattle.sheets.proofs.main.Goals as goal

pub reported-length-requires : goal.reported-length-requires
reported-length-requires c = (omega arith, omega arith)
