-- `word_at` meets its contract: big-endian bytes are what `four_at` names.
-- Assumes nothing.
use native.Mathlib.Omega.{arith}
use Rattle.sheet.specs.Record.{four_at}
use Rattle.sheet.proofs.record.word_at.Goals as goal

pub returns : goal.returns
unfolding four_at
returns c = omega (arith, c.from_be_bytes.ensures)
