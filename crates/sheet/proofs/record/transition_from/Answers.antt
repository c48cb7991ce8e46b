-- `transition_from` meets its contract: big-endian bytes are what `four_at` names.
-- Assumes nothing.
use Prim.Native.Nat.{ℕ}
use mathlib.Core.Path.{◌≡◌, ap₂}
use native.Mathlib.Omega.{arith}
use Rattle.sheet.specs.Record.{byte, four_at, transition_from}
use Rattle.sheet.specs.declared.Transition.{Transition}
use Rattle.sheet.proofs.record.transition_from.Goals as goal

pub returns : goal.returns
unfolding transition_from four_at
returns c =
    let row = c.args.row.now in
    let reads : c.from_be_bytes.result ≡ four_at row 4 = omega (arith, c.from_be_bytes.ensures) in
    let writes : c.from_be_bytes-2.result ≡ four_at row 8 = omega (arith, c.from_be_bytes-2.ensures) in
    ap₂ (λ (r w : ℕ). let t : Transition = record { site = byte row 0; from = byte row 1; to = byte row 2; vote = byte row 3; reads = r; writes = w } in t) reads writes
