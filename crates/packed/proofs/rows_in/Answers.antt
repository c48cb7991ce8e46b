-- `packed::rows_in` meets its contract.
-- Assumes nothing.
use Prim.Native.Nat.{ℕ, ◌*◌, ◌/◌}
use mathlib.Core.List.{List}
use mathlib.Core.Path.{◌≡◌, ap, ◌∙◌}
use native.Mathlib.Omega.{arith}
use lib.ListN.{length, take, drop, length-drop, length-take}
use Rattle.std.specs.Simd.{first_chunks}
use Rattle.packed.specs.Bytes.{site_size, sites_at, run_size, rows_in}
use Rattle.packed.proofs.Reading.{rows_within}
use borrow.Author.Rules.{rules}
use Rattle.packed.proofs.rows_in.Goals as goal

pub returns : goal.returns
unfolding rows_in
returns c =
    let all : length c.args.run.now ≡ run_size = search rules in
    let behind : List ℕ = drop sites_at c.args.run.now in
    let whole : length (take (site_size * 8) behind) ≡ site_size * 8 = omega (arith, length-take (site_size * 8) behind, length-drop sites_at c.args.run.now, all) in
    c.as_chunks.ensures.front ∙ ap (λ (n : ℕ). first_chunks site_size (n / site_size) (take (site_size * 8) behind)) whole ∙ rows_within 8 behind
