-- `packed::write_run` meets its contract: head, sites and network are put.
-- Assumes nothing.
use Prim.Native.Nat.{ℕ, ◌*◌}
use native.Mathlib.Omega.{arith}
use mathlib.Core.Path.{ap, ◌∙◌}
use mathlib.Core.List.{◌++◌}
use borrow.Author.Rules.{rules}
use borrow.Author.Tests.{eq-eqb}
use lib.ListN.{length}
use Rattle.text.proofs.Putting.{length_mapped}
use Rattle.run.proofs.Views.{Shape}
use Rattle.packed.proofs.BytesLaws.{sites_length}
use Rattle.packed.specs.Bytes.{site_size, run_head, length_ground, replaced, run_bytes}
use Rattle.packed.proofs.Writing.{put_behind}
use Rattle.packed.proofs.write_run.Goals as goal

pub returns : goal.returns
unfolding length_ground replaced run_bytes run_head
returns c =
    let r = c.args.run in
    let shape : Shape r = record { sites = search (rules, length_mapped); net = search rules } in
    let whole = c.if-bytes-ne-RUN.false in
    let head = c.copy_from_slice.ensures.after in
    let sites = c.put_sites.ensures in
    let net = c.copy_from_slice-2.ensures.after in (
      simp (eq-eqb _ _ whole),
      simp (eq-eqb _ _ whole)
          (put_behind c.args.bytes.now _ _ _ 2 64 (ap length head)
          (ap length sites ∙ sites_length r.sites ∙ ap (λ (k : ℕ). site_size * k) shape.sites) (omega (arith, whole, ap length net, shape.net))
          ∙ (λ j. head j ++ (sites j ++ net j))),
    )
