-- What is left to show.
use Prim.Native.Nat.{ℕ, ◌+◌, ◌≤◌}
use mathlib.Core.List.{List}
use mathlib.Core.Path.{refl, sym, subst, ◌∙◌}
use lib.ListN.{length}
use borrow.Author.Rules.{rules}
use Rattle.text.proofs.TextLaws.{put_length, put_as, put_fits}
use Rattle.text.proofs.Putting.{each_begins, each_fits, each_next, each_ended}
use Rattle.sheet.specs.Record.{no_transition}
use Rattle.sheet.specs.Write.{transition_bytes}
use Rattle.sheet.proofs.writer.put_transitions.Goals as goal

pub loop-t-init : goal.loop-t-init
loop-t-init c = (refl, each_begins transition_bytes _ c.args.moves.now c.args.page.now.text.now c.args.page.now.at refl c.requires)

pub loop-t-preserved : goal.loop-t-preserved
loop-t-preserved c =
    let going = c.loop-t.invariant.1 in
    let page = c.loop-t.page in
    let fits = subst (λ (l : List ℕ). page.at + length l ≤ length page.text.now) (sym c.row_of.ensures) (each_fits going no_transition c.loop-t-test.true) in (
      c.put.ensures.same ∙ c.loop-t.invariant.0,
      each_next going no_transition c.loop-t-test.true (put_as (put_fits _ _ _ fits (c.put.ensures.at, c.put.ensures.bytes)) c.row_of.ensures),
    )

pub returns : goal.returns
returns c =
    let all = each_ended c.loop-t.invariant.1 (search rules) in
    record { same = c.loop-t.invariant.0; size = put_length all; put = all }
