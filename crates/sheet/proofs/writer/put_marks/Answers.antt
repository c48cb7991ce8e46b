-- What is left to show.
use Prim.Native.Nat.{ℕ, ◌+◌, ◌-◌, ◌*◌, ◌≤◌, ◌<◌}
use mathlib.Core.Path.{◌≡◌, refl, sym, ap, subst, ◌∙◌}
use native.Mathlib.Omega.{arith}
use lib.ListN.{length, get_or}
use borrow.Author.Rules.{rules}
use Rattle.text.proofs.TextLaws.{put_length, put_as, put_fits}
use Rattle.text.proofs.Putting.{each_begins, each_fits, each_next, each_ended}
use Rattle.sheet.proofs.IndexLaws.{length_table, table_at}
use Rattle.sheet.proofs.Pieces.{up_to}
use Rattle.sheet.specs.Write.{site_marks, marks_for}
use Rattle.sheet.proofs.writer.put_marks.Goals as goal

pub loop-i-init : goal.loop-i-init
unfolding marks_for
loop-i-init c = (refl, each_begins (site_marks c.args.counts.now c.args.marks.now) 4 (up_to 4) c.args.page.now.text.now c.args.page.now.at (length_table _ 4) c.requires.1)

pub loop-i-preserved : goal.loop-i-preserved
unfolding site_marks
loop-i-preserved c =
    let counts = c.args.counts.now in
    let marks = c.args.marks.now in
    let i = c.loop-i.i in
    let page = c.loop-i.page in
    let going = c.loop-i.invariant.1 in
    let four : i < 4 = search rules in
    let here = table_at (λ (j : ℕ). j) 4 i 0 four in
    let size : 8 * i + get_or counts i 0 - 8 * i ≡ get_or counts i 0 = omega arith in
    let fits = subst (λ (j : ℕ). page.at + length (site_marks counts marks j) ≤ length page.text.now) here (each_fits going 0 four) in (
      c.put.ensures.same ∙ c.loop-i.invariant.0,
      each_next going 0 four (put_as (put_fits _ _ (site_marks counts marks i) fits (simp size at c.put.ensures.at, simp size at c.put.ensures.bytes)) (ap (site_marks counts marks) (sym here))),
    )

pub returns : goal.returns
unfolding marks_for
returns c =
    let all = each_ended c.loop-i.invariant.1 (search rules) in
    record { same = c.loop-i.invariant.0; size = put_length all; put = all }
