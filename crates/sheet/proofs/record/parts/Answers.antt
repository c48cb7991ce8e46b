-- `parts` meets its contract: each part is what is read at its place.
-- Assumes nothing.
use Prim.Native.Nat.{◌-◌, ◌+◌}
use mathlib.Core.Path.{◌≡◌, ◌∙◌}
use native.Mathlib.Omega.{arith}
use lib.ListN.{length}
use Rattle.sheet.specs.Record.{sites_of, state_counts, moves_of, first_at, parts_by}
use Rattle.sheet.proofs.GroundLaws.{framed}
use Rattle.sheet.proofs.FineLaws.{whole, count_few}
use Rattle.sheet.proofs.Rows.{rest_read}
use Rattle.sheet.proofs.record.parts.Goals as goal

pub word_at-first-requires : goal.word_at-first-requires
word_at-first-requires c =
    let l = c.args.bytes.now in
    omega (arith, c.moves_at-at.ensures.0, c.moves_at-at.ensures.1, c.moves_at-at.ensures.2, whole l (framed l c.requires))

pub marks_of-marks-requires : goal.marks_of-marks-requires
marks_of-marks-requires c =
    let l = c.args.bytes.now in
    let f = framed l c.requires in
    (λ i. rw c.counts_of-counts.ensures (count_few l f i), rw (c.counts_of-counts.ensures, c.byte_at-sites.ensures) (omega (arith, whole l f)))

pub slice_bounds-rows-count : goal.slice_bounds-rows-count
slice_bounds-rows-count c =
    let l = c.args.bytes.now in
    omega (arith, c.moves_at-at.ensures.0, whole l (framed l c.requires))

pub slice_bounds-rows-start : goal.slice_bounds-rows-start
slice_bounds-rows-start c =
    let l = c.args.bytes.now in
    omega (arith, c.moves_at-at.ensures.0, whole l (framed l c.requires))

pub returns : goal.returns
unfolding parts_by
returns c =
    let l = c.args.bytes.now in
    let f = framed l c.requires in
    let first : first_at (sites_of l) (state_counts l) ≡ c.moves_at-at.result - 4 = omega (arith, c.moves_at-at.ensures.0) in
    let start = c.moves_at-at.result + 1 in
    let count = moves_of l (sites_of l) (state_counts l) in
    let transitions = c.transitions_of-transitions.ensures ∙ rest_read l start (length l - start) count (omega (arith, c.moves_at-at.ensures.0, whole l f)) (omega (arith, c.moves_at-at.ensures.0, whole l f)) in
    simp (transitions, c.marks_of-marks.ensures, c.byte_at-moves.ensures, c.word_at-first.ensures, ← first, c.moves_at-at.ensures.0, c.counts_of-counts.ensures, c.byte_at-sites.ensures)
