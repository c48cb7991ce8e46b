-- `write_ground` meets its contract: each answer by the tests that led there.
-- Assumes nothing.
use mathlib.Core.Path.{sym, ◌∙◌}
use Rattle.sheet.specs.Write.{write_ground}
use Rattle.sheet.proofs.WriteLaws.{sites_among, moves_few}
use Rattle.sheet.proofs.writer.write_ground.Goals as goal

pub returns-then-has_wrong_counts : goal.returns-then-has_wrong_counts
unfolding write_ground
returns-then-has_wrong_counts c = simp (← c.has_wrong_counts.ensures, c.if-has_wrong_counts.true)

pub returns-then-has_wrong_moves : goal.returns-then-has_wrong_moves
unfolding write_ground
returns-then-has_wrong_moves c = simp (← c.has_wrong_counts.ensures, c.if-has_wrong_counts.false, ← c.has_wrong_moves.ensures, c.if-has_wrong_moves.true)

pub returns-then-has_stray_mark : goal.returns-then-has_stray_mark
unfolding write_ground
returns-then-has_stray_mark c = simp (← c.has_wrong_counts.ensures, c.if-has_wrong_counts.false, ← c.has_wrong_moves.ensures, c.if-has_wrong_moves.false, ← c.has_stray_mark.ensures, c.if-has_stray_mark.true)

pub parts_ground-requires : goal.parts_ground-requires
parts_ground-requires c = (moves_few c.args.sheet.now (sym c.has_wrong_moves.ensures ∙ c.if-has_wrong_moves.false), (sites_among c.args.sheet.now (sym c.has_wrong_counts.ensures ∙ c.if-has_wrong_counts.false)).high)

pub returns : goal.returns
unfolding write_ground
returns c = simp (← c.has_wrong_counts.ensures, c.if-has_wrong_counts.false, ← c.has_wrong_moves.ensures, c.if-has_wrong_moves.false, ← c.has_stray_mark.ensures, c.if-has_stray_mark.false) c.parts_ground.ensures
