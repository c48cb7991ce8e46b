-- `run::Run::put` meets its contract.
-- Assumes nothing.
use Rattle.std.proofs.Common.{◌∙◌, true, false}
use Rattle.run.specs.Run.{taken_out, stopped_at}
use Rattle.run.proofs.Applied.{put_is}
use Rattle.run.proofs.Run.put.Goals as goal
use Rattle.run.proofs.Run.put.Goals.{then-effect, else-effect}

pub returns : goal.returns
unfolding stopped_at taken_out
returns c = let a = c.args in elim c.if-effect.branch [
  | then-effect w ↦ put_is a.self a.s a.effect true w.if-effect.true c.if-effect.self (w.self-is ∙ simp (w.with.ensures, w.clear.ensures, c.take_out.ensures, c.from.ensures)) c.send.new.net (c.send.ensures ∙ simp c.minus-entering.ensures)
  | else-effect w ↦ put_is a.self a.s a.effect false w.if-effect.false c.if-effect.self (w.self-is ∙ simp (c.take_out.ensures, c.from.ensures)) c.send.new.net (c.send.ensures ∙ simp c.minus-entering.ensures)
]
