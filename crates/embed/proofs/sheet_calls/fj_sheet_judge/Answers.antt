-- `embed::sheet_calls::fj_sheet_judge` meets its contract: a refusal leaves zeros.
-- Assumes nothing.
use mathlib.Core.Path.{refl, ◌∙◌}
use lib.ListN.{replicate}
use Rattle.embed.specs.SheetCalls.JudgeCall.{judged}
use Rattle.embed.proofs.Calls.{put_front}
use Rattle.embed.proofs.sheet_calls.fj_sheet_judge.Goals as goal

pub returns-in-Ok : goal.returns-in-Ok
returns-in-Ok c = judged c.if-out-lt-VERDICT.false _ c.in-Ok.ensures refl c.put_verdict.ensures

pub returns-in-Err : goal.returns-in-Err
returns-in-Err c = judged c.if-out-lt-VERDICT.false _ c.in-Err.ensures c.from-in-Err.ensures (c.put.ensures.1 ∙ put_front (replicate 206 0) c.args.out.now c.if-out-lt-VERDICT.false)
