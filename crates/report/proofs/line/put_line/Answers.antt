-- `put_line` meets its contract: piece after piece.
-- Assumes nothing.
use Rattle.text.proofs.PageLaws.{wrote}
use Rattle.report.specs.Report.{state_line}
use Rattle.report.proofs.Putting.{begin, next, ended}
use Rattle.report.proofs.line.put_line.Goals as goal

pub returns : goal.returns
unfolding state_line
returns c = λ h.
    let name = next (begin _ _ h) c.put_name.ensures in
    let mark = next name (wrote (rw c.mark_word.ensures at c.put.ensures)) in
    let found = next mark (wrote (rw c.yes_word.ensures at c.put-2.ensures)) in
    let set = next found c.put_set.ensures in
    let gap = next set (wrote c.put-3.ensures) in
    let sure = next gap (wrote (rw c.yes_word-2.ensures at c.put-4.ensures)) in
    ended (next sure (wrote (rw c.decision_word.ensures at c.put-5.ensures)))
