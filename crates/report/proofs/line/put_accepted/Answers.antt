-- `put_accepted` meets its contract: line after line; each fits because the whole does.
-- Assumes nothing.
use borrow.Author.Rules.{rules}
use Rattle.text.proofs.PageLaws.{given_back}
use Rattle.report.specs.Report.{accepted_text}
use Rattle.report.proofs.Putting.{begin, next, ended}
use Rattle.report.proofs.line.put_accepted.Goals as goal

pub returns : goal.returns
unfolding accepted_text
returns c =
    let all = ended (next (next (next (next (begin _ _ c.requires) c.put_head.ensures) c.put_lines.ensures) c.put_ruling.ensures) c.put_tolerance.ensures) in
    let same = all.same in
    given_back all (search rules) (search rules)
