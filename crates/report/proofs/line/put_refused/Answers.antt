-- `put_refused` meets its contract: piece after piece.
-- Assumes nothing.
use borrow.Author.Rules.{rules}
use Rattle.text.proofs.PageLaws.{wrote, given_back}
use Rattle.report.specs.Report.{refused_line}
use Rattle.report.proofs.Putting.{begin, next, ended}
use Rattle.report.proofs.line.put_refused.Goals as goal

pub returns : goal.returns
unfolding refused_line
returns c = given_back (ended (next (next (next (begin _ _ c.requires) (wrote c.put.ensures)) (wrote c.put_decimal.ensures)) (wrote c.put-2.ensures))) (search rules) (search rules)
