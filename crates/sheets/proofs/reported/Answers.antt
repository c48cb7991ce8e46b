-- `sheets::reported` meets its contract.
-- Assumes nothing.
use Rattle.report.proofs.ReportLaws.{whole}
use Rattle.sheets.proofs.reported.Goals as goal

pub returns : goal.returns
returns c = whole c.requires.0 c.requires.1 c.report.ensures
