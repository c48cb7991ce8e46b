-- `from_parts` meets its contract: what 810 bytes tell, or no sheet.
-- Assumes nothing.
use mathlib.Core.Path.{ap, ◌∙◌}
use borrow.Author.Tests.{eq-eqb, ne_eqb}
use Rattle.sheet.specs.Parts.{parts_size, parts_in, parts_from}
use Rattle.sheet.proofs.from_parts.Goals as goal

pub returns-in-Some : goal.returns-in-Some
unfolding parts_from
returns-in-Some c = simp (eq-eqb _ parts_size c.in-Some.ensures.cases.long) (c.sheet_from.ensures ∙ ap parts_in c.in-Some.ensures.cases.same)

pub returns-in-None : goal.returns-in-None
unfolding parts_from
returns-in-None c = simp (ne_eqb _ parts_size c.in-None.ensures.cases) c.no_sheet.ensures
