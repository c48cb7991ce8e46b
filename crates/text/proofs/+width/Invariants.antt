-- `text::width` meets its contract. The measure is the number.
-- Assumes nothing.
use Rattle.text.proofs.+width.Given as goal

abbrev pub decreases-width : goal.decreases-width
decreases-width l = l.n
