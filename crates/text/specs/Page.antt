-- A page: lent bytes, and the place from which their text goes on.
-- Assumes nothing.
use Rattle.std.specs.Prelude.{List, ℕ, ◌≡◌, length}
use Rattle.text.specs.declared.Page.{Page}
use Rattle.text.specs.Text.{spliced, end_of, Put}

-- a part was offered to a page: where it fits it stands from the old place on, and the page goes on behind it; else all is as it was.
-- The page still has the same lent bytes
pub record Offered (before : Page) (part : List ℕ) (after : Page) : Type 0 where
  pub same : after.text.ghost_name ≡ before.text.ghost_name
  pub at : after.at ≡ end_of before.text.now before.at part
  pub bytes : after.text.now ≡ spliced before.text.now before.at part

-- a part that fits was written
pub record Written (before : Page) (part : List ℕ) (after : Page) : Type 0 where
  pub same : after.text.ghost_name ≡ before.text.ghost_name
  pub size : length after.text.now ≡ length before.text.now
  pub put : Put before.text.now before.at part after.text.now after.at
