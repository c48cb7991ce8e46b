-- Text in lent bytes: a part is put from a place on.
-- Assumes nothing.
use Rattle.std.specs.Prelude.{ℕ, ◌+◌, ◌≤◌, Bool, cond, List, ◌++◌, ◌≡◌, leb, length, take, drop}

-- so many bytes fit from a place on
unfoldable pub fits : ℕ → ℕ → ℕ → Bool
fits room at size = leb (at + size) room

-- the part stands in the bytes from the place on, and all others are as they were
abbrev pub over : List ℕ → ℕ → List ℕ → List ℕ
over text at part = take at text ++ (part ++ drop (at + length part) text)

-- a part that does not fit is not put
unfoldable pub spliced : List ℕ → ℕ → List ℕ → List ℕ
spliced text at part = cond (fits (length text) at (length part)) (over text at part) text

-- where the part ends
unfoldable pub end_of : List ℕ → ℕ → List ℕ → ℕ
end_of text at part = cond (fits (length text) at (length part)) (at + length part) at

-- a part that fits was put: there was room, it ends here, and these are the bytes then
pub record Put (text : List ℕ) (at : ℕ) (part last : List ℕ) (r : ℕ) : Type 0 where
  pub room : at + length part ≤ length text
  pub to : r ≡ at + length part
  pub bytes : last ≡ over text at part
