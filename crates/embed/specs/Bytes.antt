-- An outcome's byte, and what a call on bytes returns and leaves.
-- Assumes nothing.
use Rattle.std.specs.Prelude.{ℕ, List}
use Rattle.site.specs.declared.Outcome.{Outcome}
use Rattle.site.specs.declared.Outcome.TheVariants.{Taken, Passed, Refused}
use Rattle.site.specs.Step.{number_of}

-- 0 taken, 1 passed, 2 refused
abbrev pub outcome_byte : Outcome → ℕ
outcome_byte Taken = 0
outcome_byte Passed = 1
outcome_byte (Refused g) = 2

-- what a call returns and leaves: of one lent slice, or of two, a record's and the answer's
pub record Left : Type 0 where
  pub returned : ℕ
  pub room : List ℕ

pub record LeftBoth : Type 0 where
  pub returned : ℕ
  pub bytes : List ℕ
  pub answer : List ℕ

abbrev pub leaves : ℕ → List ℕ → Left
leaves r room = record { returned = r; room = room }

abbrev pub leaves_both : ℕ → List ℕ → List ℕ → LeftBoth
leaves_both r bytes answer = record { returned = r; bytes = bytes; answer = answer }

-- a record's bytes after a call: new where it was taken or passed over, the old ones where it was refused
abbrev pub bytes_after : Outcome → List ℕ → List ℕ → List ℕ
bytes_after Taken old new = new
bytes_after Passed old new = new
bytes_after (Refused g) old new = old

-- what such a call returns and leaves: the outcome's number, the record's bytes, the answer
abbrev pub called : Outcome → List ℕ → List ℕ → List ℕ → LeftBoth
called o old new answer = leaves_both (number_of o) (bytes_after o old new) answer
