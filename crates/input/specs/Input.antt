-- What stands in a room after reading.
-- Assumes nothing.
use Rattle.std.specs.Prelude.{ℕ, List, Option, take}
use Rattle.std.specs.Io.KnownBytes.{Consumes}

-- the first n bytes of the room are those that the reader has lost, each once and in their order. This says something where a reader's
-- bytes are known, as those of a slice; what standard input has left is not.
abbrev pub Taken : Option (List ℕ) → Option (List ℕ) → List ℕ → ℕ → Type 0
Taken before after room n = Consumes before after (take n room)
