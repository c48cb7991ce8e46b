-- Words as bytes: one for each character.
-- Assumes nothing.
use Rattle.std.specs.Prelude.{ℕ, List, [], ◌∷◌}
use Prim.Native.Char.{code}
use Prim.Native.String as string
use Prim.Native.String.{String}

abbrev pub said : String → List ℕ
said string.[] = []
said (string.◌∷◌ c s) = code c ∷ said s
