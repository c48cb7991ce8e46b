-- `row_of` meets its contract: what it goes between, what it reads, what it writes.
-- Assumes nothing.
use Prim.Native.Nat.{ℕ}
use mathlib.Core.List.{List, [], ◌∷◌}
use mathlib.Core.Path.{ap₂, ◌∙◌}
use lib.ListN.{get_or}
use borrow.Author.Rules.{rules}
use Rattle.sheet.specs.Write.{four_bytes, transition_bytes}
use Rattle.sheet.proofs.WriteLaws.{four_are}
use Rattle.sheet.proofs.writer.row_of.Goals as goal

pub returns : goal.returns
unfolding transition_bytes four_bytes
returns c =
    let t = c.args.t in
    ap₂ (λ (r w : List ℕ). t.site ∷ t.from ∷ t.to ∷ t.vote ∷ get_or r 0 0 ∷ get_or r 1 0 ∷ get_or r 2 0 ∷ get_or r 3 0 ∷ get_or w 0 0 ∷ get_or w 1 0 ∷ get_or w 2 0 ∷ get_or w 3 0 ∷ [])
    (c.to_be_bytes.ensures ∙ four_are t.reads (search rules)) (c.to_be_bytes-2.ensures ∙ four_are t.writes (search rules))
