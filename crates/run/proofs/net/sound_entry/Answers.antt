-- `run::net::sound_entry` meets its contract.
-- Assumes nothing.
use mathlib.Core.Bool.{true≢false}
use mathlib.Core.Path.{sym, ◌∙◌}
use Rattle.sets.proofs.SetLaws.{subset_of, has_none}
use borrow.Author.Rules.{rules}
use borrow.Author.Tests.{eq-eqb}
use Rattle.run.proofs.net.sound_entry.Goals as goal

pub returns-then-to-eq0 : goal.returns-then-to-eq0
returns-then-to-eq0 c = eq-eqb _ _ c.if-to-eq0.true ∙ sym (subset_of _ _ (search rules) (λ j h. absurd (true≢false (sym h ∙ simp c.if-to-eq0.true (has_none j)))))
