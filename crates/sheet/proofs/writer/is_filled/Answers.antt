-- `is_filled` meets its contract: a transition that is not none has a field that is not 0.
-- Assumes nothing.
use Prim.Native.Nat.{ℕ, ◌+◌}
use mathlib.Core.Bool.{not, ◌&&◌}
use mathlib.Core.Path.{◌≡◌, ap, ◌∙◌}
use native.Mathlib.Decide.{ℕ_discrete}
use native.Mathlib.Omega.{arith}
use borrow.Author.Tests.{eq-eqb, ne_eqb}
use lib.Dec.{eqb}
use borrow.Author.Rules.{rules}
use Rattle.sheet.specs.Record.{no_transition}
use Rattle.sheet.specs.Write.{filled}
use Rattle.sheet.proofs.writer.is_filled.Goals as goal

-- two numbers are 0 where their sum is
both : (a b : ℕ) → (eqb a 0 && eqb b 0) ≡ eqb (a + b) 0
both a b = elim (ℕ_discrete a 0) as (λ d. (eqb a 0 && eqb b 0) ≡ eqb (a + b) 0) [
  | yes e ↦ simp (eq-eqb a 0 e) (ap (λ (k : ℕ). eqb k 0) (let s : b ≡ a + b = omega arith in s))
  | no e ↦ simp (ne_eqb a 0 e, ne_eqb (a + b) 0 (λ z. e (omega arith)))
]

six : (a b c d e f : ℕ) → (eqb a 0 && (eqb b 0 && (eqb c 0 && (eqb d 0 && (eqb e 0 && eqb f 0))))) ≡ eqb (a + b + c + d + e + f) 0
six a b c d e f =
    simp (both e f, both d (e + f), both c (d + (e + f)), both b (c + (d + (e + f))), both a (b + (c + (d + (e + f)))))
    (ap (λ (k : ℕ). eqb k 0) (let s : a + (b + (c + (d + (e + f)))) ≡ a + b + c + d + e + f = omega arith in s))

pub returns : goal.returns
unfolding filled
returns c =
    let t = c.args.t.now in
    let none : c.default.result ≡ no_transition = search rules in
    (rw none at c.ne.ensures) ∙ ap not (six t.site t.from t.to t.vote t.reads t.writes)
