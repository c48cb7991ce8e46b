-- Arrays that calls of a closure make, where each call computes a function of what it is given.
-- Assumes nothing.
use Prim.Native.Nat.{ℕ, zero, suc, ◌+◌, ◌≤◌, ◌<◌}
use mathlib.Core.Bool.{Bool, true, false}
use mathlib.Core.List.{List, map}
use mathlib.Core.Path.{◌≡◌, refl, sym, ap, subst, ◌∙◌}
use native.Mathlib.Omega.{arith}
use borrow.Author.Tests.{eqb-true, eqb-false}
use denote.Param.Members.{Mut}
use lib.Dec.{eqb}
use lib.ListN.{length, get_or}
use Rattle.std.specs.Array.{IsMapOf, IsFromFnResult, IsFromFnResultFrom}
use Rattle.std.specs.Fn.{Called}
use Rattle.std.proofs.lemmas.List.{same_lists, get_or-map, length-map}

-- `xs.map(f)`
pub mapped : {F A B : Type 0} (g : Mut F (A × Unit {0}) B) (h : A → B) (f : F) (xs : List A) (ys : List B) (n : ℕ) (none : A)
    → ((p : F) (x : A) (y : B) (q : F) → Called g p (x, tt) y q → y ≡ h x) → length xs ≡ n → IsMapOf g f xs ys n → ys ≡ map h xs
mapped g h f xs ys n none calls e made =
    same_lists ys (map h xs) (made.long ∙ sym e ∙ sym (length-map xs h))
    (λ k d b.
    let call = made.at k none d (omega (arith, made.long)) in
    calls call.0 (get_or xs k none) (get_or ys k d) call.1 call.2 ∙ sym (get_or-map h xs k none d (omega (arith, made.long, e))))

-- `array::from_fn(f)`
module _ {F B : Type 0} (g : Mut F (ℕ × Unit {0}) B) (h : ℕ → B) (f : F)
    (calls : (i : ℕ) (y : B) (q : F) → Called g f (i, tt) y q → (q ≡ f) × (y ≡ h i)) where
  each_from : (ys : List B) (i n : ℕ) → IsFromFnResultFrom g f ys i n → (k : ℕ) (d : B) → i ≤ k → k < i + n → get_or ys k d ≡ h k
  each_from ys i zero w k d a b = absurd (omega arith)
  each_from ys i (suc n) w k d a b =
      let rest = subst (λ (q : F). IsFromFnResultFrom g q ys (i + 1) n) (calls i w.1 w.0 w.3).0 w.4 in
      go (λ (past : i + 1 ≤ k). each_from ys (i + 1) n rest k d past (omega arith)) (eqb k i) refl
    where
      go : (i + 1 ≤ k → get_or ys k d ≡ h k) → (b : Bool) → eqb k i ≡ b → get_or ys k d ≡ h k
      go further true e = let at = eqb-true k i e in ap (λ (j : ℕ). get_or ys j d) at ∙ w.2.1 d ∙ (calls i w.1 w.0 w.3).1 ∙ ap h (sym at)
      go further false e = let other = eqb-false k i e in further (omega arith)

  pub made : (ys : List B) (n : ℕ) → IsFromFnResult g f ys n → (k : ℕ) (d : B) → k < n → get_or ys k d ≡ h k
  made ys n w k d b = each_from ys 0 n w.each k d (omega arith) (omega arith)
