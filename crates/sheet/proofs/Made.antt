-- An array made by one call for each place is the table of what the calls give.
-- Assumes nothing.
use Prim.Native.Nat.{ℕ, zero, suc, ◌+◌, ◌≤◌, ◌<◌}
use mathlib.Core.List.{List, map}
use mathlib.Core.Path.{◌≡◌, sym, ap, subst, ◌∙◌}
use native.Mathlib.Decide.{ℕ_discrete}
use native.Mathlib.Omega.{arith}
use denote.Param.Members.{Mut}
use lib.ListN.{length, get_or}
use lib.Seq.{ext_get_or}
use Rattle.std.specs.Array.{IsFromFnResultFrom, IsFromFnResult, IsMapOf}
use Rattle.std.proofs.lemmas.List.{same_lists, get_or-map, length-map}
use Rattle.std.specs.Fn.{Called}
use Rattle.sheet.specs.Index.{table}
use Rattle.sheet.proofs.IndexLaws.{length_table, table_at}

module _ {F B : Type 0} (g : Mut F (ℕ × Unit {0}) B) (f : F) (h : ℕ → B)
    (gives : (i : ℕ) (y : B) (q : F) → Called g f (i, tt) y q → (q ≡ f) × (y ≡ h i)) where
  made_at : (ys : List B) (i n k : ℕ) (d : B) → IsFromFnResultFrom g f ys i n → i ≤ k → k < i + n → get_or ys k d ≡ h k
  made_at ys i zero k d calls low high = absurd (omega arith)
  made_at ys i (suc n) k d (q, y, at, call, rest) low high =
      let same = gives i y q call in
      let after = made_at ys (i + 1) n k d (subst (λ (p : F). IsFromFnResultFrom g p ys (i + 1) n) same.0 rest) in
      elim (ℕ_discrete k i) as (λ v. get_or ys k d ≡ h k) [
        | yes e ↦ ap (λ (j : ℕ). get_or ys j d) e ∙ at.1 d ∙ same.1 ∙ ap h (sym e)
        | no e ↦ after (omega arith) (omega arith)
      ]

  pub made : (d : B) (ys : List B) (n : ℕ) → IsFromFnResult g f ys n → ys ≡ table h n
  made d ys n r =
      ext_get_or d ys (table h n) (r.long ∙ sym (length_table h n))
      (λ k b. made_at ys 0 n k d r.each (omega arith) (omega (arith, r.long)) ∙ sym (table_at h n k d (omega (arith, r.long))))

-- an array made by one call for each element of another
pub mapped : {F A B : Type 0} (g : Mut F (A × Unit {0}) B) (h : A → B) (f : F) (xs : List A) (ys : List B) (n : ℕ) (none : A)
    → ((p : F) (x : A) (y : B) (q : F) → Called g p (x, tt) y q → y ≡ h x) → length xs ≡ n → IsMapOf g f xs ys n → ys ≡ map h xs
mapped g h f xs ys n none gives e r =
    same_lists ys (map h xs) (r.long ∙ sym e ∙ sym (length-map xs h))
    (λ k d b.
    let call = r.at k none d (omega (arith, r.long)) in
    gives call.0 (get_or xs k none) (get_or ys k d) call.1 call.2 ∙ sym (get_or-map h xs k none d (omega (arith, r.long, e))))
