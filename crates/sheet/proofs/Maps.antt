-- What `map` makes of an array, where each call of the closure gives a function's value and changes no capture.
-- Assumes nothing.
use Prim.Native.Nat.{ℕ, zero, suc, ◌+◌, ◌<◌}
use mathlib.Core.List.{List}
use mathlib.Core.Path.{◌≡◌, sym, ap, subst, ◌∙◌}
use native.Mathlib.Omega.{arith}
use denote.Param.Members.{Mut}
use lib.ListN.{get_or}
use lib.Seq.{ext_get_or}
use Rattle.std.specs.Fn.{Called}
use Rattle.std.specs.Array.{MapsFrom, IsMapOf}
use Rattle.sheet.specs.Index.{table}
use Rattle.sheet.proofs.IndexLaws.{length_table, table_at}

module _ {F A B : Type 0} (g : Mut F (A × Unit {0}) B) (h : A → B) (f : F)
    (same : (x : A) (y : B) (q : F) → Called g f (x, tt) y q → (y ≡ h x) × (q ≡ f)) where
  mapped_at : (xs : List A) (ys : List B) (d : A) (e : B) (i n k : ℕ) → MapsFrom g f xs ys i n → k < n → get_or ys (i + k) e ≡ h (get_or xs (i + k) d)
  mapped_at xs ys d e i zero k m l = absurd (omega arith)
  mapped_at xs ys d e i (suc n) zero (q, x, y, at, gave, call, rest) l =
      ap (λ (j : ℕ). get_or ys j e) (omega arith) ∙ gave.1 e ∙ (same x y q call).0 ∙ ap h (sym (at.1 d) ∙ ap (λ (j : ℕ). get_or xs j d) (omega arith))
  mapped_at xs ys d e i (suc n) (suc k) (q, x, y, at, gave, call, rest) l =
      ap (λ (j : ℕ). get_or ys j e) (omega arith)
      ∙ mapped_at xs ys d e (i + 1) n k (subst (λ (p : F). MapsFrom g p xs ys (i + 1) n) (same x y q call).1 rest) (omega arith)
      ∙ ap (λ (j : ℕ). h (get_or xs j d)) (omega arith)

  pub table_from_map : (xs : List A) (ys : List B) (d : A) (n : ℕ) → IsMapOf g f xs ys n → ys ≡ table (λ (i : ℕ). h (get_or xs i d)) n
  table_from_map xs ys d n m =
      ext_get_or (h d) ys (table (λ (i : ℕ). h (get_or xs i d)) n) (m.long ∙ sym (length_table (λ (i : ℕ). h (get_or xs i d)) n))
      (λ k b. let l : k < n = omega (arith, m.long) in
      ap (λ (j : ℕ). get_or ys j (h d)) (omega arith) ∙ mapped_at xs ys d (h d) 0 n k m.each l ∙ ap (λ (j : ℕ). h (get_or xs j d)) (omega arith) ∙ sym (table_at (λ (i : ℕ). h (get_or xs i d)) n k (h d) l))
