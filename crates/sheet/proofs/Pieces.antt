-- Pieces of a record at their places: a part that stands there is read as what it was, and what is read there is written as the same bytes.
-- One law for elements of any width: marks have one byte, transitions twelve.
-- Assumes nothing.
use Prim.Native.Nat.{ℕ, zero, suc, ◌+◌, ◌*◌, ◌≤◌, ◌<◌}
use mathlib.Core.List.{List, [], ◌∷◌, ◌++◌, flat_map, append_assoc, append-nil}
use mathlib.Core.Path.{◌≡◌, refl, sym, ap, ap₂, subst, ◌∙◌}
use native.Mathlib.Nat.{add-zero, mul-zero, mul-suc}
use native.Mathlib.Omega.{arith}
use lib.ListN.{length, get_or, take, drop, length-append, get_or-append}
use lib.Seq.{get_or-append-add, length-take-le, take-add, drop-drop, take_all, ext_get_or}
use Rattle.text.proofs.Putting.{flat_length}
use Rattle.sheet.specs.Index.{sum_below, table}
use Rattle.sheet.specs.Record.{byte}
use Rattle.sheet.proofs.IndexLaws.{length_table, table_at}

-- ---- a part at its place

pub record At (l : List ℕ) (at : ℕ) (part : List ℕ) : Type 0 where
  pub front : List ℕ
  pub rest : List ℕ
  pub is : l ≡ front ++ (part ++ rest)
  pub place : length front ≡ at

-- the bytes themselves stand at their front
pub at_whole : (l : List ℕ) → At l 0 l
at_whole l = record { front = []; rest = []; is = sym (append-nil l); place = refl }

-- a place may be written in another way
pub at_as : {l : List ℕ} {at to : ℕ} {part : List ℕ} → at ≡ to → At l at part → At l to part
at_as {l} {at} {to} {part} e p = subst (λ (k : ℕ). At l k part) e p

module _ {l : List ℕ} {at : ℕ} where
  pub at_byte : {part : List ℕ} → At l at part → (i : ℕ) → i < length part → byte l (at + i) ≡ get_or part i 0
  at_byte {part} p i h =
      ap₂ (λ (x : List ℕ) (k : ℕ). get_or x (k + i) 0) p.is (sym p.place)
      ∙ get_or-append-add p.front (part ++ p.rest) i 0
      ∙ get_or-append part p.rest 0 i h

  module _ (part more : List ℕ) (p : At l at (part ++ more)) where
    pub at_first : At l at part
    at_first =
        record {
          front = p.front;
          rest = more ++ p.rest;
          is = p.is ∙ ap (λ (x : List ℕ). p.front ++ x) (append_assoc part more p.rest);
          place = p.place;
        }

    pub at_next : At l (at + length part) more
    at_next =
        record {
          front = p.front ++ part;
          rest = p.rest;
          is = p.is ∙ ap (λ (x : List ℕ). p.front ++ x) (append_assoc part more p.rest) ∙ sym (append_assoc p.front part (more ++ p.rest));
          place = length-append p.front part ∙ ap (λ (k : ℕ). k + length part) p.place;
        }

-- the i-th of pieces that stand one after another
pub piece_at : {A : Type 0} {l : List ℕ} (f : A → List ℕ) (none : A) (xs : List A) (at i : ℕ) → At l at (flat_map f xs) → i < length xs
    → At l (at + length (flat_map f (take i xs))) (f (get_or xs i none))
unfolding flat_map
piece_at f none [] at i p h = absurd (omega arith)
piece_at f none (x ∷ xs) at zero p h = at_as (sym (add-zero at)) (at_first (f x) (flat_map f xs) p)
piece_at f none (x ∷ xs) at (suc i) p h =
    at_as (let e = length-append (f x) (flat_map f (take i xs)) in omega (arith, e)) (piece_at f none xs (at + length (f x)) i (at_next (f x) (flat_map f xs) p) (omega arith))

-- ---- a part cut out of the bytes

abbrev pub cut_at : List ℕ → ℕ → ℕ → List ℕ
cut_at l at n = take n (drop at l)

-- one part after another
pub cut_then : (l : List ℕ) (at n m : ℕ) → cut_at l at n ++ cut_at l (at + n) m ≡ cut_at l at (n + m)
cut_then l at n m = ap (λ (x : List ℕ). cut_at l at n ++ take m x) (sym (drop-drop n at l)) ∙ sym (take-add n m (drop at l))

pub cut_whole : (l : List ℕ) (n : ℕ) → length l ≡ n → cut_at l 0 n ≡ l
cut_whole l n e = take_all n l (omega arith)

-- ---- pieces by their number

pub flat_then : {A B : Type 0} (f : A → List B) (xs ys : List A) → flat_map f (xs ++ ys) ≡ flat_map f xs ++ flat_map f ys
unfolding flat_map
flat_then f [] ys = refl
flat_then f (x ∷ xs) ys = ap (λ (z : List _). f x ++ z) (flat_then f xs ys) ∙ sym (append_assoc (f x) (flat_map f xs) (flat_map f ys))

-- the piece of the last number comes last
pub flat_table : {A B : Type 0} (f : A → List B) (g : ℕ → A) (n : ℕ) → flat_map f (table g (suc n)) ≡ flat_map f (table g n) ++ f (g n)
unfolding flat_map table
flat_table f g n = flat_then f (table g n) (g n ∷ []) ∙ ap (λ (z : List _). flat_map f (table g n) ++ z) (append-nil (f (g n)))

-- the numbers below n
abbrev pub up_to : ℕ → List ℕ
up_to n = table (λ (i : ℕ). i) n

-- pieces cut from the bytes one after another, of so many bytes each
module _ (l : List ℕ) (at : ℕ) (f : ℕ → List ℕ) (wide : ℕ → ℕ) where
  pub flat_cut : (n : ℕ) → ((i : ℕ) → i < n → f i ≡ cut_at l (at + sum_below wide i) (wide i)) → flat_map f (up_to n) ≡ cut_at l at (sum_below wide n)
  unfolding flat_map table sum_below
  flat_cut zero h = refl
  flat_cut (suc n) h =
      flat_table f (λ i. i) n
      ∙ ap₂ (λ (x y : List ℕ). x ++ y) (flat_cut n (λ i b. h i (omega arith))) (h n (omega arith))
      ∙ cut_then l at (sum_below wide n) (wide n)

pub flat_sum : (f : ℕ → List ℕ) (wide : ℕ → ℕ) (n : ℕ) → ((i : ℕ) → i < n → length (f i) ≡ wide i) → length (flat_map f (up_to n)) ≡ sum_below wide n
unfolding flat_map table sum_below
flat_sum f wide zero h = refl
flat_sum f wide (suc n) h =
    ap length (flat_table f (λ i. i) n)
    ∙ length-append (flat_map f (up_to n)) (f n)
    ∙ ap₂ (λ (x y : ℕ). x + y) (flat_sum f wide n (λ i b. h i (omega arith))) (h n (omega arith))

-- ---- elements of w bytes each

module _ {A : Type 0} (none : A) (w : ℕ) (bytes : A → List ℕ) (read : List ℕ → ℕ → A) (wide : (x : A) → length (bytes x) ≡ w) where
  -- elements that stand there are read as they were
  pub read_back : {l : List ℕ} {at : ℕ} → ((x : A) (to : ℕ) → At l to (bytes x) → read l to ≡ x)
      → (xs : List A) → At l at (flat_map bytes xs) → (k : ℕ) → k < length xs → read l (at + w * k) ≡ get_or xs k none
  read_back {l} {at} one xs p k h =
      let before : length (flat_map bytes (take k xs)) ≡ w * k =
      flat_length bytes w wide (take k xs) ∙ ap (λ (n : ℕ). w * n) (length-take-le k xs (omega arith)) in
      one (get_or xs k none) (at + w * k) (at_as (ap (λ (n : ℕ). at + n) before) (piece_at bytes none xs at k p h))

  -- all of them, where so many are read
  pub all_back : {l : List ℕ} {at : ℕ} → ((x : A) (to : ℕ) → At l to (bytes x) → read l to ≡ x)
      → (xs : List A) (n : ℕ) → length xs ≡ n → At l at (flat_map bytes xs) → table (λ (k : ℕ). read l (at + w * k)) n ≡ xs
  all_back {l} {at} one xs n e p =
      let f : ℕ → A = λ k. read l (at + w * k) in
      ext_get_or none (table f n) xs (length_table f n ∙ sym e)
      (λ k h. table_at f n k none (omega (arith, length_table f n)) ∙ read_back {l = l} {at = at} one xs p k (omega (arith, length_table f n)))

  -- elements read one after another are written as the same bytes
  pub written_again : (l : List ℕ) (at : ℕ) → ((to : ℕ) → to + w ≤ length l → bytes (read l to) ≡ cut_at l to w)
      → (n : ℕ) → at + w * n ≤ length l → flat_map bytes (table (λ (k : ℕ). read l (at + w * k)) n) ≡ cut_at l at (w * n)
  unfolding flat_map table
  written_again l at one zero h = ap (λ (n : ℕ). cut_at l at n) (sym (mul-zero w))
  written_again l at one (suc n) h =
      flat_table bytes (λ (k : ℕ). read l (at + w * k)) n
      ∙ ap₂ (λ (x y : List ℕ). x ++ y) (written_again l at one n (omega (arith, mul-suc w n))) (one (at + w * n) (omega (arith, mul-suc w n)))
      ∙ cut_then l at (w * n) w
      ∙ ap (λ (m : ℕ). cut_at l at m) (sym (mul-suc w n))
