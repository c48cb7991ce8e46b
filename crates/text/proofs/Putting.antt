-- Pieces put one after another: what is done, what is left, and that it fits.
-- Assumes nothing.
use Prim.Native.Nat.{ℕ, ◌+◌, ◌*◌, ◌≤◌, ◌<◌}
use mathlib.Core.List.{List, [], ◌∷◌, ◌++◌, map, append_assoc, append-nil, flatten, flat_map}
use mathlib.Core.Path.{◌≡◌, refl, sym, ap, subst, ◌∙◌}
use native.Mathlib.Omega.{arith}
use native.Mathlib.Nat.{add-zero, add_comm, mul-zero, mul-suc}
use native.Mathlib.Numerals.{add-one}
use lib.ListN.{length, get_or, take, drop, length-append, length-map, take-append-drop, drop_of_length-le}
use lib.Seq.{drop-cons}
use Rattle.std.specs.List.{flat_map as joined}
use Rattle.text.specs.Text.{Put, end_of, spliced}
use Rattle.text.proofs.TextLaws.{put_fits, put_then, put_length}

-- nothing is put
pub put_none : (text : List ℕ) (at : ℕ) → at ≤ length text → Put text at [] text at
put_none text at h =
    record {
      room = omega arith;
      to = omega arith;
      bytes = sym (ap (λ (k : ℕ). take at text ++ drop k text) (add-zero at) ∙ take-append-drop at text);
    }

-- a part as long as the text takes its place
pub put_whole : {text part last : List ℕ} {r : ℕ} → Put text 0 part last r → length part ≡ length text → last ≡ part
put_whole {text} {part} p e =
    let all : length text ≤ 0 + length part = omega arith in
    p.bytes ∙ ap (λ (l : List ℕ). part ++ l) (drop_of_length-le text all) ∙ append-nil part

-- of the text x, the pieces ps are left, and there is room for them
pub record Going (text : List ℕ) (at : ℕ) (x : List ℕ) (ps : List (List ℕ)) (last : List ℕ) (r : ℕ) : Type 0 where
  pub done : List ℕ
  pub put : Put text at done last r
  pub room : r + length (flatten ps) ≤ length last
  pub is : done ++ flatten ps ≡ x

pub begin : (text : List ℕ) (at : ℕ) (ps : List (List ℕ)) → at + length (flatten ps) ≤ length text → Going text at (flatten ps) ps text at
begin text at ps h = record { done = []; put = put_none text at (omega arith); room = h; is = refl }

module _ {text x last : List ℕ} {at r : ℕ} {b : List ℕ} {ps : List (List ℕ)} (g : Going text at x (b ∷ ps) last r) where
  -- the next piece fits
  pub fits_next : r + length b ≤ length last
  unfolding flatten
  fits_next = omega (arith, g.room, length-append b (flatten ps))

  pub next : {v : List ℕ} {q : ℕ} → Put last r b v q → Going text at x ps v q
  unfolding flatten
  next {v} {q} p =
      record {
        done = g.done ++ b;
        put = put_then g.put p;
        room = omega (arith, g.room, length-append b (flatten ps), p.to, put_length p);
        is = append_assoc g.done b (flatten ps) ∙ g.is;
      }

  pub next_by : {v : List ℕ} {q : ℕ} → (q ≡ end_of last r b) × (v ≡ spliced last r b) → Going text at x ps v q
  next_by {v} {q} e = next (put_fits last r b fits_next e)

pub ended : {text x last : List ℕ} {at r : ℕ} → Going text at x [] last r → Put text at x last r
unfolding flatten
ended {text} {x} {last} {at} {r} g = subst (λ (d : List ℕ). Put text at d last r) (sym (append-nil g.done) ∙ g.is) g.put

-- ---- a piece for each element of a list

flat_pieces : {A : Type 0} (bytes : A → List ℕ) (l : List A) → flatten (map bytes l) ≡ flat_map bytes l
unfolding flatten flat_map
flat_pieces bytes [] = refl
flat_pieces bytes (x ∷ l) = ap (λ (y : List ℕ). bytes x ++ y) (flat_pieces bytes l)

-- of n elements, those from the i-th on are left
pub record Each {A : Type 0} (bytes : A → List ℕ) (n : ℕ) (xs : List A) (text : List ℕ) (at i : ℕ) (last : List ℕ) (r : ℕ) : Type 0 where
  pub within : i ≤ n
  pub all : length xs ≡ n
  pub going : Going text at (flat_map bytes xs) (map bytes (drop i xs)) last r

pub each_begins : {A : Type 0} (bytes : A → List ℕ) (n : ℕ) (xs : List A) (text : List ℕ) (at : ℕ) → length xs ≡ n
    → at + length (flat_map bytes xs) ≤ length text → Each bytes n xs text at 0 text at
each_begins bytes n xs text at e h =
    record {
      within = omega arith;
      all = e;
      going =
          subst (λ (x : List ℕ). Going text at x (map bytes xs) text at) (flat_pieces bytes xs)
          (begin text at (map bytes xs) (subst (λ (x : List ℕ). at + length x ≤ length text) (sym (flat_pieces bytes xs)) h));
    }

module _ {A : Type 0} {bytes : A → List ℕ} {n : ℕ} {xs : List A} {text : List ℕ} {at i : ℕ} {last : List ℕ} {r : ℕ}
    (e : Each bytes n xs text at i last r) where
  there : (none : A) → i < n → Going text at (flat_map bytes xs) (bytes (get_or xs i none) ∷ map bytes (drop (i + 1) xs)) last r
  there none h =
      subst (λ (l : List A). Going text at (flat_map bytes xs) (map bytes l) last r)
      (drop-cons xs i none (omega (arith, e.all)) ∙ ap (λ (k : ℕ). get_or xs i none ∷ drop k xs) (sym (add-one i))) e.going

  -- the next element fits
  pub each_fits : (none : A) → i < n → r + length (bytes (get_or xs i none)) ≤ length last
  each_fits none h = fits_next (there none h)

  pub each_next : (none : A) → i < n → {v : List ℕ} {q : ℕ} → Put last r (bytes (get_or xs i none)) v q → Each bytes n xs text at (i + 1) v q
  each_next none h p = record { within = omega arith; all = e.all; going = next (there none h) p }

  pub each_ended : n ≤ i → Put text at (flat_map bytes xs) last r
  each_ended h =
      ended (subst (λ (l : List A). Going text at (flat_map bytes xs) (map bytes l) last r) (drop_of_length-le xs {i = i} (omega (arith, e.all))) e.going)

-- rows laid out in one list
pub rows_joined : {A : Type 0} (row : A → List ℕ) (l : List A) → joined (λ (x : List ℕ). x) (map row l) ≡ flat_map row l
unfolding flat_map
rows_joined row [] = refl
rows_joined row (x ∷ l) = ap (λ (y : List ℕ). row x ++ y) (rows_joined row l)

-- elements of w bytes each
module _ {A : Type 0} (bytes : A → List ℕ) (w : ℕ) (wide : (x : A) → length (bytes x) ≡ w) where
  pub flat_length : (l : List A) → length (flat_map bytes l) ≡ w * length l
  unfolding flat_map
  flat_length [] = sym (mul-zero w)
  flat_length (x ∷ l) =
      length-append (bytes x) (flat_map bytes l)
      ∙ ap (λ (k : ℕ). k + length (flat_map bytes l)) (wide x)
      ∙ ap (λ (k : ℕ). w + k) (flat_length l)
      ∙ add_comm w (w * length l)
      ∙ sym (mul-suc w (length l))

-- an array of structs in a struct has its length
pub length_mapped : (A B : Type 0) (f : A → B) (l : List A) (n : ℕ) → length (map f l) ≡ n → length l ≡ n
length_mapped A B f l n e = sym (length-map l f) ∙ e
