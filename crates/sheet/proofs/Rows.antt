-- The rows of twelve bytes that transitions are read from: each is read where it stands.
-- Assumes nothing.
use Prim.Native.Nat.{ℕ, zero, suc, ◌+◌, ◌*◌, ◌/◌, ◌≤◌, ◌<◌, min}
use mathlib.Core.Bool.{cond}
use mathlib.Core.List.{List, []}
use mathlib.Core.Path.{◌≡◌, refl, sym, ap, subst, ◌∙◌}
use native.Mathlib.Decide.{ℕ_discrete, dec_lt}
use native.Mathlib.Omega.{arith}
use borrow.Author.Tests.{lt-ltb, le-ltb}
use lib.Dec.{ltb}
use lib.ListN.{length, get_or, set, take, drop, replicate, length-drop, length-set}
use lib.Seq.{get_or-drop, get_or-set_same, get_or-set_other, ext_get_or, drop-drop, take_all}
use Rattle.std.specs.Simd.{first_chunks}
use Rattle.std.proofs.Math.Nat.{min-le_left, le-min}
use Rattle.std.proofs.lemmas.List.{get_or-replicate, get_or-take}
use Rattle.sheet.specs.Index.{table}
use Rattle.sheet.specs.Record.{byte, four_at, transition_from, transition_in, no_transition}
use Rattle.sheet.specs.declared.Transition.{Transition}
use Rattle.sheet.proofs.IndexLaws.{length_table, table_at, table_same}

-- ---- what is read of the same bytes is the same

four_same : (l m : List ℕ) (a b : ℕ) → ((i : ℕ) → i < 4 → byte l (a + i) ≡ byte m (b + i)) → four_at l a ≡ four_at m b
unfolding four_at
four_same l m a b e =
    let first : byte l a ≡ byte m b = ap (byte l) (omega arith) ∙ e 0 (omega arith) ∙ ap (byte m) (omega arith) in
    omega (arith, first, e 1 (omega arith), e 2 (omega arith), e 3 (omega arith))

transition_same : (l m : List ℕ) (a b : ℕ) → ((i : ℕ) → i < 12 → byte l (a + i) ≡ byte m (b + i)) → transition_from l a ≡ transition_from m b
unfolding transition_from
transition_same l m a b e =
    let site : byte l a ≡ byte m b = ap (byte l) (omega arith) ∙ e 0 (omega arith) ∙ ap (byte m) (omega arith) in
    let from = e 1 (omega arith) in
    let to = e 2 (omega arith) in
    let vote = e 3 (omega arith) in
    let reads = four_same l m (a + 4) (b + 4) (λ i h. ap (byte l) (omega arith) ∙ e (4 + i) (omega arith) ∙ ap (byte m) (omega arith)) in
    let writes = four_same l m (a + 8) (b + 8) (λ i h. ap (byte l) (omega arith) ∙ e (8 + i) (omega arith) ∙ ap (byte m) (omega arith)) in
    λ j. record { site = site j; from = from j; to = to j; vote = vote j; reads = reads j; writes = writes j }

-- ---- rows

rows_long : (n : ℕ) (l : List ℕ) → length (first_chunks 12 n l) ≡ n
rows_long zero l = refl
rows_long (suc n) l = ap suc (rows_long n (drop 12 l))

row_at : (n k : ℕ) (l : List ℕ) → k < n → get_or (first_chunks 12 n l) k [] ≡ take 12 (drop (12 * k) l)
row_at zero k l h = absurd (omega arith)
row_at (suc n) zero l h = refl
row_at (suc n) (suc k) l h =
    row_at n k (drop 12 l) (omega arith) ∙ ap (take 12) (drop-drop (12 * k) 12 l) ∙ ap (λ (i : ℕ). take 12 (drop i l)) (omega arith)

-- what is read of the rows is what is read of the bytes where they stand
pub rows_read : (l : List ℕ) (n : ℕ) (rows : List (List ℕ)) → rows ≡ first_chunks 12 n l
    → table (λ (k : ℕ). cond (ltb k (length rows)) (transition_from (get_or rows k []) 0) no_transition) 64 ≡ table (transition_in l 0 n) 64
unfolding transition_in
rows_read l n rows is =
    table_same _ _ 64 (λ k b. elim (dec_lt k n) as (λ v. cond (ltb k (length rows)) (transition_from (get_or rows k []) 0) no_transition ≡ cond (ltb k n) (transition_from l (0 + 12 * k)) no_transition) [
      | yes h ↦ simp (size, lt-ltb k n h) (ap (λ (x : List (List ℕ)). transition_from (get_or x k []) 0) is ∙ ap (λ (x : List ℕ). transition_from x 0) (row_at n k l h) ∙ stands k)
      | no h ↦ simp (size, le-ltb k n (omega arith))
    ])
  where
    size : length rows ≡ n
    size = ap length is ∙ rows_long n l

    stands : (k : ℕ) → transition_from (take 12 (drop (12 * k) l)) 0 ≡ transition_from l (0 + 12 * k)
    stands k =
        transition_same (take 12 (drop (12 * k) l)) l 0 (0 + 12 * k)
        (λ i h. ap (byte (take 12 (drop (12 * k) l))) (omega arith) ∙ get_or-take 12 (drop (12 * k) l) i 0 h ∙ get_or-drop (12 * k) l i 0 ∙ ap (byte l) (omega arith))

-- what is read of the bytes from a place on is what is read of all from there
pub rest_read : (l : List ℕ) (start n moves : ℕ) → start + n ≡ length l → n / 12 ≡ moves
    → table (transition_in (take n (drop start l)) 0 (length (take n (drop start l)) / 12)) 64 ≡ table (transition_in l start moves) 64
unfolding transition_in
rest_read l start n moves e few =
    let all : take n (drop start l) ≡ drop start l = take_all n (drop start l) (omega (arith, length-drop start l)) in
    let count : length (drop start l) / 12 ≡ moves = omega (arith, length-drop start l) in
    ap (λ (x : List ℕ). table (transition_in x 0 (length x / 12)) 64) all
    ∙ ap (λ (m : ℕ). table (transition_in (drop start l) 0 m) 64) count
    ∙ table_same _ _ 64 (λ k b.
    ap (λ (t : Transition). cond (ltb k moves) t no_transition)
    (transition_same (drop start l) l (0 + 12 * k) (start + 12 * k) (λ i h. get_or-drop start l (0 + 12 * k + i) 0 ∙ ap (byte l) (omega arith))))

-- ---- rows read one after another

-- of so many rows the transitions are read; none stand at the other places
pub record RowsRead (rows : List (List ℕ)) (k : ℕ) (l : List Transition) : Type 0 where
  pub long : length l ≡ 64
  pub at : (j : ℕ) → j < k → get_or l j no_transition ≡ transition_from (get_or rows j []) 0
  pub rest : (j : ℕ) → k ≤ j → j < 64 → get_or l j no_transition ≡ no_transition

pub no_row_read : (rows : List (List ℕ)) {none : Transition} → none ≡ no_transition → RowsRead rows 0 (replicate 64 none)
no_row_read rows is =
    subst (λ (t : Transition). RowsRead rows 0 (replicate 64 t)) (sym is)
    (record { long = refl; at = λ j h. absurd (omega arith); rest = λ j h b. get_or-replicate 64 j no_transition no_transition b })

module _ {rows : List (List ℕ)} {k : ℕ} {l : List Transition} (r : RowsRead rows k l) where
  pub row_read : {t : Transition} → k < 64 → t ≡ transition_from (get_or rows k []) 0 → RowsRead rows (k + 1) (set l k t)
  row_read {t} h is =
      record {
        long = length-set l k t ∙ r.long;
        at =
            λ j b. elim (ℕ_discrete j k) as (λ v. get_or (set l k t) j no_transition ≡ transition_from (get_or rows j []) 0) [
              | yes e ↦
                  ap (λ (i : ℕ). get_or (set l k t) i no_transition) e
                  ∙ get_or-set_same l k t no_transition (omega (arith, r.long))
                  ∙ is
                  ∙ ap (λ (i : ℕ). transition_from (get_or rows i []) 0) (sym e)
              | no e ↦ get_or-set_other l k j t no_transition e ∙ r.at j (omega arith)
            ];
        rest = λ j b s. get_or-set_other l k j t no_transition (λ e. absurd (omega arith)) ∙ r.rest j (omega arith) s;
      }

  -- no row is left, or no place
  pub all_rows_read : k ≡ min (length rows) 64 → l ≡ table (λ (j : ℕ). cond (ltb j (length rows)) (transition_from (get_or rows j []) 0) no_transition) 64
  all_rows_read e =
      let f = λ (j : ℕ). cond (ltb j (length rows)) (transition_from (get_or rows j []) 0) no_transition in
      let few : (j : ℕ) → j < length l → j < length rows → j + 1 ≤ min (length rows) 64 = λ j b h. le-min (omega arith) (omega (arith, r.long)) in
      ext_get_or no_transition l (table f 64) (r.long ∙ sym (length_table f 64))
      (λ j b.
      elim (dec_lt j (length rows)) as (λ v. get_or l j no_transition ≡ get_or (table f 64) j no_transition) [
        | yes h ↦ r.at j (omega (arith, e, few j b h)) ∙ sym (simp (lt-ltb j (length rows) h)) ∙ sym (table_at f 64 j no_transition (omega (arith, r.long)))
        | no h ↦ r.rest j (omega (arith, e, min-le_left (length rows) 64)) (omega (arith, r.long)) ∙ sym (simp (le-ltb j (length rows) (omega arith))) ∙ sym (table_at f 64 j no_transition (omega (arith, r.long)))
      ])
