-- Bytes, messages and transitions at their places: each is read back as it was put, and put again as it was read.
-- Assumes nothing.
use Prim.Native.Nat.{ℕ, suc, ◌+◌, ◌*◌, ◌/◌, ◌%◌, ◌≤◌, ◌<◌}
use mathlib.Core.List.{List, [], ◌∷◌, ◌++◌, flat_map}
use mathlib.Core.Path.{◌≡◌, refl, sym, ap, ap₂, subst, ◌∙◌}
use native.Mathlib.Nat.{add-zero}
use native.Mathlib.Omega.{arith}
use lib.ListN.{length, get_or}
use Rattle.text.proofs.TextLaws.{one_by_one}
use Rattle.sheet.specs.Index.{table}
use Rattle.sheet.specs.Record.{byte, four_at, transition_from, no_transition}
use Rattle.sheet.specs.Write.{four_bytes, transition_bytes}
use Rattle.sheet.specs.declared.Transition.{Transition}
use Rattle.sheet.proofs.IndexLaws.{table_same}
use Rattle.sheet.proofs.Pieces.{At, at_as, at_byte, at_first, at_next, cut_at, cut_then, read_back, all_back, written_again}
use Rattle.sheet.proofs.WriteLaws.{transition_length}

-- ---- read back

module _ {l : List ℕ} where
  pub byte_read : (x at : ℕ) → At l at (x ∷ []) → byte l at ≡ x
  byte_read x at p = ap (byte l) (sym (add-zero at)) ∙ at_byte p 0 (omega arith)

  pub four_read : (x at : ℕ) → At l at (four_bytes x) → four_at l at ≡ x
  unfolding four_at four_bytes
  four_read x at p =
      let a : byte l at ≡ x / 16777216 = ap (byte l) (sym (add-zero at)) ∙ at_byte p 0 (omega arith) in
      let b : byte l (at + 1) ≡ x / 65536 % 256 = at_byte p 1 (omega arith) in
      let c : byte l (at + 2) ≡ x / 256 % 256 = at_byte p 2 (omega arith) in
      let d : byte l (at + 3) ≡ x % 256 = at_byte p 3 (omega arith) in
      omega (arith, a, b, c, d)

  -- what a transition writes comes last
  last_read : (t : Transition) (at : ℕ) → At l (at + 4) (four_bytes t.reads ++ four_bytes t.writes) → four_at l (at + 8) ≡ t.writes
  unfolding four_bytes
  last_read t at sets =
      four_read t.writes (at + 8)
      (at_as (let e : at + 4 + 4 ≡ at + 8 = omega arith in e) (at_next (four_bytes t.reads) (four_bytes t.writes) sets))

  pub transition_read : (t : Transition) (at : ℕ) → At l at (transition_bytes t) → transition_from l at ≡ t
  unfolding transition_bytes transition_from
  transition_read t at p =
      let ends = t.site ∷ t.from ∷ t.to ∷ t.vote ∷ [] in
      let fields = at_first ends (four_bytes t.reads ++ four_bytes t.writes) p in
      let sets = at_next ends (four_bytes t.reads ++ four_bytes t.writes) p in
      let site : byte l at ≡ t.site = ap (byte l) (sym (add-zero at)) ∙ at_byte fields 0 (omega arith) in
      let from : byte l (at + 1) ≡ t.from = at_byte fields 1 (omega arith) in
      let to : byte l (at + 2) ≡ t.to = at_byte fields 2 (omega arith) in
      let vote : byte l (at + 3) ≡ t.vote = at_byte fields 3 (omega arith) in
      let reads = four_read t.reads (at + 4) (at_first (four_bytes t.reads) (four_bytes t.writes) sets) in
      let writes = last_read t at sets in
      λ i. record { site = site i; from = from i; to = to i; vote = vote i; reads = reads i; writes = writes i }

-- ---- put again

-- four bytes that are there
pub cut_four : (l : List ℕ) (at : ℕ) → at + 4 ≤ length l → cut_at l at 4 ≡ byte l at ∷ byte l (at + 1) ∷ byte l (at + 2) ∷ byte l (at + 3) ∷ []
cut_four l at h =
    let b : suc at ≡ at + 1 = omega arith in
    let c : suc (suc at) ≡ at + 2 = omega arith in
    let d : suc (suc (suc at)) ≡ at + 3 = omega arith in
    one_by_one 4 at l h ∙ (λ i. byte l at ∷ byte l (b i) ∷ byte l (c i) ∷ byte l (d i) ∷ [])

module _ (l : List ℕ) (small : (k : ℕ) → byte l k < 256) where
  pub four_again : (at : ℕ) → at + 4 ≤ length l → four_bytes (four_at l at) ≡ cut_at l at 4
  unfolding four_at four_bytes
  four_again at h =
      let x = ((byte l at * 256 + byte l (at + 1)) * 256 + byte l (at + 2)) * 256 + byte l (at + 3) in
      let a : x / 16777216 ≡ byte l at = omega (arith, small at, small (at + 1), small (at + 2), small (at + 3)) in
      let b : x / 65536 % 256 ≡ byte l (at + 1) = omega (arith, small at, small (at + 1), small (at + 2), small (at + 3)) in
      let c : x / 256 % 256 ≡ byte l (at + 2) = omega (arith, small at, small (at + 1), small (at + 2), small (at + 3)) in
      let d : x % 256 ≡ byte l (at + 3) = omega (arith, small at, small (at + 1), small (at + 2), small (at + 3)) in
      (λ i. a i ∷ b i ∷ c i ∷ d i ∷ []) ∙ sym (cut_four l at h)

  transition_again : (at : ℕ) → at + 12 ≤ length l → transition_bytes (transition_from l at) ≡ cut_at l at 12
  unfolding transition_bytes transition_from
  transition_again at h =
      ap₂ (λ (x y : List ℕ). x ++ y) (sym (cut_four l at (omega arith)))
      (ap₂ (λ (x y : List ℕ). x ++ y) (four_again (at + 4) (omega arith)) (four_again (at + 8) (omega arith) ∙ ap (λ (k : ℕ). cut_at l k 4) (let e : at + 8 ≡ at + 4 + 4 = omega arith in e))
      ∙ cut_then l (at + 4) 4 4)
      ∙ cut_then l at 4 8

  pub transitions_again : (at n : ℕ) → at + 12 * n ≤ length l
      → flat_map transition_bytes (table (λ (k : ℕ). transition_from l (at + 12 * k)) n) ≡ cut_at l at (12 * n)
  transitions_again at n h = written_again no_transition 12 transition_bytes transition_from transition_length l at transition_again n h

-- ---- the same of single bytes

-- a byte by itself
abbrev single : ℕ → List ℕ
single x = x ∷ []

singles : (l : List ℕ) → flat_map single l ≡ l
unfolding flat_map
singles [] = refl
singles (x ∷ l) = ap (λ (y : List ℕ). x ∷ y) (singles l)

pub bytes_read : {l : List ℕ} {at : ℕ} (part : List ℕ) → At l at part → (k : ℕ) → k < length part → byte l (at + k) ≡ get_or part k 0
bytes_read {l} {at} part p k h =
    ap (byte l) (let e : at + k ≡ at + 1 * k = omega arith in e)
    ∙ read_back 0 1 single byte (λ x. refl) {l = l} {at = at} byte_read part (subst (At l at) (sym (singles part)) p) k h

pub bytes_back : {l : List ℕ} {at : ℕ} (part : List ℕ) (n : ℕ) → length part ≡ n → At l at part → table (λ (k : ℕ). byte l (at + k)) n ≡ part
bytes_back {l} {at} part n e p =
    table_same (λ (k : ℕ). byte l (at + k)) (λ (k : ℕ). byte l (at + 1 * k)) n (λ k b. ap (byte l) (let s : at + k ≡ at + 1 * k = omega arith in s))
    ∙ all_back 0 1 single byte (λ x. refl) {l = l} {at = at} byte_read part n e (subst (At l at) (sym (singles part)) p)

pub bytes_again : (l : List ℕ) (at n : ℕ) → at + n ≤ length l → table (λ (k : ℕ). byte l (at + k)) n ≡ cut_at l at n
bytes_again l at n h =
    table_same (λ (k : ℕ). byte l (at + k)) (λ (k : ℕ). byte l (at + 1 * k)) n (λ k b. ap (byte l) (let e : at + k ≡ at + 1 * k = omega arith in e))
    ∙ sym (singles (table (λ (k : ℕ). byte l (at + 1 * k)) n))
    ∙ written_again 0 1 single byte (λ x. refl) l at (λ to b. sym (one_by_one 1 to l b)) n (omega arith)
    ∙ ap (cut_at l at) (let e : 1 * n ≡ n = omega arith in e)
