-- Words, names and members as pieces of the report, and a piece for each number below k.
-- Assumes nothing.
use Prim.Native.Nat.{ℕ, zero, suc, ◌+◌, ◌-◌, ◌≤◌, ◌<◌}
use mathlib.Core.List.{List, [], ◌∷◌, ◌++◌, flatten, append_assoc, append-nil}
use mathlib.Core.Path.{◌≡◌, refl, sym, ap, subst, ◌∙◌}
use native.Mathlib.Omega.{arith}
use native.Mathlib.Nat.{add-zero}
use lib.ListN.{length, length-append}
use borrow.Author.Tests.{lt-ltb, le-ltb}
use lib.Dec.{ltb}
use native.Mathlib.Numerals.{add-one}
use native.Mathlib.Decide.{dec_lt}
use Rattle.text.specs.declared.Page.{Page}
use Rattle.text.specs.Page.{Written}
use Rattle.text.proofs.PageLaws.{wrote_none, and_then, in_words}
use Rattle.report.specs.Report.{WrittenIfRoom, up_to}

-- ---- pieces put one after another on a page

-- of the text x, the pieces ps are left, and there is room for them
pub record Going (p : Page) (x : List ℕ) (ps : List (List ℕ)) (q : Page) : Type 0 where
  pub done : List ℕ
  pub written : Written p done q
  pub room : q.at + length (flatten ps) ≤ length q.text.now
  pub is : done ++ flatten ps ≡ x

pub begin : (p : Page) (ps : List (List ℕ)) → p.at + length (flatten ps) ≤ length p.text.now → Going p (flatten ps) ps p
begin p ps h = record { done = []; written = wrote_none p (omega arith); room = h; is = refl }

module _ {p q : Page} {x b : List ℕ} {ps : List (List ℕ)} (g : Going p x (b ∷ ps) q) where
  pub next : {r : Page} → WrittenIfRoom q b r → Going p x ps r
  unfolding flatten
  next {r} f =
      let size = length-append b (flatten ps) in
      let w : Written q b r = f (omega (arith, g.room, size)) in
      record {
        done = g.done ++ b;
        written = and_then g.written w;
        room = omega (arith, g.room, size, w.put.to, w.size);
        is = append_assoc g.done b (flatten ps) ∙ g.is;
      }

pub ended : {p q : Page} {x : List ℕ} → Going p x [] q → Written p x q
unfolding flatten
ended g = in_words g.written (sym (append-nil g.done) ∙ g.is)

-- ---- a piece for each number below k

module _ (f : ℕ → List ℕ → List ℕ) where
  more : (q : ℕ) → up_to f (q + 1) ≡ up_to f q ++ f q (up_to f q)
  unfolding up_to
  more q = ap (up_to f) (add-one q)

  -- the text grows
  grows : (q j : ℕ) → length (up_to f q) ≤ length (up_to f (q + j))
  grows q zero = omega (arith, ap (λ (k : ℕ). length (up_to f k)) (add-zero q))
  grows q (suc j) =
      omega (arith, grows q j, ap (λ (k : ℕ). length (up_to f k)) (same q j), ap length (more (q + j)), length-append (up_to f (q + j)) (f (q + j) (up_to f (q + j))))
    where
      same : (q j : ℕ) → q + suc j ≡ q + j + 1
      same q j = omega arith

  -- the pieces below i are put, and all below k fit
  pub record Along (p : Page) (k : ℕ) (q : Page) (i : ℕ) : Type 0 where
    pub within : i ≤ k
    pub written : Written p (up_to f i) q
    pub room : p.at + length (up_to f k) ≤ length p.text.now

  pub along_begins : (p : Page) (k : ℕ) → p.at + length (up_to f k) ≤ length p.text.now → Along p k p 0
  unfolding up_to
  along_begins p k h = record { within = omega arith; written = wrote_none p (omega arith); room = h }

  module _ {p q : Page} {k i : ℕ} (a : Along p k q i) where
    pub along_on : i < k → {part : List ℕ} {r : Page} → part ≡ f i (up_to f i) → WrittenIfRoom q part r → Along p k r (i + 1)
    along_on h {part} {r} e g =
        let rest : i + 1 + (k - (i + 1)) ≡ k = omega arith in
        let w : Written q part r =
        g (omega (arith, a.room, a.written.put.to, a.written.size, ap length e, grows (i + 1) (k - (i + 1)), ap (λ (j : ℕ). length (up_to f j)) rest, ap length (more i), length-append (up_to f i) (f i (up_to f i)))) in
        record {
          within = omega arith;
          written = in_words (and_then a.written (in_words w e)) (sym (more i));
          room = a.room;
        }

    pub along_ends : k ≤ i → Written p (up_to f k) q
    along_ends h = let e : i ≡ k = omega (arith, a.within) in subst (λ (j : ℕ). Written p (up_to f j) q) e a.written

    -- something stands before the place exactly where the text before it is not empty
    pub along_later : ltb p.at q.at ≡ ltb 0 (length (up_to f i))
    along_later = go (dec_lt 0 (length (up_to f i)))
      where
        go : Dec (0 < length (up_to f i)) → ltb p.at q.at ≡ ltb 0 (length (up_to f i))
        go (yes h) = lt-ltb p.at q.at (omega (arith, a.written.put.to)) ∙ sym (lt-ltb 0 (length (up_to f i)) h)
        go (no h) = le-ltb p.at q.at (omega (arith, a.written.put.to)) ∙ sym (le-ltb 0 (length (up_to f i)) (omega arith))
