-- What the first ground says of the grounds before it.
-- Assumes nothing.
use Prim.Native.Nat.{ℕ, ◌≤◌}
use mathlib.Core.Bool.{Bool, true, false, cond}
use mathlib.Core.List.{List}
use mathlib.Core.Logic.{◌≢◌}
use mathlib.Core.Path.{◌≡◌, refl, sym, ap, ◌∙◌}
use native.Mathlib.Omega.{arith}
use Rattle.std.specs.Prelude.{Ok, Err}
use Rattle.std.specs.Result.{is_ok}
use Rattle.refusal.specs.declared.Refusal.{Refusal}
use Rattle.refusal.specs.declared.Refusal.TheVariants.{SheetSize, SheetVersion, SheetCounts, SheetLength, SheetRange, ReadsNothing, ReadTwice, NotFinal, Cycle}
use Rattle.refusal.specs.Refusals.{Test, clear, refusal_number, answer_number}
use Rattle.sheet.specs.Record.{parts_of, no_sheet}
use Rattle.sheet.specs.Grounds.{misframed, misversioned, miscounted, mismeasured, unranged, unprompted, contended, undone, frame_ground, parts_ground, sheet_ground, sheet_of}
use Rattle.sheet.specs.Paths.{cyclic}
use Rattle.sheet.specs.declared.Sheet.{Sheet}

-- no ground from 21 to 24 holds
pub record Framed (l : List ℕ) : Type 0 where
  pub framed : misframed l ≡ false
  pub versioned : misversioned l ≡ false
  pub counted : miscounted l ≡ false
  pub measured : mismeasured l ≡ false

-- no ground from 25 to 28 holds
pub record Ordered (s : Sheet) : Type 0 where
  pub ranged : unranged s ≡ false
  pub prompted : unprompted s ≡ false
  pub apart : contended s ≡ false
  pub kept : undone s ≡ false

-- no ground from 21 to 28 holds
pub record Passes (l : List ℕ) : Type 0 where
  pub frame : Framed l
  pub parts : Ordered (parts_of l)

-- a ground with another number than the first one's does not hold
pub record Past (b : Bool) (x g : Test) : Type 0 where
  pub absent : b ≡ false
  pub rest : x ≡ g

pub past : (b : Bool) (why : Refusal) (x g : Test) → refusal_number why ≢ answer_number g → cond b (Err why) x ≡ g → Past b x g
past true why x g d e = absurd (d (ap answer_number e))
past false why x g d e = record { absent = refl; rest = e }

module _ (g : Test) (other : (n : ℕ) → 21 ≤ n → n ≤ 28 → n ≢ answer_number g) where
  -- the number of none from 21 to 24
  frame_past : (l : List ℕ) → frame_ground l ≡ g → (Framed l) × (clear ≡ g)
  unfolding frame_ground
  frame_past l e =
      let a = past (misframed l) SheetSize _ g (other 21 (omega arith) (omega arith)) e in
      let b = past (misversioned l) SheetVersion _ g (other 22 (omega arith) (omega arith)) a.rest in
      let c = past (miscounted l) SheetCounts _ g (other 23 (omega arith) (omega arith)) b.rest in
      let d = past (mismeasured l) SheetLength clear g (other 24 (omega arith) (omega arith)) c.rest in
      (record { framed = a.absent; versioned = b.absent; counted = c.absent; measured = d.absent }, d.rest)

  -- the number of none from 25 to 28
  parts_past : (s : Sheet) → parts_ground s ≡ g → Ordered s
  unfolding parts_ground
  parts_past s e =
      let a = past (unranged s) SheetRange _ g (other 25 (omega arith) (omega arith)) e in
      let b = past (unprompted s) ReadsNothing _ g (other 26 (omega arith) (omega arith)) a.rest in
      let c = past (contended s) ReadTwice _ g (other 27 (omega arith) (omega arith)) b.rest in
      let d = past (undone s) NotFinal _ g (other 28 (omega arith) (omega arith)) c.rest in
      record { ranged = a.absent; prompted = b.absent; apart = c.absent; kept = d.absent }

-- where the answer is clear, no ground holds
pub framed : (l : List ℕ) → frame_ground l ≡ clear → Framed l
framed l e = (frame_past clear (λ n a b. omega arith) l e).0

pub frame_none : {l : List ℕ} → Framed l → frame_ground l ≡ clear
unfolding frame_ground
frame_none {l} f = simp (f.framed, f.versioned, f.counted, f.measured)

-- where no ground before it holds, a cycle decides
pub cycle_decides : {l : List ℕ} → Passes l → sheet_ground l ≡ cond (cyclic (parts_of l)) (Err Cycle) clear
unfolding sheet_ground parts_ground
cycle_decides {l} p =
    simp (frame_none p.frame, p.parts.ranged, p.parts.prompted, p.parts.apart, p.parts.kept)

-- a ground of the frame is the first of all
pub frame_first : (l : List ℕ) {why : Refusal} → frame_ground l ≡ Err why → sheet_ground l ≡ Err why
unfolding sheet_ground
frame_first l {why} e = rw e refl

-- without one the parts decide
pub parts_next : (l : List ℕ) → frame_ground l ≡ clear → sheet_ground l ≡ parts_ground (parts_of l)
unfolding sheet_ground
parts_next l e = rw e refl

-- a first ground that is none from 21 to 28 has none of them before it
pub passes : (g : Test) → ((n : ℕ) → 21 ≤ n → n ≤ 28 → n ≢ answer_number g) → (l : List ℕ) → sheet_ground l ≡ g → Passes l
passes g other l e = go (frame_ground l) refl
  where
    go : (t : Test) → frame_ground l ≡ t → Passes l
    go (Ok u) z =
        record {
          frame = framed l z;
          parts = parts_past g other (parts_of l) (sym (parts_next l z) ∙ e);
        }
    go (Err why) z =
        let none : clear ≡ Err why = sym (frame_none (frame_past g other l (z ∙ sym (frame_first l z) ∙ e)).0) ∙ z in
        absurd (cc)

-- a record without a ground of the frame has its parts, another none
pub sheet_is : (l : List ℕ) → frame_ground l ≡ clear → sheet_of l ≡ parts_of l
unfolding sheet_of
sheet_is l e = rw e refl

pub sheet_none : (l : List ℕ) → is_ok (frame_ground l) ≡ false → sheet_of l ≡ no_sheet
unfolding sheet_of
sheet_none l e = rw e refl

-- a test that is not refused is clear
pub clear_is : (t : Test) → is_ok t ≡ true → t ≡ clear
clear_is (Ok u) e = refl
clear_is (Err why) e = absurd (cc)

-- what the frame refuses is refused
pub frame_refuses : (l : List ℕ) → is_ok (frame_ground l) ≡ false → sheet_ground l ≡ clear → ⊥
unfolding sheet_ground
frame_refuses l e z = go (frame_ground l) refl
  where
    go : (t : Test) → frame_ground l ≡ t → ⊥
    go (Ok u) f = let k : false ≡ true = sym e ∙ ap is_ok f in absurd (cc)
    go (Err why) f = let k : clear ≡ Err why = sym z ∙ frame_first l f in absurd (cc)
