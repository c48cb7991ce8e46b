-- The grounds of a sheet are those of the list of its transitions.
-- Assumes nothing.
use Prim.Native.Nat.{ℕ, ◌≤◌}
use mathlib.Core.Bool.{Bool, cond, ◌||◌}
use mathlib.Core.Path.{◌≡◌, ap₂, ◌∙◌}
use lib.Dec.{eqb, ltb}
use lib.ListN.{length, take}
use Rattle.std.specs.List.{list_any}
use Rattle.std.specs.Prelude.{Err}
use Rattle.refusal.specs.declared.Refusal.TheVariants.{SheetRange, ReadsNothing, ReadTwice, NotFinal, Cycle}
use Rattle.refusal.specs.Refusals.{clear}
use Rattle.sheet.proofs.IndexLaws.{any_take, any_of, some_same}
use Rattle.sheet.specs.Record.{no_transition, move_of}
use Rattle.sheet.specs.Grounds.{mismarked, misplaced, unranged, some_move, reads_nothing, shares, read_elsewhere, contended, undoes, parts_ground}
use Rattle.sheet.specs.Faults.{walks_round}
use Rattle.sheet.proofs.Arrows.{cyclic_is}
use Rattle.sheet.specs.declared.Transition.{Transition}
use Rattle.sheet.specs.declared.Sheet.{Sheet}

module _ (s : Sheet) (few : s.moves ≤ length s.transitions) where
  -- some transition has a fault
  pub some_moves : (fault : Sheet → Transition → Bool) → list_any (fault s) (take s.moves s.transitions) ≡ some_move fault s
  unfolding some_move
  some_moves fault = any_take (fault s) no_transition s.transitions s.moves few

  pub unranged_is : length s.marks ≡ 32 → (list_any (λ (mark : ℕ). ltb 2 mark) s.marks || list_any (misplaced s) (take s.moves s.transitions)) ≡ unranged s
  unfolding unranged mismarked
  unranged_is e = ap₂ (λ (a b : Bool). a || b) (any_of (λ (mark : ℕ). ltb 2 mark) 0 s.marks 32 e) (some_moves misplaced)

  pub contended_is : list_any (λ (t : Transition). list_any (shares t) (take s.moves s.transitions)) (take s.moves s.transitions) ≡ contended s
  unfolding some_move read_elsewhere
  contended_is =
      any_take _ no_transition s.transitions s.moves few
      ∙ some_same _ _ s.moves (λ k h. any_take (shares (move_of s k)) no_transition s.transitions s.moves few)

  -- the first of grounds 25 to 29, as the reader tests the list for them
  pub grounds_are : (long : length s.marks ≡ 32) → parts_ground s
      ≡ cond (list_any (λ (mark : ℕ). ltb 2 mark) s.marks || list_any (misplaced s) (take s.moves s.transitions)) (Err SheetRange)
      (cond (list_any (λ (t : Transition). eqb t.reads 0) (take s.moves s.transitions)) (Err ReadsNothing)
      (cond (list_any (λ (t : Transition). list_any (shares t) (take s.moves s.transitions)) (take s.moves s.transitions)) (Err ReadTwice)
      (cond (list_any (undoes s) (take s.moves s.transitions)) (Err NotFinal) (cond (walks_round (take s.moves s.transitions)) (Err Cycle) clear))))
  unfolding parts_ground reads_nothing
  grounds_are long = simp (← unranged_is long, ← some_moves reads_nothing, ← contended_is, ← some_moves undoes, ← cyclic_is s few)
