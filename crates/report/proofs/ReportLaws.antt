-- Any two reports allowed for one input are equal: words, text and length.
-- Assumes nothing.
use Prim.Native.Nat.{ℕ, ◌≤◌}
use mathlib.Core.Bool.{Bool, true, false, cond}
use mathlib.Core.Logic.{◌≢◌}
use mathlib.Core.List.{List, ◌++◌}
use mathlib.Core.Path.{◌≡◌, sym, ap, ◌∙◌}
use native.Mathlib.Omega.{arith}
use lib.ListN.{length, drop, length-append}
use Rattle.sheet.specs.Record.{parts_of}
use Rattle.sheet.specs.Grounds.{sheet_ground, sheet_of}
use Rattle.sheet.specs.Paths.{cyclic}
use Rattle.sheet.proofs.GroundLaws.{passes, cycle_decides}
use Rattle.std.proofs.Common.{Result, Err}
use Rattle.refusal.specs.Refusals.{clear}
use Rattle.refusal.specs.declared.Refusal.{Refusal}
use Rattle.refusal.specs.declared.Refusal.TheVariants.{FewWords, Cycle}
use Rattle.judge.specs.declared.Verdict.{Verdict}
use Rattle.judge.specs.Outcome.{Outcome}
use Rattle.judge.specs.Outcome.Outcome.{short, unread, judged}
use Rattle.judge.specs.Outcome.Judged.{crowded, clashing, fair}
use Rattle.judge.proofs.OutcomeLaws.{one_outcome}
use Rattle.report.specs.Report.{report_text, longest, Reported, ToldWhole}
use Rattle.report.specs.Report.Reported.{cramped, told}

pub record Same (w w' t t' : List ℕ) (r r' : ℕ) : Type 0 where
  pub words : w ≡ w'
  pub texts : t ≡ t'
  pub lengths : r ≡ r'

pub one_report : (b w₀ w w' t₀ t t' : List ℕ) (r r' : ℕ) → Reported b w₀ w t₀ t r → Reported b w₀ w' t₀ t' r' → Same w w' t t' r r'
one_report b w₀ w w' t₀ t t' r r' (cramped h e f g) (cramped i j k l) = record { words = e ∙ sym j; texts = f ∙ sym k; lengths = g ∙ sym l }
one_report b w₀ w w' t₀ t t' r r' (cramped h e f g) (told i v o k l) = absurd (omega arith)
one_report b w₀ w w' t₀ t t' r r' (told h v o e f) (cramped i j k l) = absurd (omega arith)
one_report b w₀ w w' t₀ t t' r r' (told h v o e f) (told i v' o' k l) =
    let s = one_outcome b w₀ w w' v v' o o' in
    let x : report_text (sheet_of b) v ≡ report_text (sheet_of b) v' = ap (report_text (sheet_of b)) s.verdicts in
    let n : r ≡ r' = e ∙ ap length x ∙ sym k in
    record { words = s.words; texts = f ∙ ap (λ (y : List ℕ). y ++ drop r t₀) x ∙ ap (λ (m : ℕ). report_text (sheet_of b) v' ++ drop m t₀) n ∙ sym l; lengths = n }

-- with words for any sheet, none is refused for want of them
enough : (b w₀ w : List ℕ) (v : Result Verdict Refusal) → 4096 ≤ length w₀ → Outcome b w₀ w v → v ≢ Err FewWords
enough b w₀ w v h (short l x e) z = omega arith
enough b w₀ w v h (unread l why n x e) z = go (cyclic (parts_of b)) (sym (cycle_decides (passes (Err FewWords) (λ m p q. omega arith) b read)) ∙ read)
  where
    same : why ≡ FewWords
    same = cc

    read : sheet_ground b ≡ Err FewWords
    read = n ∙ ap Err same

    go : (c : Bool) → cond c (Err Cycle) clear ≡ Err FewWords → ⊥
    go true p = cc
    go false p = cc
enough b w₀ w v h (judged l n (crowded m c e)) z = cc
enough b w₀ w v h (judged l n (clashing m x c e)) z = cc
enough b w₀ w v h (judged l n (fair m k u e q a)) z = cc

pub whole : {b w₀ w t₀ t : List ℕ} {r : ℕ} → 4096 ≤ length w₀ → longest ≤ length t₀ → Reported b w₀ w t₀ t r → ToldWhole b w₀ w t₀ t r
whole h i (cramped l e f g) = absurd (omega arith)
whole {b} {w₀} {w} h i (told l v o e f) = record { verdict = v; outcome = o; worded = enough b w₀ w v h o; size = e; text = f }

-- the text stands within the room
pub whole_fits : {b w₀ w t₀ t : List ℕ} {r : ℕ} → ToldWhole b w₀ w t₀ t r → r ≤ length t
whole_fits {b} {t₀ = t₀} {r = r} p = omega (arith, p.size, ap length p.text, length-append (report_text (sheet_of b) p.verdict) (drop r t₀))
