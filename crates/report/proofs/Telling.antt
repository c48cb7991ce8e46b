-- From a judged sheet and its text to the report.
-- Assumes nothing.
use Prim.Native.Nat.{ℕ, ◌+◌, ◌≤◌}
use mathlib.Core.List.{List, ◌++◌}
use mathlib.Core.Path.{◌≡◌, sym, ap, subst, ◌∙◌}
use native.Mathlib.Omega.{arith}
use lib.ListN.{length, drop}
use Rattle.std.proofs.Common.{Result, Ok, Err}
use Rattle.refusal.specs.Refusals.{clear, refusal_number}
use Rattle.refusal.specs.declared.Refusal.{Refusal}
use Rattle.text.specs.Text.{Put}
use Rattle.sheet.specs.Grounds.{sheet_ground, sheet_of}
use Rattle.sheet.specs.declared.Sheet.{Sheet}
use Rattle.judge.specs.Facts.{Says}
use Rattle.judge.specs.Outcome.{Outcome, Judged}
use Rattle.judge.specs.Outcome.Judged.{crowded, clashing, fair}
use Rattle.judge.specs.Outcome.Outcome.{short, unread, judged}
use Rattle.judge.specs.declared.Verdict.{Verdict}
use Rattle.report.specs.Report.{refused_line, accepted_text, report_text, Reported}
use Rattle.report.specs.Report.Reported.{told}

-- no ground stands against an accepted record, and its verdict says what is so
pub record Accepted (b : List ℕ) (v : Verdict) : Type 0 where
  pub read : sheet_ground b ≡ clear
  pub few : v.states ≤ 4096
  pub says : Says (sheet_of b) v

accepted_judged : (s : Sheet) (w₀ w : List ℕ) (v : Verdict) → Judged s w₀ w (Ok v) → (v.states ≤ 4096) × Says s v
accepted_judged s w₀ w v (crowded m c e) = cc
accepted_judged s w₀ w v (clashing m x c e) = cc
accepted_judged s w₀ w v (fair m k u e l a) =
    let same : u ≡ v = cc in
    (subst (λ (x : Verdict). x.states ≤ 4096) same l.room, subst (Says s) same a)

pub accepted : (b w₀ w : List ℕ) (r : Result Verdict Refusal) (v : Verdict) → r ≡ Ok v → Outcome b w₀ w r → Accepted b v
accepted b w₀ w r v z (short l x e) = cc
accepted b w₀ w r v z (unread l why n x e) = cc
accepted b w₀ w r v z (judged l n j) =
    let a = accepted_judged (sheet_of b) w₀ w v (subst (Judged (sheet_of b) w₀ w) z j) in record { read = n; few = a.0; says = a.1 }

module _ (b w₀ w t₀ t : List ℕ) (v : Result Verdict Refusal) (r : ℕ) (h : 3731 ≤ length t₀) (o : Outcome b w₀ w v) where
  tells : (x : List ℕ) → x ≡ report_text (sheet_of b) v → Put t₀ 0 x t r → Reported b w₀ w t₀ t r
  tells x e p =
      let n : r ≡ length x = omega (arith, p.to) in
      told h v o (n ∙ ap length e)
      (p.bytes ∙ ap (λ (y : List ℕ). y ++ drop (0 + length x) t₀) e ∙ ap (λ (k : ℕ). report_text (sheet_of b) v ++ drop k t₀) (sym p.to))

  pub tells_refused : (why : Refusal) → v ≡ Err why → Put t₀ 0 (refused_line (refusal_number why)) t r → Reported b w₀ w t₀ t r
  unfolding report_text
  tells_refused why z p = tells (refused_line (refusal_number why)) (sym (ap (report_text (sheet_of b)) z)) p

  pub tells_accepted : (u : Verdict) → v ≡ Ok u → (s : Sheet) → s ≡ sheet_of b → Put t₀ 0 (accepted_text s u) t r → Reported b w₀ w t₀ t r
  unfolding report_text
  tells_accepted u z s is p =
      tells (accepted_text s u) (ap (λ (y : Sheet). accepted_text y u) is ∙ sym (ap (report_text (sheet_of b)) z)) p
