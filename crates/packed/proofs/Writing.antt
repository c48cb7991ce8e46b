-- For the proof of the run's writer: its head, its sites and its network, one behind the other.
-- Assumes nothing.
use Prim.Native.Nat.{ℕ, ◌-◌, ◌+◌, ◌≤◌}
use mathlib.Core.List.{List, ◌++◌, append_assoc, append-nil}
use mathlib.Core.Path.{◌≡◌, ap, ◌∙◌}
use native.Mathlib.Omega.{arith}
use lib.ListN.{length, take, drop, length-drop, drop_of_length-le}
use borrow.Rule.Slice.PartMut.{put_mid}
use Rattle.std.proofs.lemmas.Grind.{common_steps}
use Rattle.std.proofs.lemmas.Slice.{take-put_mid}

-- a part of so many bytes at the front, one of n behind it, and one behind both, to the end
module _ (l head mid net : List ℕ) (at n : ℕ) (front : length head ≡ at) (long : length mid ≡ n) (whole : length l ≡ at + n + length net) where
  abbrev so_far : List ℕ
  so_far = put_mid at n (head ++ drop at l) mid

  lead : take at (head ++ drop at l) ≡ head
  lead = grind (arith, common_steps)

  pub put_behind : put_mid (at + n) (length so_far - (at + n)) so_far net ≡ head ++ (mid ++ net)
  put_behind =
      let before : take (at + n) so_far ≡ head ++ mid =
      take-put_mid at n (head ++ drop at l) mid (at + n) (omega arith) (grind (arith, common_steps)) ∙ ap (λ (x : List ℕ). x ++ mid) lead in
      let all : length (drop (at + n) so_far) ≤ length so_far - (at + n) = omega (arith, length-drop (at + n) so_far) in
      (λ j. before j ++ (net ++ drop_of_length-le (drop (at + n) so_far) all j))
      ∙ ap (λ (x : List ℕ). head ++ mid ++ x) (append-nil net)
      ∙ append_assoc head mid net
