-- The digits of a number, put from the last one to the first.
-- Assumes nothing.
use Prim.Native.Nat.{ℕ, ◌+◌, ◌/◌, ◌%◌, ◌≤◌, ◌<◌}
use mathlib.Core.List.{List, [], ◌∷◌, ◌++◌}
use mathlib.Core.Path.{◌≡◌, refl, sym, ap, ◌∙◌}
use native.Mathlib.Omega.{arith}
use native.Mathlib.Decide.{dec_lt}
use lib.ListN.{length, set, length-set, length-append}
use Rattle.text.specs.Text.{over, Put}
use Rattle.text.specs.Decimal.{decimal}
use Rattle.text.proofs.TextLaws.{over_last}
use Rattle.text.proofs.Putting.{put_none}
use Rattle.text.proofs.DecimalLaws.{decimal_one, decimal_more}

-- the last digit of a number, and those before it, which are its tens' where there are any
record Last (n : ℕ) : Type 0 where
  pub before : List ℕ
  pub digits : decimal n ≡ before ++ ((48 + n % 10) ∷ [])
  pub tens : 0 < length before → decimal (n / 10) ≡ before

last_of : (n : ℕ) → Last n
last_of n = go (dec_lt n 10)
  where
    go : Dec (n < 10) → Last n
    go (yes l) =
        let one : n ≡ n % 10 = omega arith in
        record { before = []; digits = decimal_one n l ∙ ap (λ (d : ℕ). (48 + d) ∷ []) one; tens = λ h. absurd (omega arith) }
    go (no l) = record { before = decimal (n / 10); digits = decimal_more n (omega arith); tens = λ h. refl }

-- of the digits of n, some are still to be put, up to a place; they are those of the number left
pub record ToPut (text : List ℕ) (at n : ℕ) (last : List ℕ) (left end : ℕ) : Type 0 where
  pub digits : List ℕ
  pub number : 0 < length digits → decimal left ≡ digits
  pub long : length last ≡ length text
  pub room : end ≤ length text
  pub to : end ≡ at + length digits
  pub bytes : over last at digits ≡ over text at (decimal n)

module _ {text : List ℕ} {at n : ℕ} {last : List ℕ} {left to : ℕ} (p : ToPut text at n last left to) where
  -- the ones are put, and the tens are left
  pub one_put : (d place : ℕ) → at < to → to ≡ place + 1 → d ≡ 48 + left % 10 → ToPut text at n (set last place d) (left / 10) place
  one_put d place h q e =
      let l = last_of left in
      let all : p.digits ≡ l.before ++ (d ∷ []) =
      sym (p.number (omega (arith, p.to))) ∙ l.digits ∙ ap (λ (x : ℕ). l.before ++ (x ∷ [])) (sym e) in
      let here : place ≡ at + length l.before = omega (arith, p.to, ap length all, length-append l.before (d ∷ [])) in
      record {
        digits = l.before;
        number = l.tens;
        long = length-set last place d ∙ p.long;
        room = omega (arith, p.room);
        to = here;
        bytes = over_last last at l.before d place here (omega (arith, p.room, p.long)) ∙ ap (over last at) (sym all) ∙ p.bytes;
      }

  -- none are left
  pub all_put : (r : ℕ) → to ≤ at → r ≡ at + length (decimal n) → r ≤ length text → Put text at (decimal n) last r
  all_put r h q l = record { room = omega arith; to = q; bytes = none p.digits (omega (arith, p.to)) ∙ p.bytes }
    where
      none : (ds : List ℕ) → length ds ≡ 0 → last ≡ over last at ds
      none [] e = (put_none last at (omega (arith, p.to, p.room, p.long))).bytes
      none (d ∷ ds) e = absurd (omega arith)
