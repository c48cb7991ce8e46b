-- The calls on sheets: what they return, and what they leave of the words and of the room. (`fj_sheet_report` is report's own.)
-- Assumes nothing.
use Rattle.std.specs.Prelude.{ℕ, ◌/◌, ◌%◌, ◌≤◌, ◌<◌, Bool, true, false, cond, ◌≡◌, refl, ltb, length, drop, replicate, Option, Some, None, Result, Ok, Err}
use Rattle.std.specs.Option.{unwrap_or}
use mathlib.Core.List.{List, [], ◌∷◌, ◌++◌, flat_map}
use Rattle.std.proofs.Common.{sym, ap, ◌∙◌, arith}
use Rattle.sheet.specs.Grounds.{sheet_ground, sheet_of}
use Rattle.sheet.specs.Write.{write_of}
use Rattle.sheet.specs.Parts.{parts_size, parts_from, parts_put}
use Rattle.refusal.specs.Refusals.{refusal_number, Test, answer_number}
use Rattle.refusal.specs.declared.Refusal.{Refusal}
use Rattle.judge.specs.Facts.{condition_number}
use Rattle.judge.specs.declared.Decision.{Decision}
use Rattle.judge.specs.declared.Decision.TheVariants.{Unreached, Abort, Commit, Blocked}
use Rattle.judge.specs.declared.Witness.{Witness}
use Rattle.judge.specs.declared.Local.{Local}
use Rattle.judge.specs.declared.Verdict.{Verdict}
use Rattle.judge.specs.Outcome.{Outcome}
use Rattle.judge.proofs.OutcomeLaws.{Same, one_outcome}
use Rattle.embed.specs.Bytes.{Left, leaves}

-- ---- a verdict as bytes

-- bit 0 reached, bit 1 committable
abbrev pub flags_of : Bool → Bool → ℕ
flags_of true true = 3
flags_of true false = 1
flags_of false true = 2
flags_of false false = 0

-- 0 unreached, 1 abort, 2 commit, 3 blocked
abbrev pub decision_byte : Decision → ℕ
decision_byte Unreached = 0
decision_byte Abort = 1
decision_byte Commit = 2
decision_byte Blocked = 3

-- a local state's six bytes: bits, decision, and the concurrency set, big-endian
unfoldable pub local_bytes : Local → List ℕ
local_bytes l =
    flags_of l.reached l.committable ∷ decision_byte l.decision
    ∷ l.concurrent / 16777216 % 256 ∷ l.concurrent / 65536 % 256 ∷ l.concurrent / 256 % 256 ∷ l.concurrent % 256 ∷ []

-- nonblocking, and the witness: site, state, condition; zeros where there is none
abbrev pub witness_bytes : Option Witness → List ℕ
witness_bytes None = 1 ∷ 0 ∷ 0 ∷ 0 ∷ []
witness_bytes (Some w) = 0 ∷ w.site ∷ w.state ∷ condition_number w.condition ∷ []

-- the first fourteen bytes: sites, number of states (big-endian), nonblocking, the witness, tolerance (0 where none is stated), six zeros
unfoldable pub head_bytes : Verdict → List ℕ
head_bytes v =
    (v.sites ∷ v.states / 256 % 256 ∷ v.states % 256 ∷ []) ++ (witness_bytes v.blocking ++ (unwrap_or v.tolerance 0 ∷ 0 ∷ 0 ∷ 0 ∷ 0 ∷ 0 ∷ 0 ∷ []))

-- then 32 local states; one that the sheet does not have is all zeros
unfoldable pub verdict_bytes : Verdict → List ℕ
verdict_bytes v = head_bytes v ++ flat_map local_bytes v.locals

-- what is answered: a verdict, or zeros for a refusal
abbrev pub answer_bytes : Result Verdict Refusal → List ℕ
answer_bytes (Ok v) = verdict_bytes v
answer_bytes (Err why) = replicate 206 0

pub refused_bytes : (why : Refusal) → answer_bytes (Err why) ≡ replicate 206 0
refused_bytes why = refl

-- ---- the verdict

-- 15 comes first, with nothing touched; then the judge's own outcome, with its answer in the first 206 bytes
pub data JudgeCall (sheet w₀ w out₀ out : List ℕ) (r : ℕ) : Type 0 where
  cramped : length out₀ < 206 → w ≡ w₀ → out ≡ out₀ → r ≡ 15 → JudgeCall sheet w₀ w out₀ out r
  judged : 206 ≤ length out₀ → (v : Result Verdict Refusal) → Outcome sheet w₀ w v → r ≡ answer_number v → out ≡ answer_bytes v ++ drop 206 out₀
      → JudgeCall sheet w₀ w out₀ out r

-- any two outcomes that it allows for one input are equal
pub record SameCall (w w' out out' : List ℕ) (r r' : ℕ) : Type 0 where
  pub words : w ≡ w'
  pub room : out ≡ out'
  pub returned : r ≡ r'

pub one_call : (sheet w₀ w w' out₀ out out' : List ℕ) (r r' : ℕ)
    → JudgeCall sheet w₀ w out₀ out r → JudgeCall sheet w₀ w' out₀ out' r' → SameCall w w' out out' r r'
one_call s w₀ w w' o₀ o o' r r' (cramped l a b e) (cramped m a' b' e') = record { words = a ∙ sym a'; room = b ∙ sym b'; returned = e ∙ sym e' }
one_call s w₀ w w' o₀ o o' r r' (cramped l a b e) (judged m v x e' b') = absurd (omega arith)
one_call s w₀ w w' o₀ o o' r r' (judged l v x e b) (cramped m a' b' e') = absurd (omega arith)
one_call s w₀ w w' o₀ o o' r r' (judged l v x e b) (judged m v' x' e' b') =
    let same : Same w w' v v' = one_outcome s w₀ w w' v v' x x' in
    record {
      words = same.words;
      room = b ∙ ap (λ (y : Result Verdict Refusal). answer_bytes y ++ drop 206 o₀) same.verdicts ∙ sym b';
      returned = e ∙ ap answer_number same.verdicts ∙ sym e';
    }

-- ---- the parts

-- what is left where the reader's test is done: the parts in the first 810 bytes
abbrev pub parts_after : Test → List ℕ → List ℕ → Left
parts_after (Ok u) sheet room = leaves 0 (parts_put (sheet_of sheet) room)
parts_after (Err why) sheet room = leaves (refusal_number why) room

-- `fj_sheet_parts`: 15 comes first, then the reader's grounds; else the parts
unfoldable pub parts_call : List ℕ → List ℕ → Left
parts_call sheet room = cond (ltb (length room) parts_size) (leaves 15 room) (parts_after (sheet_ground sheet) sheet room)

-- `fj_sheet_write`: the writer's answer on the sheet that the bytes tell; bytes that tell none have no sites, which is 23
unfoldable pub sheet_write_call : List ℕ → List ℕ → Left
sheet_write_call parts room = leaves (answer_number (write_of (parts_from parts) room).0) (write_of (parts_from parts) room).1
