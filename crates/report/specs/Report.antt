-- The report on a sheet (01, "The sheet program reads a sheet"): every byte that is printed.
-- Assumes nothing.
use Rattle.std.specs.Prelude.{ℕ, zero, suc, ◌+◌, ◌/◌, ◌%◌, ◌≤◌, ◌<◌, Bool, cond, ◌≡◌, eqb, ltb, ◌≢◌, length, get_or, drop, Option, Some, None, Result, Ok, Err}
use Rattle.refusal.specs.Refusals.{refusal_number}
use Rattle.refusal.specs.declared.Refusal.{Refusal}
use Rattle.refusal.specs.declared.Refusal.TheVariants.{FewWords}
use mathlib.Core.List.{List, [], ◌∷◌, ◌++◌, flatten}
use Rattle.text.specs.Page.{Written}
use Rattle.text.specs.declared.Page.{Page}
use Rattle.text.specs.Said.{said}
use Rattle.text.specs.Decimal.{decimal}
use Rattle.sets.specs.Sets.{bit}
use Rattle.sheet.specs.Grounds.{sheet_of}
use Rattle.sheet.specs.declared.Sheet.{Sheet}
use Rattle.judge.specs.Facts.{stands, mark_of, no_local, condition_number}
use Rattle.judge.specs.Outcome.{Outcome}
use Rattle.judge.specs.declared.Decision.{Decision}
use Rattle.judge.specs.declared.Decision.TheVariants.{Unreached, Abort, Commit, Blocked}
use Rattle.judge.specs.declared.Witness.{Witness}
use Rattle.judge.specs.declared.Local.{Local}
use Rattle.judge.specs.declared.Verdict.{Verdict}

-- a piece for each number below k, made with the text before it at hand
unfoldable pub up_to : (ℕ → List ℕ → List ℕ) → ℕ → List ℕ
up_to f zero = []
up_to f (suc q) = up_to f q ++ f q (up_to f q)

-- ---- a line for each state: "site.state, mark (w, a, c), reached, set (or `-`), committable, decision"

-- site.state
unfoldable pub name_of : ℕ → List ℕ
name_of p = flatten (decimal (p / 8 + 1) ∷ said "." ∷ decimal (p % 8) ∷ [])

-- "mark (w, a, c)": 0 working, 1 abort, 2 commit, with the spaces around it
unfoldable pub mark_word : ℕ → List ℕ
mark_word mark = cond (eqb mark 0) (said " w ") (cond (eqb mark 1) (said " a ") (said " c "))

-- "reached" and "committable", each as y or n
unfoldable pub yes_word : Bool → List ℕ
yes_word b = cond b (said "y ") (said "n ")

-- "decision", at the end of a line
unfoldable pub decision_word : Decision → List ℕ
decision_word Unreached = said "-\n"
decision_word Abort = said "abort\n"
decision_word Commit = said "commit\n"
decision_word Blocked = said "blocked\n"

-- a member of a set, after a comma where others stand before it
unfoldable pub member_of : Bool → ℕ → List ℕ
member_of later q = cond later (flatten (said "," ∷ name_of q ∷ [])) (name_of q)

-- q, where it is a member
unfoldable pub member_in : ℕ → ℕ → Bool → List ℕ
member_in m q later = cond (bit m q) (member_of later q) []

-- the members below 32, ascending by site, then state
abbrev pub members_of : ℕ → List ℕ
members_of m = up_to (λ q before. member_in m q (ltb 0 (length before))) 32

-- "set (or `-`)": an empty one is `-`
unfoldable pub set_word : ℕ → List ℕ
set_word m = cond (eqb m 0) (said "-") (members_of m)

-- the line of the local state p with that mark, by what is said of it
unfoldable pub state_line : ℕ → ℕ → Local → List ℕ
state_line p mark l =
    flatten
    (name_of p ∷ mark_word mark ∷ yes_word l.reached ∷ set_word l.concurrent ∷ said " " ∷ yes_word l.committable ∷ decision_word l.decision ∷ [])

-- the line of p, where the sheet has that state
unfoldable pub line_in : Sheet → List Local → ℕ → List ℕ
line_in s l p = cond (stands s p) (state_line p (mark_of s p) (get_or l p no_local)) []

-- the lines of all its states
abbrev pub state_lines : Sheet → List Local → List ℕ
state_lines s l = up_to (λ p before. line_in s l p) 32

-- ---- the other lines

-- "First line: sites, reachable global states"
unfoldable pub head_line : ℕ → ℕ → List ℕ
head_line sites states = flatten (said "sheet " ∷ decimal sites ∷ said " sites " ∷ decimal states ∷ said " states\n" ∷ [])

-- "A blocking verdict shows the lowest site, state, condition broken, in that order"
unfoldable pub blocking_line : ℕ → ℕ → ℕ → List ℕ
blocking_line site state condition =
    flatten (said "verdict blocking at " ∷ decimal site ∷ said "." ∷ decimal state ∷ said " condition " ∷ decimal condition ∷ said "\n" ∷ [])

-- what blocks, where something does
unfoldable pub blocking_or_none : Option Witness → List ℕ
blocking_or_none None = said "verdict nonblocking\n"
blocking_or_none (Some w) = blocking_line w.site w.state (condition_number w.condition)

-- "A nonblocking sheet prints `verdict nonblocking`"; any other, what blocks it
abbrev pub ruling_line : Verdict → List ℕ
ruling_line v = blocking_or_none v.blocking

-- the last line: the verdict's tolerance; where none is stated, "the last line reads `tolerance not stated`" (02, Ask 2)
unfoldable pub tolerance_line : Option ℕ → List ℕ
tolerance_line None = said "tolerance not stated\n"
tolerance_line (Some t) = flatten (said "tolerance " ∷ decimal t ∷ said "\n" ∷ [])

-- "`refused N`", N the ground
unfoldable pub refused_line : ℕ → List ℕ
refused_line why = flatten (said "refused " ∷ decimal why ∷ said "\n" ∷ [])

-- ---- the whole

-- the part is written, where there is room for it
abbrev pub WrittenIfRoom : Page → List ℕ → Page → Type 0
WrittenIfRoom before part after = before.at + length part ≤ length before.text.now → Written before part after

-- an accepted sheet: the first line, a line for each state, the verdict, the tolerance
unfoldable pub accepted_text : Sheet → Verdict → List ℕ
accepted_text s v =
    flatten (head_line v.sites v.states ∷ state_lines s v.locals ∷ ruling_line v ∷ tolerance_line v.tolerance ∷ [])

-- the text for any answer of the judge: "a refused one `refused N` only"
unfoldable pub report_text : Sheet → Result Verdict Refusal → List ℕ
report_text s (Ok v) = accepted_text s v
report_text s (Err why) = refused_line (refusal_number why)

-- the longest text has 3,731 bytes: a first line of at most 26, for each of 32 states one of at most 114 (24 states of other sites in its
-- set), a verdict of at most 36 and a tolerance of at most 21
abbrev pub longest : ℕ
longest = 3731

-- what is left of bytes, words and room: with less room than the longest text nothing is touched and the answer is 0; else the sheet is
-- judged, its text stands at the start, the rest of the room is unchanged, and the answer is the length
pub data Reported (bytes w₀ w t₀ t : List ℕ) (r : ℕ) : Type 0 where
  cramped : length t₀ < longest → w ≡ w₀ → t ≡ t₀ → r ≡ 0 → Reported bytes w₀ w t₀ t r
  told : longest ≤ length t₀ → (v : Result Verdict Refusal) → Outcome bytes w₀ w v → r ≡ length (report_text (sheet_of bytes) v)
      → t ≡ report_text (sheet_of bytes) v ++ drop r t₀ → Reported bytes w₀ w t₀ t r

-- with room for any report and words for any sheet: the sheet is judged, and never refused for want of words; its whole text stands at the start,
-- the rest of the room is unchanged, and the answer is the length
pub record ToldWhole (bytes w₀ w t₀ t : List ℕ) (r : ℕ) : Type 0 where
  pub verdict : Result Verdict Refusal
  pub outcome : Outcome bytes w₀ w verdict
  pub worded : verdict ≢ Err FewWords
  pub size : r ≡ length (report_text (sheet_of bytes) verdict)
  pub text : t ≡ report_text (sheet_of bytes) verdict ++ drop r t₀
