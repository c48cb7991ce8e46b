-- `fj_run_journal`: what it returns, and what it leaves of the slices.
-- Assumes nothing.
use Rattle.std.specs.Prelude.{ℕ, ◌/◌, ◌%◌, ◌^◌, cond, List, [], ◌∷◌, ◌++◌, ltb, length, drop, replicate, Option, Some, None}
use Rattle.refusal.specs.declared.Refusal.{Refusal}
use Rattle.refusal.specs.Refusals.{refusal_number}
use Rattle.day.specs.declared.Day.{Day}
use Rattle.day.specs.declared.Stepped.{Stepped}
use Rattle.day.specs.Day.{day_of}
use Rattle.packed.specs.Bytes.{run_bytes, is_run_bytes, run_in}
use Rattle.embed.specs.Bytes.{LeftBoth, leaves_both}

-- a number below 2 ^ 64 as eight bytes, big-endian
unfoldable pub eight_of : ℕ → List ℕ
eight_of k =
    k / 2 ^ 56 % 256
    ∷ k / 2 ^ 48 % 256
    ∷ k / 2 ^ 40 % 256
    ∷ k / 2 ^ 32 % 256
    ∷ k / 2 ^ 24 % 256
    ∷ k / 2 ^ 16 % 256
    ∷ k / 2 ^ 8 % 256
    ∷ k % 256
    ∷ []

-- the answer takes so many bytes of its room
abbrev pub day_answer : ℕ
day_answer = 26

-- accepted, written and place, eight bytes each; how many sites are awaited, and the lowest of them
unfoldable pub day_bytes : Day → List ℕ
day_bytes d = eight_of d.accepted ++ (eight_of d.written ++ (eight_of d.place ++ (d.awaited ∷ d.lowest ∷ [])))

-- the number of the refusal that ended a day, 0 for none
abbrev pub ended_number : Option Refusal → ℕ
ended_number None = 0
ended_number (Some why) = refusal_number why

-- the refusal, the run as after the accepted events, and the answer, which is written with a refusal too
abbrev pub day_leaves : Stepped → List ℕ → LeftBoth
day_leaves x room = leaves_both (ended_number x.day.refusal) (run_bytes x.run) (day_bytes x.day ++ drop day_answer room)

-- 15 comes first, with nothing touched; then 1 for bytes that are no run, with zeros; then the journal
unfoldable pub day_call : List ℕ → List ℕ → List ℕ → LeftBoth
day_call run journal room =
    cond (ltb (length room) day_answer) (leaves_both 15 run room)
    (cond (is_run_bytes run) (day_leaves (day_of (run_in run) journal) room) (leaves_both 1 run (replicate day_answer 0 ++ drop day_answer room)))
