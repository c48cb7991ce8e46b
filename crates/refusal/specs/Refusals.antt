-- The grounds for refusal, each with its number (01, "Grounds for refusal"; 32 is 02's, Ask 3), and what a test for them answers.
-- Assumes nothing.
use Rattle.std.specs.Prelude.{ℕ, Result, Ok, Err}
use Rattle.refusal.specs.declared.Refusal.{Refusal}
use Rattle.refusal.specs.declared.Refusal.TheVariants.{NotSound, WrongNames, ActorStopped, NotThere, NotAllowed, Conflict, TooShort, WrongLength, WrongVersion, UnknownK, WrongField, NoRoom, FewWords, SheetSize, SheetVersion, SheetCounts, SheetLength, SheetRange, ReadsNothing, ReadTwice, NotFinal, Cycle, ManyStates, Clash, SheetNoRoom}

-- 01's number for a ground
abbrev pub refusal_number : Refusal → ℕ
refusal_number NotSound = 1
refusal_number WrongNames = 2
refusal_number ActorStopped = 3
refusal_number NotThere = 4
refusal_number NotAllowed = 5
refusal_number Conflict = 6
refusal_number TooShort = 10
refusal_number WrongLength = 11
refusal_number WrongVersion = 12
refusal_number UnknownK = 13
refusal_number WrongField = 14
refusal_number NoRoom = 15
refusal_number FewWords = 20
refusal_number SheetSize = 21
refusal_number SheetVersion = 22
refusal_number SheetCounts = 23
refusal_number SheetLength = 24
refusal_number SheetRange = 25
refusal_number ReadsNothing = 26
refusal_number ReadTwice = 27
refusal_number NotFinal = 28
refusal_number Cycle = 29
refusal_number ManyStates = 30
refusal_number Clash = 31
refusal_number SheetNoRoom = 32

-- what a test for grounds answers: nothing, or the ground
abbrev pub Test : Type 0
Test = Result (Unit {0}) Refusal

-- no ground holds
abbrev pub clear : Test
clear = Ok (record {})

-- the grounds of a test come first, then the rest
abbrev pub checked : {A : Type 0} → Test → Result A Refusal → Result A Refusal
checked (Ok u) rest = rest
checked (Err why) rest = Err why

-- 0 where nothing is refused, else the number
abbrev pub answer_number : {A : Type 0} → Result A Refusal → ℕ
answer_number (Ok x) = 0
answer_number (Err why) = refusal_number why
