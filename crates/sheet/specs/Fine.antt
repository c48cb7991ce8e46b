-- What the reader has tested of a sheet that it accepts.
-- Assumes nothing.
use Rattle.std.specs.Prelude.{ℕ, ◌/◌, ◌%◌, ◌^◌, ◌≤◌, ◌<◌, ◌≡◌, get_or}
use Rattle.std.specs.Int.Bits.{bit_and}
use Rattle.sheet.specs.Record.{states_of, mark_in, move_of, no_transition}
use Rattle.sheet.specs.Paths.{Cycle}
use Rattle.sheet.specs.declared.Transition.{Transition}
use Rattle.sheet.specs.declared.Sheet.{Sheet}

-- A transition of the sheet: its fields in their ranges, something read, abort and commit kept.
pub record FineMove (s : Sheet) (t : Transition) : Type 0 where
  pub least : 1 ≤ t.site
  pub most : t.site ≤ s.sites
  pub from : t.from < states_of s t.site
  pub to : t.to < states_of s t.site
  pub vote : t.vote < 2
  pub reads : t.reads < 2 ^ 32
  pub writes : t.writes < 2 ^ 32
  pub prompted : 1 ≤ t.reads
  pub abort : mark_in s t.site t.from ≡ 1 → mark_in s t.site t.to ≡ 1
  pub commit : mark_in s t.site t.from ≡ 2 → mark_in s t.site t.to ≡ 2

-- Zeros stand where the sheet has nothing: an absent site, a state that is not there, a place beyond the transitions.
pub record Blank (s : Sheet) : Type 0 where
  pub absent : (i : ℕ) → s.sites ≤ i → get_or s.counts i 0 ≡ 0
  pub unmarked : (k : ℕ) → get_or s.counts (k / 8) 0 ≤ k % 8 → get_or s.marks k 0 ≡ 0
  pub rest : (k : ℕ) → s.moves ≤ k → move_of s k ≡ no_transition

-- A sheet: its counts, marks and messages in their ranges, and each transition fine; no message read by two sites, and no cycle.
-- What the sheet does not have is zero.
pub record Fine (s : Sheet) : Type 0 where
  pub least : 2 ≤ s.sites
  pub most : s.sites ≤ 4
  pub some : (i : ℕ) → i < s.sites → 1 ≤ get_or s.counts i 0
  pub many : (i : ℕ) → get_or s.counts i 0 ≤ 8
  pub blank : Blank s
  pub marks : (k : ℕ) → get_or s.marks k 0 < 3
  pub first : s.first < 2 ^ 32
  pub few : s.moves ≤ 64
  pub each : (k : ℕ) → k < s.moves → FineMove s (move_of s k)
  pub apart : (i j : ℕ) → i < s.moves → j < s.moves → ((move_of s i).site ≡ (move_of s j).site → ⊥)
      → bit_and (move_of s i).reads (move_of s j).reads ≡ 0
  pub acyclic : Cycle s → ⊥
