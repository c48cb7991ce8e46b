-- When a run is sound (01, "The run"): as 01 lists it, and as it is tested.
-- Assumes nothing.
use Rattle.std.specs.Prelude.{ℕ, zero, suc, ◌+◌, ◌/◌, ◌%◌, ◌≤◌, ◌≡◌, Bool, true, false, cond, ◌&&◌, ◌||◌, eqb, ltb, leb, get_or}
use Rattle.sets.specs.Sets.{minus, subset, all_of, below_of, others_of, weight_of}
use Rattle.site.specs.Site.{sound_of, start, say_yes, say_no, ack, is_order, ends_of}
use Rattle.run.specs.declared.Run.{Run}
use Rattle.run.specs.Run.{site_at, outstanding, has_stopped}

-- ---- meaning

-- site i's record is sound, has the run's n and its place's number, and knows only stopped sites as stopped
pub record SoundPlace (r : Run) (i : ℕ) : Type 0 where
  pub sound : sound_of (site_at r i) ≡ true
  pub sites : (site_at r i).n ≡ r.n
  pub number : (site_at r i).number ≡ i
  pub known : subset (site_at r i).known r.stopped ≡ true

-- a message's ends are sites of the run and right for its kind, and its receiver has not stopped
pub record SoundMessage (r : Run) (k s j : ℕ) : Type 0 where
  pub from : s ≤ r.n
  pub to : j ≤ r.n
  pub ends : ends_of k s j ≡ true
  pub runs : has_stopped r j ≡ false

-- "It is sound when its records are", its "stopped sites are within 1..n", and its messages are right
pub record Sound (r : Run) : Type 0 where
  pub least : 2 ≤ r.n
  pub most : r.n ≤ 8
  pub stopped : subset r.stopped (all_of r.n) ≡ true
  pub places : (i : ℕ) → 1 ≤ i → i ≤ r.n → SoundPlace r i
  pub messages : (k s j : ℕ) → outstanding r k s j ≡ true → SoundMessage r k s j

-- ---- computation

-- a test holds of every number below n
abbrev pub every : ℕ → (ℕ → Bool) → Bool
every zero f = true
every (suc n) f = every n f && f n

-- site i's record is as in SoundPlace
unfoldable pub sound_place : Run → ℕ → Bool
sound_place r i =
    sound_of (site_at r i) && eqb (site_at r i).n r.n && eqb (site_at r i).number i && subset (site_at r i).known r.stopped

-- the sites of 1 to n to which a message of kind k from s may be addressed
unfoldable pub may_reach : ℕ → ℕ → ℕ → ℕ
may_reach n k s =
    cond (leb s n)
    (cond (eqb k start) (cond (eqb s 1) (others_of n 1) 0)
    (cond (eqb k say_yes || eqb k say_no) (cond (ltb 1 s) (weight_of 1) 0)
    (cond (eqb k ack) (below_of s)
    (cond (is_order k) (minus (all_of n) (all_of s)) 0))))
    0

-- the receivers at place p of the network are right
unfoldable pub sound_entry : Run → ℕ → Bool
sound_entry r p = subset (get_or r.net p 0) (minus (may_reach r.n (p / 8 + 1) (p % 8 + 1)) r.stopped)

-- ground 1 is given where this is false: the run is as in Sound, place by place and entry by entry (SoundLaws)
unfoldable pub sound_run : Run → Bool
sound_run r =
    leb 2 r.n && leb r.n 8 && subset r.stopped (all_of r.n)
    && every r.n (λ (i : ℕ). sound_place r (i + 1))
    && every 72 (sound_entry r)
