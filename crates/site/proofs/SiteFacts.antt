-- What a site step can give, as facts: a sound record, right ends, how a record may change, what may be written.
-- SiteSteps shows that every rule gives one of these; SiteLaws reads the theorems off them.
-- Assumes nothing.
use Prim.Native.Nat.{ℕ, ◌≤◌, ◌<◌}
use mathlib.Core.Bool.{Bool, true, false, ◌||◌}
use mathlib.Core.Path.{◌≡◌}
use mathlib.Core.Logic.{◌≢◌, ◌⊎◌}
use lib.Dec.{eqb}
use Rattle.sets.specs.Sets.{has, weight_of, with_site, subset, others_of, below_of}
use Rattle.refusal.specs.declared.Refusal.{Refusal}
use Rattle.refusal.specs.declared.Refusal.TheVariants.{NotSound, WrongNames, NotAllowed, Conflict}
use Rattle.site.specs.declared.State.{State}
use Rattle.site.specs.declared.State.TheVariants.{Q, W, P, A, C}
use Rattle.site.specs.declared.Site.{Site}
use Rattle.site.specs.declared.Step.{Step}
use Rattle.site.specs.declared.Step.TheVariants.{Begin, Start, Deliver, Notice, TakeOver, Conclude}
use Rattle.site.specs.declared.Vote.{Vote}
use Rattle.site.specs.declared.Done.{Done}
use Rattle.site.specs.Site.{sound_of, is_order, names_of, to_all, following, refused, passed, taken}

-- ---- records and messages

-- the other sites of a site's run
abbrev pub others : Site → ℕ
others s = others_of s.n s.number

-- a sound record, part by part
pub record SoundSite (s : Site) : Type 0 where
  pub least : 2 ≤ s.n
  pub most : s.n ≤ 8
  pub first : 1 ≤ s.number
  pub last : s.number ≤ s.n
  pub led : 1 ≤ s.leader
  pub leader : s.leader ≤ s.number
  pub known : subset s.known (others s) ≡ true
  pub yes : subset s.yes (others s) ≡ true
  pub no : subset s.no (others s) ≡ true
  pub acked : subset s.acked (others s) ≡ true

-- every lower site is known stopped
unfoldable pub lower_known : Site → Bool
lower_known s = subset (below_of s.number) s.known

-- the right ends of a message, kind by kind: its sender, its receiver
pub data Ends : ℕ → ℕ → ℕ → Type 0 where
  start : {to : ℕ} → 1 < to → Ends 1 1 to
  yes : {from : ℕ} → 1 < from → Ends 2 from 1
  no : {from : ℕ} → 1 < from → Ends 3 from 1
  move_p : {from to : ℕ} → from < to → Ends 4 from to
  move_w : {from to : ℕ} → from < to → Ends 5 from to
  ack : {from to : ℕ} → to < from → Ends 6 from to
  commit : {from to : ℕ} → from < to → Ends 7 from to
  abort : {from to : ℕ} → from < to → Ends 8 from to

-- ---- how a record may change

-- the state goes as a rule of 01 moves it, or stays: no rule leaves a or c
pub data Moves : State → State → Type 0 where
  stays : {q : State} → Moves q q
  q_w : Moves Q W
  q_a : Moves Q A
  w_p : Moves W P
  w_a : Moves W A
  p_w : Moves P W
  p_c : Moves P C

-- the leader followed: the same, the sender of an order, or the site itself when it takes over
pub data Follows (s : Site) : ℕ → Type 0 where
  same : Follows s s.leader
  obeys : {from : ℕ} → s.leader ≤ from → from < s.number → Follows s from
  itself : s.leader < s.number → lower_known s ≡ true → Follows s s.number

-- a set of other sites stays, or gains the site that the step brings
pub data Grows (s : Site) (t : Step) (bring : ℕ → Step) (m : ℕ) : ℕ → Type 0 where
  kept : Grows s t bring m m
  gained : (j : ℕ) → t ≡ bring j → has (others s) j ≡ true → Grows s t bring m (with_site m j)

-- all that a step may do to a record; acknowledgements may also be cleared
pub record Change (s : Site) (t : Step) (x : Site) : Type 0 where
  pub n : x.n ≡ s.n
  pub number : x.number ≡ s.number
  pub state : Moves s.state x.state
  pub leader : Follows s x.leader
  pub known : Grows s t Notice s.known x.known
  pub yes : Grows s t (Deliver 2) s.yes x.yes
  pub no : Grows s t (Deliver 3) s.no x.no
  pub acked : Grows s t (Deliver 6) s.acked x.acked ⊎ x.acked ≡ 0

-- ---- what may be written

-- to all: Start by site 1, and the orders of a leader
pub data Outward (s : Site) : ℕ → Type 0 where
  starts : s.number ≡ 1 → Outward s 1
  moves_p : Outward s 4
  moves_w : Outward s 5
  commits : Outward s 7
  aborts : Outward s 8

-- the sender of the message that a step delivers
pub data Sends : Step → ℕ → Type 0 where
  a_start : {from : ℕ} {v : Vote} → Sends (Start from v) from
  another : {k from : ℕ} → Sends (Deliver k from) from

-- back to the sender, a lower site: Yes and No to site 1, Ack to the leader
pub data Back (s : Site) (t : Step) : ℕ → ℕ → Type 0 where
  says_yes : Sends t 1 → 1 < s.number → Back s t 2 1
  says_no : Sends t 1 → 1 < s.number → Back s t 3 1
  acks : {from : ℕ} → Sends t from → 1 ≤ from → from < s.number → Back s t 6 from

-- a leader concludes
pub record Concludes (s : Site) (t : Step) : Type 0 where
  pub step : t ≡ Conclude
  pub leads : s.leader ≡ s.number

-- who writes to all knows all lower sites stopped, but perhaps a leader that concludes
pub data Wrote (s : Site) (t : Step) : ℕ → ℕ → Type 0 where
  nothing : Wrote s t 0 0
  to_all_lem : {k : ℕ} → Outward s k → lower_known s ≡ true ⊎ Concludes s t → Wrote s t k (to_all s)
  to_one : {k j : ℕ} → Back s t k j → Wrote s t k (weight_of j)

-- ---- how a step ends

-- grounds 1 and 2 do not hold
pub record Fit (s : Site) (t : Step) : Type 0 where
  pub sound : SoundSite s
  pub names : names_of s t ≡ true

-- 5 is the ground of "begin, take over or conclude when its rule doesn't allow it"
pub data Ruled : Step → Type 0 where
  begin : {v : Vote} → Ruled (Begin v)
  take_over : Ruled TakeOver
  conclude : Ruled Conclude

-- 6 is the ground of a delivered order
pub data Orders : Step → Type 0 where
  order : {k from : ℕ} → is_order k ≡ true → Orders (Deliver k from)

-- the grounds of a single step, 1, 2, 5 and 6, each where its turn in their order comes
pub data Ground (s : Site) (t : Step) : Refusal → Type 0 where
  not_sound : sound_of s ≡ false → Ground s t NotSound
  wrong_names : SoundSite s → names_of s t ≡ false → Ground s t WrongNames
  not_allowed : Fit s t → Ruled t → Ground s t NotAllowed
  in_conflict : Fit s t → Orders t → Ground s t Conflict

-- a step is refused with its ground, passed over, or taken
pub data Did (s : Site) (t : Step) : Done → Type 0 where
  refuses : {g : Refusal} → Ground s t g → Did s t (refused s g)
  passes : Fit s t → {l : ℕ} → Follows s l → Did s t (passed (following s l))
  takes : Fit s t → {x : Site} {k m : ℕ} → Change s t x → Wrote s t k m → Did s t (taken x k m)

-- ---- one message

-- another site of the run
pub record Other (s : Site) (j : ℕ) : Type 0 where
  pub first : 1 ≤ j
  pub last : j ≤ s.n
  pub apart : j ≢ s.number

-- Yes, No and Ack are answers
abbrev pub is_answer : ℕ → Bool
is_answer k = eqb k 2 || eqb k 3 || eqb k 6

-- a message of kind k to site j that a step writes
pub record Message (s : Site) (t : Step) (k j : ℕ) : Type 0 where
  pub least : 1 ≤ k
  pub most : k ≤ 8
  pub other : has (others s) j ≡ true
  pub unknown : is_answer k ≡ false → has s.known j ≡ false
  pub sender : is_answer k ≡ true → Sends t j
  pub ends : (Concludes s t → lower_known s ≡ true) → Ends k s.number j
