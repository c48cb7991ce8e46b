-- What a step brings to a site: a message, a notice or a vote, what it counts for, and the record in which a Yes, No or Ack is recorded.
-- Assumes nothing.
use Prim.Native.Nat.{ℕ, ◌≤◌}
use mathlib.Core.Bool.{Bool, true, false, cond, ◌||◌}
use mathlib.Core.Path.{◌≡◌, refl}
use mathlib.Core.Logic.{◌⊎◌, inl, inr, ⊎_elim}
use native.Mathlib.Omega.{arith}
use lib.Dec.{eqb}
use borrow.Author.Tests.{eqb-true}
use Rattle.sets.specs.Sets.{with_site}
use Rattle.sets.proofs.SetLaws.{Site}
use Rattle.site.specs.declared.Vote.{Vote}
use Rattle.site.specs.declared.Vote.TheVariants as vote
use Rattle.site.specs.declared.Step.{Step}
use Rattle.site.specs.Site.{with_yes, with_no, with_acked}
use Rattle.site.specs.declared.Step.TheVariants as step
use Rattle.site.specs.declared.Site.{Site as Record}
use Rattle.promise.proofs.SetsMembers.{In, with_in, in_with, in_with_new}
use Rattle.promise.proofs.Classes.{Kind, Start, Yes, No, MoveP, MoveW, Ack, Commit, Abort, Prepare, by_kind}
use Rattle.promise.proofs.Does.{Uses, nothing, notes, message}
use Rattle.promise.proofs.Seen.{number, same_kind, Recorded, by_recorded}

-- One value for each kind of step.
abbrev pub by_step {ℓ} : {A : Type ℓ} → (Vote → A) → (ℕ → Vote → A) → (ℕ → ℕ → A) → A → A → A → Step → A
by_step b s d n t c (step.Begin v) = b v
by_step b s d n t c (step.Start from v) = s from v
by_step b s d n t c (step.Deliver K from) = d K from
by_step b s d n t c (step.Notice o) = n
by_step b s d n t c step.TakeOver = t
by_step b s d n t c step.Conclude = c

-- A vote for yes.
abbrev Aye : Vote → Type 0
Aye vote.Yes = Unit
Aye vote.No = ⊥

-- The message of kind K from k that a step delivers; a step that may give a vote for yes; the delivery of a Start.
abbrev pub Delivers : Step → ℕ → ℕ → Type 0
Delivers t K k = by_step (λ v. ⊥) (λ from v. (1 ≡ K) × (from ≡ k)) (λ c from. (c ≡ K) × (from ≡ k)) ⊥ ⊥ ⊥ t

abbrev pub Voices : Step → Type 0
Voices t = by_step Aye (λ from v. Aye v) (λ c from. ⊥) ⊥ ⊥ ⊥ t

abbrev pub Starts : Step → Type 0
Starts t = by_step (λ v. ⊥) (λ from v. Unit) (λ c from. ⊥) ⊥ ⊥ ⊥ t

-- The site that a step says has stopped.
abbrev pub Notices : Step → ℕ → Type 0
Notices (step.Begin v) i = ⊥
Notices (step.Start from v) i = ⊥
Notices (step.Deliver K from) i = ⊥
Notices (step.Notice o) i = o ≡ i
Notices step.TakeOver i = ⊥
Notices step.Conclude i = ⊥

-- ---- what counts

-- A message counts for itself, and a Start or a Move for its answer too, while it is outstanding.
abbrev pub heavy : ℕ → Bool
heavy K = eqb K 1 || eqb K 4 || eqb K 5

abbrev pub weigh : ℕ → ℕ
weigh K = cond (heavy K) 2 1

pub weigh_least : (K : ℕ) → 1 ≤ weigh K
weigh_least K = go (heavy K)
  where
    go : (b : Bool) → 1 ≤ cond b 2 1
    go true = omega arith
    go false = omega arith

-- What is gone for good when a step is taken: the message that was delivered, and the news that was told.
abbrev pub net_worth : Step → ℕ
net_worth t = by_step (λ v. 0) (λ from v. weigh 1) (λ K from. weigh K) 0 0 0 t

abbrev pub news_worth : Step → ℕ
news_worth t = by_step (λ v. 0) (λ from v. 0) (λ K from. 0) 1 0 0 t

-- What a step needs of that.
abbrev pub fee_of : Uses → ℕ
fee_of nothing = 0
fee_of notes = 1
fee_of (message κ k) = weigh (number κ)

-- The message in what a step uses up.
abbrev pub kind_in : Uses → Kind
kind_in nothing = Start
kind_in notes = Start
kind_in (message κ k) = κ

abbrev pub sender_in : Uses → ℕ
sender_in nothing = 0
sender_in notes = 0
sender_in (message κ k) = k

abbrev pub IsMessage : Uses → Type 0
IsMessage nothing = ⊥
IsMessage notes = ⊥
IsMessage (message κ k) = Unit

-- ---- what is recorded

-- The kinds that a receiver records.
abbrev pub Answer : Kind → Type 0
Answer κ = by_kind ⊥ Unit Unit ⊥ ⊥ Unit ⊥ ⊥ ⊥ κ

-- The record x with a Yes, No or Ack of `from` recorded.
abbrev pub more : Kind → Kind → ℕ → ℕ → ℕ
more κ c m from = cond (eqb (number κ) (number c)) (with_site m from) m

abbrev pub hearing : Kind → Record → ℕ → Record
hearing κ x from = with_acked (with_no (with_yes x (more κ Yes x.yes from)) (more κ No x.no from)) (more κ Ack x.acked from)

more_cases : (κ c : Kind) (m from i : ℕ) → In (more κ c m from) i → In m i ⊎ ((κ ≡ c) × (i ≡ from))
more_cases κ c m from i h = go (eqb (number κ) (number c)) refl h
  where
    go : (b : Bool) → eqb (number κ) (number c) ≡ b → In (cond b (with_site m from) m) i → In m i ⊎ ((κ ≡ c) × (i ≡ from))
    go true e h = ⊎_elim (λ y. inl y) (λ y. inr (same_kind κ c (eqb-true _ _ e), y)) (with_in m from i h)
    go false e h = inl h

more_kept : (κ c : Kind) (m from i : ℕ) → In m i → In (more κ c m from) i
more_kept κ c m from i h = go (eqb (number κ) (number c))
  where
    go : (b : Bool) → In (cond b (with_site m from) m) i
    go true = in_with m from i h
    go false = h

pub hearing_cases : (κ : Kind) (x : Record) (from : ℕ) (c : Kind) (i : ℕ) → Recorded c (hearing κ x from) i → Recorded c x i ⊎ ((κ ≡ c) × (i ≡ from))
hearing_cases κ x from c i =
    by_recorded (λ c. Recorded c x i ⊎ ((κ ≡ c) × (i ≡ from))) (hearing κ x from) i (more_cases κ Yes x.yes from i) (more_cases κ No x.no from i) (more_cases κ Ack x.acked from i) c

pub hearing_kept : (κ : Kind) (x : Record) (from : ℕ) (c : Kind) (i : ℕ) → Recorded c x i → Recorded c (hearing κ x from) i
hearing_kept κ x from c i =
    by_recorded (λ c. Recorded c (hearing κ x from) i) x i (more_kept κ Yes x.yes from i) (more_kept κ No x.no from i) (more_kept κ Ack x.acked from i) c

pub hearing_new : (κ : Kind) (x : Record) (from : ℕ) → Site from → Answer κ → Recorded κ (hearing κ x from) from
hearing_new Yes x from at o = in_with_new x.yes from from at refl
hearing_new No x from at o = in_with_new x.no from from at refl
hearing_new Ack x from at o = in_with_new x.acked from from at refl
hearing_new Start x from at o = o
hearing_new MoveP x from at o = o
hearing_new MoveW x from at o = o
hearing_new Commit x from at o = o
hearing_new Abort x from at o = o
hearing_new Prepare x from at o = o
