-- Every run from fresh: what the invariant, the potential and the dues say of it.
-- Assumes nothing.
use Prim.Native.Nat.{ℕ, ◌≤◌}
use mathlib.Core.Bool.{true, false}
use mathlib.Core.List.{List, ◌++◌}
use mathlib.Core.Path.{◌≡◌, sym, ap, subst, ◌∙◌}
use mathlib.Core.Logic.{◌≢◌, ◌⊎◌, inl, inr, ⊎_elim}
use Rattle.refusal.specs.declared.Refusal.TheVariants.{Conflict}
use Rattle.site.specs.declared.State.{State}
use Rattle.site.specs.declared.State.TheVariants.{A, C}
use Rattle.site.specs.declared.Outcome.TheVariants.{Refused}
use Rattle.run.specs.declared.Run.{Run}
use Rattle.run.specs.declared.Event.{Event}
use Rattle.run.specs.Run.{state_of, has_stopped}
use Rattle.run.specs.Event.{fresh_of, event_of}
use Rattle.promise.proofs.RunViews.{record_in, record_at}
use Rattle.promise.proofs.RunAfter.{told_keeps, after_on}
use Rattle.promise.proofs.View.{seen}
use Rattle.promise.specs.Words.{IsSite, IsStop, reached, Accepts, Voted}
use Rattle.promise.proofs.Keeping.{Upheld, With, at_peace}
use Rattle.promise.proofs.Fresh.{nothing, sites_after, held_after}
use Rattle.promise.proofs.Stuck.{decided_after}
use Rattle.run.specs.After.{Tale, after}
use Rattle.run.proofs.RunLaws.{frame, abort_stays, commit_stays}
use Rattle.run.proofs.GoodRuns.{IsGood, after_good}

-- the state of a site, as the invariant sees it
state_of_lem : (r : Run) (i : ℕ) → 1 ≤ i → (record_in r.sites i).state ≡ state_of r i
unfolding state_of
state_of_lem r i h = ap (λ s. s.state) (record_at r i h)

module _ (n : ℕ) (least : 2 ≤ n) (most : n ≤ 8) (es : List Event) where
  abbrev r : Run
  r = reached n es

  abbrev votes : ℕ → Type 0
  votes = With nothing (Voted (fresh_of n).run es)

  held : Upheld votes r
  held = held_after n least most es

  -- a site's state, for the invariant
  in_state_lem : (i : ℕ) (s : State) → IsSite n i → state_of r i ≡ s → (record_in r.sites i).state ≡ s
  in_state_lem i s p e = state_of_lem r i p.0 ∙ e

  pub agree : (i j : ℕ) → IsSite n i → IsSite n j → state_of r i ≡ C → state_of r j ≡ A → ⊥
  agree i j p q c a = (held.inv.aborted (seen j (rw (in_state_lem j A q a) tt))).decided.apart (seen i (rw (in_state_lem i C p c) tt))

  -- what every event of a good run keeps holds after further events
  further : (M : Run → Type 0) → ((r : Run) (e : Event) → IsGood r → M r → M (event_of r e).run) → (fs : List Event) → M r → M (reached n (es ++ fs))
  further M f fs m = subst (λ (t : Tale). M t.run) (sym (after_on n es fs)) (told_keeps M f (after n es) fs (after_good n es least most) m)

  pub committed : (fs : List Event) (i : ℕ) → state_of r i ≡ C → state_of (reached n (es ++ fs)) i ≡ C
  committed fs i = further (λ (r : Run). state_of r i ≡ C) (λ r e g. commit_stays r e i) fs

  pub aborted : (fs : List Event) (i : ℕ) → state_of r i ≡ A → state_of (reached n (es ++ fs)) i ≡ A
  aborted fs i = further (λ (r : Run). state_of r i ≡ A) (λ r e g. abort_stays r e i) fs

  pub halted : (fs : List Event) (i : ℕ) → has_stopped r i ≡ true → has_stopped (reached n (es ++ fs)) i ≡ true
  halted fs i = further (λ (r : Run). has_stopped r i ≡ true) (λ r e g. (frame r e g.bytes.shape).stopped i) fs

  pub vote : (i : ℕ) → IsSite n i → state_of r i ≡ C → (j : ℕ) → IsSite n j → Voted (fresh_of n).run es j
  vote i p c j q =
      ⊎_elim (λ x. absurd x) (λ x. x)
      (held.inv.prepared (seen i (rw (in_state_lem i C p c) tt)) j q.0 (rw (sites_after n least most es) q.1))

  pub peace : (e : Event) → (event_of r e).outcome ≢ Refused Conflict
  peace e = at_peace votes r held e

  pub decide : ((e : Event) → Accepts r e → IsStop e) → (i : ℕ) → IsSite n i → has_stopped r i ≡ false → (state_of r i ≡ C) ⊎ (state_of r i ≡ A)
  unfolding has_stopped
  decide h i p u =
      ⊎_elim (λ c. inl (sym (state_of_lem r i p.0) ∙ c)) (λ a. inr (sym (state_of_lem r i p.0) ∙ a))
      (decided_after n least most es h i (record { least = p.0; most = rw (sites_after n least most es) p.1; up = u }))
