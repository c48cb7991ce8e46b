-- A fresh run has the invariant, and so has every run after events from it.
-- Assumes nothing.
use Prim.Native.Nat.{ℕ, zero, suc, ◌≤◌}
use mathlib.Core.List.{List, [], ◌∷◌}
use mathlib.Core.Path.{◌≡◌, refl, sym, ap, subst, ◌∙◌}
use mathlib.Core.Logic.{◌⊎◌, inl, inr, ⊎_elim}
use native.Mathlib.Omega.{arith}
use Rattle.site.specs.declared.State.{State}
use Rattle.site.specs.declared.State.TheVariants.{Q}
use Rattle.site.specs.declared.Site.{Site as Record}
use Rattle.run.specs.declared.Run.{Run}
use Rattle.run.specs.declared.Event.{Event}
use Rattle.run.specs.Run.{no_site, place, fresh_site, fresh_run}
use Rattle.run.specs.Event.{fresh_of, event_of}
use Rattle.run.specs.After.{Tale, onward, told, opening, after}
use Rattle.run.proofs.RunLaws.{frame}
use Rattle.run.proofs.GoodRuns.{fresh_good, fresh_is, zeros}
use Rattle.promise.proofs.SetsMembers.{in_none}
use Rattle.promise.proofs.RunViews.{record_in, Out}
use Rattle.promise.proofs.Classes.{Kind, Yes, No, Ack, not_both, Central}
use Rattle.promise.proofs.View.{View, Evidence, seen, Inv}
use Rattle.promise.proofs.View as view
use Rattle.promise.proofs.First.{Own}
use Rattle.promise.proofs.Seen.{number, Recorded, by_recorded, view_of}
use Rattle.promise.specs.Words.{Voted, begins, answers, leaves, later}
use Rattle.promise.proofs.RunAfter.{told_keeps}
use Rattle.promise.proofs.Keeping.{Upheld, Now, With, some, keeps, revote}

-- ---- a view in which nothing has happened

module _ (a : View) (first : (i : ℕ) → a.runs i → 1 ≤ i) (state : (i : ℕ) → a.st i ≡ Q) (low : (i : ℕ) → a.ld i ≤ i)
    (silent : (i : ℕ) → a.runs i → a.voted i → ⊥) (still : (κ : Kind) (k j : ℕ) → a.live κ k j → ⊥) where
  no_evidence : {S : State → Type 0} {K : Kind → Type 0} → (S Q → ⊥) → Evidence S K a.st a.live → ⊥
  no_evidence {S} n (seen i x) = n (subst S (state i) x)
  no_evidence n (view.told κ k j c x) = still κ k j x

  quiet_inv : Inv a
  quiet_inv =
      record {
        site = first;
        low = low;
        up = λ κ k j _ x. absurd (still κ k j x);
        down = λ k j x. absurd (still Ack j k x);
        lowest = λ κ k j _ x. absurd (still κ k j x);
        unvoted = λ j r _. silent j r;
        waiting = λ j _ x. absurd (rw (state j) at x);
        yes = λ k j x. absurd (still Yes k j x);
        no = λ k j x. absurd (still No k j x);
        orders = λ κ k j _ x. absurd (still κ k j x);
        leader = λ k j x. absurd (still Ack j k x);
        follower = λ k j x. absurd (still Ack j k x);
        prepared = λ e. absurd (no_evidence (λ x. x) e);
        aborted = λ e. absurd (no_evidence (λ x. x) e);
        committed = λ e. absurd (no_evidence (λ x. x) e);
      }

  quiet_own : a.by ≡ Central → Own a
  quiet_own b = record { central = λ _. record { shut = λ e. absurd (no_evidence (λ x. x) e) }; peers = λ p. absurd (not_both b p) }

-- ---- the fresh run

-- what holds of a new record, and of none, holds of every record of a fresh run
pub each_fresh : (n : ℕ) (M : Record → ℕ → Type 0) → ((i : ℕ) → 1 ≤ i → M (fresh_site n i) i) → ((i : ℕ) → M no_site i) → (i : ℕ) → M (record_in (fresh_run n).sites i) i
each_fresh n M f g zero = g 0
each_fresh n M f g (suc zero) = f 1 (omega arith)
each_fresh n M f g (suc (suc zero)) = f 2 (omega arith)
each_fresh n M f g (suc (suc (suc zero))) = f 3 (omega arith)
each_fresh n M f g (suc (suc (suc (suc zero)))) = f 4 (omega arith)
each_fresh n M f g (suc (suc (suc (suc (suc zero))))) = f 5 (omega arith)
each_fresh n M f g (suc (suc (suc (suc (suc (suc zero)))))) = f 6 (omega arith)
each_fresh n M f g (suc (suc (suc (suc (suc (suc (suc zero))))))) = f 7 (omega arith)
each_fresh n M f g (suc (suc (suc (suc (suc (suc (suc (suc zero)))))))) = f 8 (omega arith)
each_fresh n M f g (suc (suc (suc (suc (suc (suc (suc (suc (suc i))))))))) = g (suc (suc (suc (suc (suc (suc (suc (suc (suc i)))))))))

no_message : (n K k i : ℕ) → Out (fresh_run n).net K k i → ⊥
no_message n K k i x = in_none i (rw (zeros 72 (place K k)) at x)

abbrev pub nothing : ℕ → Type 0
nothing i = ⊥

nothing_recorded : (n : ℕ) (κ : Kind) (k i : ℕ) → Recorded κ (record_in (fresh_run n).sites i) k → ⊥
nothing_recorded n κ k =
    each_fresh n (λ x _. Recorded κ x k → ⊥) (λ i _. by_recorded (λ _. ⊥) (fresh_site n i) k (in_none k) (in_none k) (in_none k) κ) (λ _. by_recorded (λ _. ⊥) no_site k (in_none k) (in_none k) (in_none k) κ)

pub no_live : (n : ℕ) (κ : Kind) (k i : ℕ) → (view_of nothing (fresh_run n)).live κ k i → ⊥
no_live n κ k i = ⊎_elim (no_message n (number κ) k i) (nothing_recorded n κ k i)

fresh_held : (n : ℕ) → Upheld nothing (fresh_run n)
fresh_held n =
    record {
      shape = record { sites = refl; net = refl };
      inv =
          quiet_inv (view_of nothing (fresh_run n)) (λ i r. r.least) (each_fresh n (λ x _. x.state ≡ Q) (λ _ _. refl) (λ _. refl)) (each_fresh n (λ x i. x.leader ≤ i) (λ _ h. h) (λ _. omega arith))
          (λ i r v. v r.least r.most) (no_live n);
      own =
          quiet_own (view_of nothing (fresh_run n)) (λ i r. r.least) (each_fresh n (λ x _. x.state ≡ Q) (λ _ _. refl) (λ _. refl)) (each_fresh n (λ x i. x.leader ≤ i) (λ _ h. h) (λ _. omega arith))
          (λ i r v. v r.least r.most) (no_live n) refl;
    }

-- ---- after events

part : {r : Run} {e : Event} {es : List Event} {j : ℕ} → Voted r (e ∷ es) j → Now r e j ⊎ Voted (event_of r e).run es j
part (begins h) = inl (begins h)
part (answers h) = inl (answers h)
part (leaves h x) = inl (leaves h x)
part (later h) = inr h

whole : {r : Run} {e : Event} {es : List Event} {j : ℕ} → Now r e j → Voted r (e ∷ es) j
whole (begins h) = begins h
whole (answers h) = answers h
whole (leaves h x) = leaves h x
whole (later h) = absurd (some h refl)

pub told_held : (w : ℕ → Type 0) (t : Tale) (es : List Event) → Upheld w t.run → Upheld (With w (Voted t.run es)) (told t es).run
unfolding onward
told_held w t [] h = revote w (With w (Voted t.run [])) t.run (λ i y. inl y) (λ i. ⊎_elim (λ y. y) (λ y. absurd (some y refl))) h
told_held w t (e ∷ es) h =
    revote (With (With w (Now t.run e)) (Voted (event_of t.run e).run es)) (With w (Voted t.run (e ∷ es))) (told (onward t e) es).run
    (λ i. ⊎_elim (⊎_elim (λ y. inl y) (λ y. inr (whole y))) (λ y. inr (later y)))
    (λ i. ⊎_elim (λ y. inl (inl y)) (λ y. ⊎_elim (λ z. inl (inr z)) (λ z. inr z) (part y)))
    (told_held (With w (Now t.run e)) (onward t e) es (keeps w t.run h e))

-- ---- after any events from fresh

module _ (n : ℕ) (least : 2 ≤ n) (most : n ≤ 8) where
  pub start_held : Upheld nothing (fresh_of n).run
  start_held = subst (Upheld nothing) (sym (fresh_is n least most)) (fresh_held n)

  pub sites_after : (es : List Event) → (after n es).run.n ≡ n
  unfolding after opening
  sites_after es = told_keeps (λ (r : Run). r.n ≡ n) (λ r e g h. (frame r e g.bytes.shape).n ∙ h) (opening n) es (rw (fresh_is n least most) (fresh_good n least most)) (ap (λ (r : Run). r.n) (fresh_is n least most))

  pub held_after : (es : List Event) → Upheld (With nothing (Voted (fresh_of n).run es)) (after n es).run
  unfolding after opening
  held_after es = told_held nothing (opening n) es start_held
