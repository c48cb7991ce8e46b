-- What running sites owe one another, in every run from fresh.
-- Assumes nothing.
use Prim.Native.Nat.{ℕ, ◌≤◌}
use mathlib.Core.List.{List, [], ◌∷◌}
use mathlib.Core.Path.{◌≡◌, refl, sym, ap, subst, ◌∙◌}
use mathlib.Core.Logic.{◌≢◌, ◌⊎◌, inl, inr, ⊎_elim}
use native.Mathlib.Omega.{arith}
use lib.ListN.{length, length-map}
use Rattle.sets.specs.Sets.{minus}
use Rattle.site.specs.declared.State.TheVariants.{Q}
use Rattle.site.specs.declared.Step.{Step}
use Rattle.site.specs.declared.Site.{Site as Record}
use Rattle.site.specs.declared.Done.{Done}
use Rattle.run.specs.declared.Run.{Run}
use Rattle.run.specs.declared.Event.{Event}
use Rattle.run.specs.declared.Event.TheVariants.{Act, Stop, Cut}
use Rattle.run.specs.declared.Ran.{Ran}
use Rattle.run.specs.Run.{stopped_at, fresh_run, stopped_in, taken_in}
use Rattle.run.specs.Event.{event_of}
use Rattle.run.specs.After.{Tale, onward, told, opening, after}
use Rattle.promise.proofs.SetsMembers.{In, in_minus, in_with_new}
use Rattle.run.proofs.Views.{Shape}
use Rattle.promise.proofs.RunViews.{record_in, Runs, Out, sent_cases, sent_old, sent_new, taken_old, taken_gone, stopped_old}
use Rattle.run.proofs.Account.{Able, Acting, Accepted, Refuses, fate, actor_most}
use Rattle.run.proofs.Account.Accepted.{acts, stops, cuts}
use Rattle.run.proofs.GoodRuns.{fresh_is}
use Rattle.promise.proofs.RunEvents.{running, stop_run}
use Rattle.promise.proofs.Classes.{Kind, Start, Yes, No, MoveP, MoveW, Ack, Commit, Abort, Prepare, not_both}
use Rattle.promise.proofs.Does.{message}
use Rattle.promise.proofs.Owed.{After}
use Rattle.promise.proofs.Owes.{Owes, owes_stopped, owes_step}
use Rattle.promise.proofs.Become.{by_site}
use Rattle.promise.proofs.Seen.{number, Recorded, view_of, still_runs, stopped_view}
use Rattle.promise.proofs.Brings.{Delivers}
use Rattle.promise.proofs.Keeping.{Upheld, lessened, by_delivery, lessened_len, done_at, kind_at, whole_at, leaving, part_at, known, whole_less, part_less, Now, With, keeps}
use Rattle.promise.proofs.Fresh.{nothing, each_fresh, no_live, start_held}

-- a message stays where it is, or is the one delivered
delivered_old : (r : Run) (s : ℕ) (t : Step) → Shape r → (C k i : ℕ) → Out r.net C k i → Out (lessened r s t) C k i ⊎ ((i ≡ s) × Delivers t C k)
delivered_old r s t h =
    by_delivery (λ net D. (C k i : ℕ) → Out r.net C k i → Out net C k i ⊎ ((i ≡ s) × D C k)) r s t h (λ C k i x. inl x)
    (λ c f C k i x. ⊎_elim (λ y. inl y) (λ y. inr (y.2, (y.0, y.1))) (taken_old r.net c f s h.net C k i x))

-- the one delivered is gone
delivered_gone : (r : Run) (s : ℕ) (t : Step) → Shape r → (C k : ℕ) → Delivers t C k → Out (lessened r s t) C k s → ⊥
delivered_gone r s t h =
    by_delivery (λ net D. (C k : ℕ) → D C k → Out net C k s → ⊥) r s t h (λ C k d x. d)
    (λ c f C k d x. taken_gone r.net c f s h.net (subst (λ (k : ℕ). Out (taken_in r.net c f s) c k s) (sym d.1) (subst (λ (C : ℕ). Out (taken_in r.net c f s) C k s) (sym d.0) x)))

kind_in_lem : (κ : Kind) → (1 ≤ number κ) × (number κ ≤ 9)
kind_in_lem Start = (omega arith, omega arith)
kind_in_lem Yes = (omega arith, omega arith)
kind_in_lem No = (omega arith, omega arith)
kind_in_lem MoveP = (omega arith, omega arith)
kind_in_lem MoveW = (omega arith, omega arith)
kind_in_lem Ack = (omega arith, omega arith)
kind_in_lem Commit = (omega arith, omega arith)
kind_in_lem Abort = (omega arith, omega arith)
kind_in_lem Prepare = (omega arith, omega arith)

-- ---- a step of site s

module _ (w : ℕ → Type 0) (r : Run) (h : Upheld w r) (s : ℕ) (t : Step) (al : Acting r s t) where
  open known w r h s t al use {most, seen as y, kinds, whole_run_lem, part_run_lem, place, new, still}

  abbrev d : Done
  d = done_at r s t

  abbrev q : Run
  q = whole_at r s t

  abbrev net : List ℕ
  net = lessened r s t

  len : length net ≡ 72
  len = lessened_len r s t h.shape

  -- what the new record of s holds is live
  recorded : (c : Kind) (k : ℕ) → Recorded c d.site k → (view_of w q).live c k s
  recorded c k x = inr (subst (λ (a : Record). Recorded c a k) (sym new) x)

  stay : (c : Kind) (k i : ℕ) → (view_of w r).live c k i → (view_of w q).live c k i ⊎ ((i ≡ s) × (y.uses ≡ message c k))
  stay c k i (inl x) = ⊎_elim (λ z. inl (inl (sent_old net (kind_at r s t) s (minus d.to r.stopped) len (number c) k i z))) used (delivered_old r s t h.shape (number c) k i x)
    where
      used : (i ≡ s) × Delivers t (number c) k → (view_of w q).live c k i ⊎ ((i ≡ s) × (y.uses ≡ message c k))
      used z = ⊎_elim (λ u. inr (z.0, u)) (λ u. inl (subst (λ (i : ℕ). (view_of w q).live c k i) (sym z.0) (recorded c k u))) (y.spends.used c k z.1)
  stay c k i (inr x) =
      inl (by_site (λ i. Recorded c (record_in r.sites i) k → (view_of w q).live c k i) s (λ x. recorded c k (y.holds.kept c k (subst (λ (a : Record). Recorded c a k) place.here x)))
      (λ i ne x. inr (subst (λ (a : Record). Recorded c a k) (sym (still i ne)) x)) i x)

  come : (i : ℕ) → Runs q i → In d.to i → (view_of w q).live y.κ s i
  come i x z =
      let e : kind_at r s t ≡ number y.κ = kinds i z in
      let n = kind_in_lem y.κ in
      inl (subst (λ (C : ℕ). Out q.net C s i) e
      (sent_new net (kind_at r s t) s (minus d.to r.stopped) len
      (record { least = rw e n.0; most = rw e n.1; first = (running al.able).least; last = most }) i (in_minus d.to r.stopped i z x.up)))

  gone : (k : ℕ) → k ≢ s → y.uses ≡ message Start k → (view_of w q).live Start k s → ⊥
  gone k ne u (inl x) =
      ⊎_elim (delivered_gone r s t h.shape 1 k (y.spends.brought Start k u)) (λ z. ne (sym z.1)) (sent_cases net (kind_at r s t) s (minus d.to r.stopped) len 1 k s x)
  gone k ne u (inr x) = x

  after_whole : After (view_of w r) (view_of w q) s (λ i. In d.to i) d.site.state d.site.leader y.κ y.uses
  after_whole =
      record {
        by = refl;
        runs = λ i x. record { least = x.least; most = x.most; up = x.up };
        stopped = λ i x. x;
        st = ap (λ (a : Record). a.state) new;
        ld = ap (λ (a : Record). a.leader) new;
        st_other = λ i ne. ap (λ (a : Record). a.state) (still i ne);
        ld_other = λ i ne. ap (λ (a : Record). a.leader) (still i ne);
        stay = stay;
        come = come;
        only = λ c k i x. (whole_less w r h s t al w).live c k i x;
        gone = gone;
      }

  pub whole_owed : Owes (view_of w r) → Owes (view_of w (event_of r (Act s t)).run)
  whole_owed o =
      subst (λ (a : Run). Owes (view_of w a)) (sym whole_run_lem)
      (owes_step (view_of w r) (view_of w q) s (λ i. In d.to i) h.inv (running al.able) d.site.state d.site.leader y.κ y.uses after_whole y.act o)

  pub part_owed : (x : ℕ) → Owes (view_of w r) → Owes (view_of w (event_of r (Cut s t x)).run)
  part_owed x o =
      subst (λ (a : Run). Owes (view_of w a)) (sym (part_run_lem x))
      (owes_stopped (view_of w r) (view_of w (part_at r s t x)) s
      (record {
        by = refl;
        runs = λ i. still_runs r s most i (part_at r s t x).net;
        stopped = in_with_new r.stopped s s (record { least = (running al.able).least; most = most }) refl;
        st = λ i. refl;
        ld = λ i. refl;
        stay = λ c k i ne. ⊎_elim (λ z. inl (sent_old (stopped_in r.net s) (kind_at r s t) s (leaving r s t x) (length-map r.net _ ∙ h.shape.net) (number c) k i (stopped_old r.net s (number c) k i z ne))) (λ z. inr z);
        only = λ k i ne z. ⊎_elim (λ u. u) (λ u. absurd (ne (sym u.1))) ((part_less w r h s t al w x).live Start k i z);
      }) o)

-- ---- every event

-- votes have no part in what is owed
pub owed_votes : (w w' : ℕ → Type 0) (r : Run) → Owes (view_of w r) → Owes (view_of w' r)
owed_votes w w' r o =
    record {
      shared = record { below = o.shared.below; left = o.shared.left; due = o.shared.due };
      central = λ e. record { asks = (o.central e).asks };
      peers = λ e. absurd (not_both refl e);
    }

module _ (w : ℕ → Type 0) (r : Run) (h : Upheld w r) (o : Owes (view_of w r)) where
  stop_owed : (s : ℕ) → Able r s → Owes (view_of w (event_of r (Stop s)).run)
  stop_owed s n =
      subst (λ (a : Run). Owes (view_of w a)) (sym (stop_run h.shape n))
      (owes_stopped (view_of w r) (view_of w (stopped_at r s)) s
      (record {
        by = refl;
        stopped = unfold stopped_at in in_with_new r.stopped s s (record { least = (running n).least; most = actor_most n }) refl;
        runs = (stopped_view r s (actor_most n) w w).runs;
        st = λ i. unfold stopped_at in refl;
        ld = λ i. unfold stopped_at in refl;
        stay = λ c k i ne. unfold stopped_at in ⊎_elim (λ z. inl (stopped_old r.net s (number c) k i z ne)) (λ z. inr z);
        only = λ k i ne. (stopped_view r s (actor_most n) w w).live Start k i;
      }) o)

  pub event_owed : (e : Event) → Owes (view_of w (event_of r e).run)
  event_owed e = ⊎_elim go (λ (n : Refuses r e). subst (λ (a : Ran). Owes (view_of w a.run)) (sym n.unchanged) o) (fate r e)
    where
      go : {e : Event} → Accepted r e → Owes (view_of w (event_of r e).run)
      go (acts {s} {t} al) = whole_owed w r h s t al o
      go (cuts {s} {t} {x = x} al) = part_owed w r h s t al x o
      go (stops {s} n) = stop_owed s n

pub told_owed : (w : ℕ → Type 0) (t : Tale) (es : List Event) → Upheld w t.run → Owes (view_of w t.run) → Owes (view_of w (told t es).run)
unfolding onward
told_owed w t [] h o = o
told_owed w t (e ∷ es) h o =
    owed_votes (With w (Now t.run e)) w (told (onward t e) es).run
    (told_owed (With w (Now t.run e)) (onward t e) es (keeps w t.run h e) (owed_votes w (With w (Now t.run e)) (event_of t.run e).run (event_owed w t.run h o e)))

-- ---- from fresh

pub fresh_owed : (n : ℕ) → Owes (view_of nothing (fresh_run n))
fresh_owed n =
    record {
      shared =
          record {
            below = λ j i l x. absurd (omega (arith, follows j, x.least));
            left = λ k x e q. e.1 (omega (arith, follows k, x.least, e.0), rw (in_q k) tt);
            due = λ k j x y ne. record { moved = λ _ w. absurd (rw (in_q k) at w); aborts = λ _ w. absurd (rw (in_q k) at w); commits = λ _ w. absurd (rw (in_q k) at w) };
          };
      central = λ _.
          record {
            asks = λ k j x y ne.
                record {
                  asked = λ _ w. absurd (rw (in_q k) at w);
                  unasked = λ _ _. rw (in_q j) tt;
                  asking = λ _ w. absurd (rw (in_q k) at w);
                  begun = λ _ z. absurd (no_live n Start k j z);
                };
          };
      peers = λ e. absurd (not_both refl e);
    }
  where
    in_q : (i : ℕ) → (record_in (fresh_run n).sites i).state ≡ Q
    in_q = each_fresh n (λ x _. x.state ≡ Q) (λ _ _. refl) (λ _. refl)

    follows : (i : ℕ) → (record_in (fresh_run n).sites i).leader ≤ 1
    follows = each_fresh n (λ x _. x.leader ≤ 1) (λ _ _. omega arith) (λ _. omega arith)

pub owed_after : (n : ℕ) → 2 ≤ n → n ≤ 8 → (es : List Event) → Owes (view_of nothing (after n es).run)
unfolding after opening
owed_after n p q es =
    told_owed nothing (opening n) es (start_held n p q) (subst (λ (r : Run). Owes (view_of nothing r)) (sym (fresh_is n p q)) (fresh_owed n))
