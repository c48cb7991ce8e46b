-- What a step writes, message by message: its receivers, its kind, its ends.
-- Assumes nothing.
use Prim.Native.Nat.{ℕ, ◌-◌, ◌≤◌, ◌<◌}
use mathlib.Core.Bool.{Bool, true, false, cond, not, ◌&&◌, ◌||◌, true≢false}
use mathlib.Core.Path.{◌≡◌, refl, sym, ap, subst, ◌∙◌}
use mathlib.Core.Logic.{⊎_elim}
use native.Mathlib.Omega.{arith}
use native.Mathlib.Decide.{dec_lt}
use lib.Dec.{eqb, leb, ltb, lit≤}
use borrow.Author.Tests.{lt-ltb, ltb-true, le-leb, leb-true, ne_eqb, eqb-true, eqb-false}
use Rattle.sets.specs.Sets.{is_site, has, subset, below_of}
use Rattle.sets.proofs.SetLaws.{is_site_lem, site_is, has_site, has_none, has_weight, has_minus, has_others, has_below, subset_has, subset_of}
use Rattle.sets.proofs.Truths.{and_l, and_r, not_e, clash}
use Rattle.sets.proofs.SubsetLaws.{all_lt}
use Rattle.refusal.specs.declared.Refusal.{Refusal}
use Rattle.refusal.specs.declared.Refusal.TheVariants.{NotSound, NotAllowed}
use Rattle.site.specs.declared.State.{State}
use Rattle.site.specs.declared.State.TheVariants.{P, A, C}
use Rattle.site.specs.declared.Site.{Site}
use Rattle.site.specs.declared.Step.{Step}
use Rattle.site.specs.declared.Step.TheVariants.{Conclude}
use Rattle.site.specs.declared.Outcome.TheVariants.{Taken, Refused}
use Rattle.site.specs.declared.Done.{Done}
use Rattle.site.specs.Site.{sound_of, to_all, in_state, is_p, polls, collects, awaited_of, refused, taken}
use Rattle.site.specs.First.{tally_of}
use Rattle.site.specs.Leader.{settle_of}
use Rattle.site.specs.Step.{conclude_of, done_of, answered, step_of}
use Rattle.site.proofs.SiteFacts.{others, SoundSite, lower_known, Ends, Outward, Back, Wrote, Did, Other, is_answer, Message}
use Rattle.site.proofs.SiteFacts.Ends.{start, yes as ends_yes, no as ends_no, move_p, move_w, ack, commit, abort}
use Rattle.site.proofs.SiteFacts.Outward.{starts, moves_p, moves_w, commits, aborts}
use Rattle.site.proofs.SiteFacts.Back.{says_yes, says_no, acks}
use Rattle.site.proofs.SiteFacts.Wrote.{nothing, to_all_lem, to_one}
use Rattle.site.proofs.SiteFacts.Did.{refuses, passes, takes}
use Rattle.site.proofs.SiteSteps.{did}

-- ---- other sites, lower sites

-- the others are the other sites of the run
pub other_parts : (s : Site) (j : ℕ) → has (others s) j ≡ true → Other s j
other_parts s j h =
    record {
      first = (has_site (others s) j h).least;
      last = leb-true j s.n (and_r (is_site j) (leb j s.n) both);
      apart = eqb-false j s.number (not_e (eqb j s.number) (and_r (is_site j && leb j s.n) (not (eqb j s.number)) split));
    }
  where
    split : (is_site j && leb j s.n && not (eqb j s.number)) ≡ true
    split = sym (has_others s.n s.number j) ∙ h

    both : (is_site j && leb j s.n) ≡ true
    both = and_l (is_site j && leb j s.n) (not (eqb j s.number)) split

pub parts_other : (s : Site) (j : ℕ) → SoundSite s → Other s j → has (others s) j ≡ true
parts_other s j g o =
    has_others s.n s.number j
    ∙ simp (site_is j o.first (omega (arith, o.last, g.most)), le-leb j s.n o.last, ne_eqb j s.number o.apart)

-- every lower site is known stopped: site by site
pub lower_known_lem : (s : Site) → SoundSite s → lower_known s ≡ true → (j : ℕ) → 1 ≤ j → j < s.number → has s.known j ≡ true
unfolding lower_known
lower_known_lem s g l j f h =
    subset_has (below_of s.number) s.known j l
    (has_below s.number j ∙ simp (site_is j f (omega (arith, g.last, g.most)), lt-ltb j s.number h))

pub known_lower : (s : Site) → ((j : ℕ) → 1 ≤ j → j < s.number → has s.known j ≡ true) → lower_known s ≡ true
unfolding lower_known below_of
known_lower s f = subset_of (below_of s.number) s.known (all_lt (s.number - 1)) (λ j h. go j (sym (has_below s.number j) ∙ h))
  where
    go : (j : ℕ) → (is_site j && ltb j s.number) ≡ true → has s.known j ≡ true
    go j h = f j (is_site_lem j (and_l (is_site j) (ltb j s.number) h)).least (ltb-true j s.number (and_r (is_site j) (ltb j s.number) h))

-- ---- what was written

-- what a step of a sound record may have written; nothing if it is refused or passed over
pub written_as : (s : Site) (t : Step) → Wrote s t (done_of s t).kind (done_of s t).to
written_as s t = go (did s t)
  where
    go : {d : Done} → Did s t d → Wrote s t d.kind d.to
    go (refuses g) = nothing
    go (passes f h) = nothing
    go (takes f c w) = w

pub out_kind : {s : Site} {k : ℕ} → Outward s k → (1 ≤ k) × (k ≤ 8)
out_kind (starts e) = (lit≤ tt, lit≤ tt)
out_kind moves_p = (lit≤ tt, lit≤ tt)
out_kind moves_w = (lit≤ tt, lit≤ tt)
out_kind commits = (lit≤ tt, lit≤ tt)
out_kind aborts = (lit≤ tt, lit≤ tt)

out_order : {s : Site} {k : ℕ} → Outward s k → is_answer k ≡ false
out_order (starts e) = refl
out_order moves_p = refl
out_order moves_w = refl
out_order commits = refl
out_order aborts = refl

pub back_kind : {s : Site} {t : Step} {k i : ℕ} → Back s t k i → k ≤ 8
back_kind (says_yes d l) = lit≤ tt
back_kind (says_no d l) = lit≤ tt
back_kind (acks d f l) = lit≤ tt

module _ (s : Site) (t : Step) (j : ℕ) (g : SoundSite s) where
  -- a receiver of what goes to all
  all_parts : has (to_all s) j ≡ true → (has (others s) j ≡ true) × (has s.known j ≡ false)
  unfolding to_all
  all_parts h =
      let e : (has (others s) j && not (has s.known j)) ≡ true = sym (has_minus (others s) s.known j) ∙ h in
      (and_l (has (others s) j) (not (has s.known j)) e, not_e (has s.known j) (and_r (has (others s) j) (not (has s.known j)) e))

  -- it is a higher site where all lower ones are known stopped
  higher : has (to_all s) j ≡ true → lower_known s ≡ true → s.number < j
  higher h l = go (dec_lt s.number j)
    where
      o : Other s j
      o = other_parts s j (all_parts h).0

      go : Dec (s.number < j) → s.number < j
      go (yes x) = x
      go (no x) = absurd (clash (lower_known_lem s g l j o.first (omega (arith, o.apart))) (all_parts h).1)

  out_ends : {k : ℕ} → Outward s k → s.number < j → Ends k s.number j
  out_ends (starts e) l = rw e (start {to = j} (omega arith))
  out_ends moves_p l = move_p l
  out_ends moves_w l = move_w l
  out_ends commits l = commit l
  out_ends aborts l = abort l

  below : (i : ℕ) → 1 ≤ i → i < s.number → j ≡ i → has (others s) j ≡ true
  below i f l e = parts_other s j g (record { first = omega arith; last = omega (arith, g.last); apart = omega arith })

  back_message : {k i : ℕ} → Back s t k i → j ≡ i → Message s t k j
  back_message (says_yes d l) e =
      record { other = below 1 (lit≤ tt) l e; unknown = λ x. absurd (true≢false x); sender = λ x. rw e d; ends = λ x. rw e (ends_yes l); least = lit≤ tt; most = lit≤ tt }
  back_message (says_no d l) e =
      record { other = below 1 (lit≤ tt) l e; unknown = λ x. absurd (true≢false x); sender = λ x. rw e d; ends = λ x. rw e (ends_no l); least = lit≤ tt; most = lit≤ tt }
  back_message (acks {from} d f l) e =
      record { other = below from f l e; unknown = λ x. absurd (true≢false x); sender = λ x. rw e d; ends = λ x. rw e (ack l); least = lit≤ tt; most = lit≤ tt }

  wrote_message : {k m : ℕ} → Wrote s t k m → has m j ≡ true → Message s t k j
  wrote_message nothing h = absurd (clash h (has_none j))
  wrote_message (to_all_lem o l) h =
      record {
        other = (all_parts h).0;
        unknown = λ x. (all_parts h).1;
        sender = λ x. absurd (clash x (out_order o));
        ends = λ x. out_ends o (higher h (⊎_elim (λ y. y) x l));
        least = (out_kind o).0;
        most = (out_kind o).1;
      }
  wrote_message (to_one {j = i} b) h = back_message b (eqb-true j i (and_r (is_site j) (eqb j i) (sym (has_weight i j) ∙ h)))

-- where somebody is written to, the kind is the rule's
pub kind_of_lem : (s : Site) (t : Step) (j : ℕ) → has (step_of s t).to j ≡ true → (step_of s t).kind ≡ (done_of s t).kind
unfolding step_of answered
kind_of_lem s t j h = rw (ne_eqb (done_of s t).to 0 (λ e. clash h (ap (λ (y : ℕ). has y j) e ∙ has_none j))) refl

-- each receiver's message
pub message : (s : Site) (t : Step) (j : ℕ) → has (step_of s t).to j ≡ true → Message s t (step_of s t).kind j
unfolding step_of answered
message s t j h = subst (λ (k : ℕ). Message s t k j) (sym (kind_of_lem s t j h)) (go (did s t) h)
  where
    go : {d : Done} → Did s t d → has d.to j ≡ true → Message s t d.kind j
    go (refuses g) h = absurd (clash h (has_none j))
    go (passes f x) h = absurd (clash h (has_none j))
    go (takes f c w) h = wrote_message s t j f.sound w h

-- a taken Conclude writes to all
pub record Concluded (s : Site) (d : Done) : Type 0 where
  pub sound : sound_of s ≡ true
  pub to : d.to ≡ to_all s
  pub kind : Outward s d.kind

pub concluded : (s : Site) → (done_of s Conclude).outcome ≡ Taken → Concluded s (done_of s Conclude)
unfolding done_of conclude_of tally_of settle_of
concluded s =
    go (sound_of s) (polls s) (not (eqb s.no 0) || not (subset s.known s.yes)) (subset (others s) s.yes)
    (collects s && eqb (awaited_of s) 0) (is_p s.state) refl
  where
    wrote : (q : State) {k : ℕ} → sound_of s ≡ true → Outward s k → Concluded s (taken (in_state s q) k (to_all s))
    wrote q e o = record { sound = e; to = refl; kind = o }

    not_taken : (g : Refusal) → Refused g ≡ Taken → Concluded s (refused s g)
    not_taken g h = cc

    rule : Bool → Bool → Bool → Bool → Bool → Done
    rule b x y z p =
        cond b (cond x (taken (in_state s A) 8 (to_all s)) (cond y (taken (in_state s P) 4 (to_all s)) (refused s NotAllowed)))
        (cond z (cond p (taken (in_state s C) 7 (to_all s)) (taken (in_state s A) 8 (to_all s))) (refused s NotAllowed))

    go : (o b x y z p : Bool) → sound_of s ≡ o → (cond o (rule b x y z p) (refused s NotSound)).outcome ≡ Taken → Concluded s (cond o (rule b x y z p) (refused s NotSound))
    go true true true y z p e h = wrote A e aborts
    go true true false true z p e h = wrote P e moves_p
    go true true false false z p e h = not_taken NotAllowed h
    go true false x y true true e h = wrote C e commits
    go true false x y true false e h = wrote A e aborts
    go true false x y false p e h = not_taken NotAllowed h
    go false b x y z p e h = not_taken NotSound h
