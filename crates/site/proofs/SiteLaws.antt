-- Theorems about the site step, for every record and every step.
-- Assumes nothing.
use Prim.Native.Nat.{ℕ, zero, suc, ◌/◌, ◌^◌, ◌≤◌, ◌<◌}
use mathlib.Core.Bool.{Bool, true, false, cond, ◌&&◌, false≢true}
use mathlib.Core.Path.{◌≡◌, refl, sym, ap, subst, ◌∙◌}
use mathlib.Core.Logic.{◌⊎◌, inl, inr, ⊎_elim, ◌↔◌}
use native.Mathlib.Nat.{pow-suc}
use native.Mathlib.Omega.{arith}
use lib.Dec.{eqb, ltb, lit<, lit≤}
use lib.Arith.{lt-one}
use lib.Count.{ones, ones_step}
use borrow.Author.Tests.{ltb-true}
use Rattle.sets.specs.Sets.{is_site, has, subset, minus, union, count_of, lowest_of}
use Rattle.sets.proofs.SetLaws.{has_minus, has_with, members, count_is, lowest_is}
use Rattle.sets.proofs.Truths.{and_r, or_l, fails, either}
use Rattle.sets.proofs.SubsetLaws.{others_lt, minus_lt, weight_lt, with_within, subset_none, nobody, count_none}
use Rattle.refusal.specs.declared.Refusal.{Refusal}
use Rattle.refusal.specs.declared.Refusal.TheVariants.{NotSound, WrongNames}
use Rattle.refusal.specs.Refusals.{refusal_number}
use Rattle.site.specs.declared.State.{State}
use Rattle.site.specs.declared.State.TheVariants.{Q, W, P, A, C}
use Rattle.site.specs.declared.Site.{Site}
use Rattle.site.specs.declared.Step.{Step}
use Rattle.site.specs.declared.Step.TheVariants.{Conclude}
use Rattle.site.specs.declared.Outcome.TheVariants.{Taken, Passed, Refused}
use Rattle.site.specs.declared.Done.{Done}
use Rattle.site.specs.declared.Answer.{Answer}
use Rattle.site.specs.Site.{sound_of, ends_of, to_all, names_of, following, polls, collects, awaited_of}
use Rattle.site.specs.Step.{done_of, counts_of, answered, step_of, refusal}
use Rattle.site.proofs.SiteFacts.{others, SoundSite, lower_known, Moves, Follows, Grows, Change, Outward, Concludes, Wrote, Ground, Did, Other, is_answer, Sends}
use Rattle.site.proofs.SiteFacts.Moves.{stays, q_w, q_a, w_p, w_a, p_w, p_c}
use Rattle.site.proofs.SiteFacts.Follows.{same, obeys, itself}
use Rattle.site.proofs.SiteFacts.Grows.{kept, gained}
use Rattle.site.proofs.SiteFacts.Outward.{starts, moves_p, moves_w, commits, aborts}
use Rattle.site.proofs.SiteFacts.Wrote.{nothing, to_all_lem, to_one}
use Rattle.site.proofs.SiteFacts.Ground.{not_sound, wrong_names, not_allowed, in_conflict}
use Rattle.site.proofs.SiteFacts.Did.{refuses, passes, takes}
use Rattle.site.proofs.SiteSteps.{sound_parts, parts_sound, parts_ends, did}
use Rattle.site.proofs.SiteMessages.{other_parts, parts_other, known_lower, written_as, out_kind, back_kind, kind_of_lem, message, Concluded, concluded}

-- ---- the record afterwards

follows_only : (s : Site) (t : Step) (l : ℕ) → Follows s l → Change s t (following s l)
follows_only s t l h =
    record { n = refl; number = refl; state = stays; leader = h; known = kept; yes = kept; no = kept; acked = inl kept }

changed : {s : Site} {t : Step} {d : Done} → Did s t d → Change s t d.site
changed {s} {t} (refuses g) = follows_only s t s.leader same
changed {s} {t} (passes f {l} h) = follows_only s t l h
changed (takes f c w) = c

-- whatever the record and the step, the record changes only as Change allows
pub step_changes : (s : Site) (t : Step) → Change s t (step_of s t).site
unfolding step_of answered
step_changes s t = changed (did s t)

-- abort and commit are final
abbrev pub is_final : State → Bool
is_final Q = false
is_final W = false
is_final P = false
is_final A = true
is_final C = true

pub final_stays : {p q : State} → Moves p q → is_final p ≡ true → q ≡ p
final_stays stays e = refl
final_stays q_w e = absurd (false≢true e)
final_stays q_a e = absurd (false≢true e)
final_stays w_p e = absurd (false≢true e)
final_stays w_a e = absurd (false≢true e)
final_stays p_w e = absurd (false≢true e)
final_stays p_c e = absurd (false≢true e)

-- a step never leaves a or c
pub abort_kept : (s : Site) (t : Step) → s.state ≡ A → (step_of s t).site.state ≡ A
abort_kept s t e = final_stays (step_changes s t).state (rw e refl) ∙ e

pub commit_kept : (s : Site) (t : Step) → s.state ≡ C → (step_of s t).site.state ≡ C
commit_kept s t e = final_stays (step_changes s t).state (rw e refl) ∙ e

-- a site keeps its number and the number of sites
pub n_kept : (s : Site) (t : Step) → (step_of s t).site.n ≡ s.n
n_kept s t = (step_changes s t).n

pub number_kept : (s : Site) (t : Step) → (step_of s t).site.number ≡ s.number
number_kept s t = (step_changes s t).number

-- a set of other sites stays one
grows_within : {s : Site} {t : Step} {bring : ℕ → Step} {m w : ℕ} → Grows s t bring m w → subset m (others s) ≡ true → subset w (others s) ≡ true
grows_within kept e = e
grows_within {s} {m = m} (gained j b h) e = with_within m j (others s) (others_lt s.n s.number) e h

-- and keeps its members
pub grows_has : {s : Site} {t : Step} {bring : ℕ → Step} {m w : ℕ} → Grows s t bring m w → (i : ℕ) → has m i ≡ true → has w i ≡ true
grows_has kept i e = e
grows_has {m = m} (gained j b h) i e = has_with m j i ∙ or_l (has m i) (is_site i && eqb i j) e

follows_led : {s : Site} {l : ℕ} → Follows s l → SoundSite s → (1 ≤ l) × (l ≤ s.number)
follows_led same g = (g.led, g.leader)
follows_led (obeys l h) g = (omega (arith, g.led), omega arith)
follows_led (itself l k) g = (g.first, omega arith)

-- a sound record that changes so is sound
pub change_sound : {s x : Site} {t : Step} → Change s t x → SoundSite s → SoundSite x
change_sound {s} c g =
    record {
      least = rw c.n g.least;
      most = rw c.n g.most;
      first = rw c.number g.first;
      last = rw (c.n, c.number) g.last;
      led = (follows_led c.leader g).0;
      leader = rw c.number (follows_led c.leader g).1;
      known = rw (c.n, c.number) (grows_within c.known g.known);
      yes = rw (c.n, c.number) (grows_within c.yes g.yes);
      no = rw (c.n, c.number) (grows_within c.no g.no);
      acked = rw (c.n, c.number) (⊎_elim (λ h. grows_within h g.acked) (λ e. rw e (subset_none (others s))) c.acked);
    }

-- a sound record stays sound
pub sound_kept : (s : Site) (t : Step) → sound_of s ≡ true → sound_of (step_of s t).site ≡ true
sound_kept s t e = parts_sound (step_of s t).site (change_sound (step_changes s t) (sound_parts s e))

-- ---- refused and passed over

-- a refusal hands the record back, writes nothing and counts nothing
pub refused_unchanged : (s : Site) (t : Step) (g : Refusal) → (step_of s t).outcome ≡ Refused g → step_of s t ≡ refusal s g
unfolding step_of answered
refused_unchanged s t g e = go (did s t) e
  where
    go : {d : Done} → Did s t d → d.outcome ≡ Refused g → answered d ≡ refusal s g
    go (refuses {g = h} x) e = cc
    go (passes f h) e = cc
    go (takes f c w) e = cc

-- a step passed over writes nothing and changes at most the leader followed
pub record PassedOver (s : Site) (a : Answer) : Type 0 where
  pub leader : ℕ
  pub follows : Follows s leader
  pub site : a.site ≡ following s leader
  pub kind : a.kind ≡ 0
  pub to : a.to ≡ 0
  pub written : a.counts.written ≡ 0

pub passed_over : (s : Site) (t : Step) → (step_of s t).outcome ≡ Passed → PassedOver s (step_of s t)
unfolding step_of answered
passed_over s t e = go (did s t) e
  where
    go : {d : Done} → Did s t d → d.outcome ≡ Passed → PassedOver s (answered d)
    go (refuses g) e = cc
    go (passes f {l} h) e = record { leader = l; follows = h; site = refl; kind = refl; to = refl; written = count_none }
    go (takes f c w) e = cc

-- "A single site step can give 1, 2, 5, 6": each where its place in the order is reached, 5 to Begin, Take over and Conclude only,
-- and 6 to a delivered order only
pub grounds : (s : Site) (t : Step) (g : Refusal) → (step_of s t).outcome ≡ Refused g → Ground s t g
unfolding step_of answered
grounds s t g e = go (did s t) e
  where
    go : {d : Done} → Did s t d → d.outcome ≡ Refused g → Ground s t g
    go (refuses {g = h} x) e = let z : h ≡ g = cc in rw z at x
    go (passes f h) e = cc
    go (takes f c w) e = cc

pub ground_some : (s : Site) (t : Step) (g : Refusal) → (step_of s t).outcome ≡ Refused g → 1 ≤ refusal_number g
ground_some s t g e = go (grounds s t g e)
  where
    go : {h : Refusal} → Ground s t h → 1 ≤ refusal_number h
    go (not_sound x) = lit≤ tt
    go (wrong_names x y) = lit≤ tt
    go (not_allowed x y) = lit≤ tt
    go (in_conflict x y) = lit≤ tt

-- ground 1 exactly where the record is not sound
pub ground_1 : (s : Site) (t : Step) → (step_of s t).outcome ≡ Refused NotSound ↔ sound_of s ≡ false
unfolding step_of answered done_of
ground_1 s t = (λ e. go (grounds s t NotSound e) refl, λ e. rw e refl)
  where
    go : {g : Refusal} → Ground s t g → g ≡ NotSound → sound_of s ≡ false
    go (not_sound h) e = h
    go (wrong_names h k) e = absurd (cc)
    go (not_allowed f o) e = absurd (cc)
    go (in_conflict f o) e = absurd (cc)

-- ground 2 exactly where it is, and the step names what it must not
pub ground_2 : (s : Site) (t : Step) → (step_of s t).outcome ≡ Refused WrongNames ↔ (sound_of s ≡ true) × (names_of s t ≡ false)
unfolding step_of answered done_of
ground_2 s t = (λ e. go (grounds s t WrongNames e) refl, λ e. back e.0 e.1)
  where
    back : sound_of s ≡ true → names_of s t ≡ false → (step_of s t).outcome ≡ Refused WrongNames
    back e f = rw (e, f) refl

    go : {g : Refusal} → Ground s t g → g ≡ WrongNames → (sound_of s ≡ true) × (names_of s t ≡ false)
    go (not_sound h) e = absurd (cc)
    go (wrong_names h k) e = (parts_sound s h, k)
    go (not_allowed f o) e = absurd (cc)
    go (in_conflict f o) e = absurd (cc)

-- ---- what is written

-- the receivers are a set of sites
pub to_lt : (s : Site) (t : Step) → (step_of s t).to < 2 ^ 8
unfolding step_of answered to_all
to_lt s t = go (written_as s t)
  where
    go : {k m : ℕ} → Wrote s t k m → m < 2 ^ 8
    go nothing = lit< tt
    go (to_all_lem o l) = minus_lt (others s) s.known (others_lt s.n s.number)
    go (to_one {k} {j} b) = weight_lt j

-- "counted in the set of receivers": as many messages are written as there are receivers
pub written_counts : (s : Site) (t : Step) → (step_of s t).counts.written ≡ members (step_of s t).to 8
unfolding step_of answered
written_counts s t = go (did s t) ∙ count_is (step_of s t).to (to_lt s t)
  where
    go : {d : Done} → Did s t d → (counts_of d.outcome d.site d.to).written ≡ count_of d.to
    go (refuses g) = sym count_none
    go (passes f h) = refl
    go (takes f c w) = refl

-- the receivers are other sites of 1 to n
pub receivers_others : (s : Site) (t : Step) (j : ℕ) → has (step_of s t).to j ≡ true → Other s j
receivers_others s t j h = other_parts s j (message s t j h).other

-- none of them is known stopped, but perhaps the one that a Yes, No or Ack goes to
pub receivers_unknown : (s : Site) (t : Step) (j : ℕ) → has (step_of s t).to j ≡ true → is_answer (step_of s t).kind ≡ false → has s.known j ≡ false
receivers_unknown s t j h = (message s t j h).unknown

-- those three go to the sender of the message that is delivered
pub answers_sender : (s : Site) (t : Step) (j : ℕ) → has (step_of s t).to j ≡ true → is_answer (step_of s t).kind ≡ true → Sends t j
answers_sender s t j h = (message s t j h).sender

-- every message has the right ends for its kind; of a leader that concludes, if it knows all lower sites stopped
pub right_ends : (s : Site) (t : Step) (j : ℕ) → (Concludes s t → lower_known s ≡ true) → has (step_of s t).to j ≡ true → ends_of (step_of s t).kind s.number j ≡ true
right_ends s t j l h = parts_ends ((message s t j h).ends l)

-- the kind is at most 8, and 0 exactly where nobody is written to
pub kind_most : (s : Site) (t : Step) → (step_of s t).kind ≤ 8
unfolding step_of answered
kind_most s t = go (eqb (done_of s t).to 0) (most (written_as s t))
  where
    most : {k m : ℕ} → Wrote s t k m → k ≤ 8
    most nothing = lit≤ tt
    most (to_all_lem o l) = (out_kind o).1
    most (to_one b) = back_kind b

    go : (b : Bool) → (done_of s t).kind ≤ 8 → cond b 0 (done_of s t).kind ≤ 8
    go true h = lit≤ tt
    go false h = h

pub kind_none : (s : Site) (t : Step) → (step_of s t).kind ≡ 0 ↔ ((j : ℕ) → has (step_of s t).to j ≡ false)
unfolding step_of answered
kind_none s t = (λ e j. fails (has (step_of s t).to j) (λ h. omega (arith, (message s t j h).least)), λ f. rw (nobody (step_of s t).to (to_lt s t) f) refl)

-- that side condition is exact: a Conclude whose messages all have the right ends is one of a site that knows all lower ones stopped
pub ends_need : (s : Site) → (step_of s Conclude).outcome ≡ Taken
    → ((j : ℕ) → has (step_of s Conclude).to j ≡ true → ends_of (step_of s Conclude).kind s.number j ≡ true) → lower_known s ≡ true
unfolding step_of answered to_all ends_of
ends_need s e f = known_lower s (λ j l h. go j l h (either (has s.known j)))
  where
    c : Concluded s (done_of s Conclude)
    c = concluded s e

    up : (j : ℕ) {k : ℕ} → Outward s k → ends_of k s.number j ≡ true → s.number < j
    up j (starts e) h = rw e (ltb-true 1 j (and_r (eqb s.number 1) (ltb 1 j) h))
    up j moves_p h = ltb-true s.number j h
    up j moves_w h = ltb-true s.number j h
    up j commits h = ltb-true s.number j h
    up j aborts h = ltb-true s.number j h

    written : (j : ℕ) → 1 ≤ j → j < s.number → has s.known j ≡ false → has (to_all s) j ≡ true
    written j l h n =
        let g : SoundSite s = sound_parts s c.sound in
        has_minus (others s) s.known j
        ∙ simp (parts_other s j g (record { first = l; last = omega (arith, g.last); apart = omega arith }), n)

    go : (j : ℕ) → 1 ≤ j → j < s.number → has s.known j ≡ true ⊎ has s.known j ≡ false → has s.known j ≡ true
    go j l h (inl x) = x
    go j l h (inr x) =
        let w : has (step_of s Conclude).to j ≡ true = rw c.to (written j l h x) in
        let u : s.number < j = up j c.kind (subst (λ (k : ℕ). ends_of k s.number j ≡ true) (kind_of_lem s Conclude j w) (f j w)) in
        absurd (omega arith)

-- ---- who is awaited

-- of nobody the lowest is 0
lowest_none : lowest_of 0 ≡ 0
unfolding lowest_of
lowest_none = refl

-- a set whose number or whose lowest is 0 has nobody in it
ones_nobody : (w m : ℕ) → m < 2 ^ w → ones m ≡ 0 → m ≡ 0
ones_nobody zero m h e = lt-one h
ones_nobody (suc w) m h e =
    let half : m / 2 ≡ 0 = ones_nobody w (m / 2) (omega (arith, pow-suc 2 w)) (omega (arith, ones_step m)) in
    omega (arith, ones_step m)

count_nobody : (m : ℕ) → m < 2 ^ 8 → count_of m ≡ 0 → m ≡ 0
unfolding count_of
count_nobody m h e = ones_nobody 8 m h e

lowest_nobody : (m : ℕ) → m < 2 ^ 8 → lowest_of m ≡ 0 → m ≡ 0
unfolding has is_site
lowest_nobody zero h e = refl
lowest_nobody (suc m) h e = absurd (false≢true (subst (λ (j : ℕ). has (suc m) j ≡ true) e (lowest_is (suc m) (omega arith) h).member))

awaited_lt : (s : Site) → awaited_of s < 2 ^ 8
unfolding awaited_of to_all
awaited_lt s = go (polls s) (collects s)
  where
    all : to_all s < 2 ^ 8
    all = minus_lt (others s) s.known (others_lt s.n s.number)

    go : (p c : Bool) → cond p (minus (to_all s) (union s.yes s.no)) (cond c (minus (to_all s) s.acked) 0) < 2 ^ 8
    go true c = minus_lt (to_all s) (union s.yes s.no) all
    go false true = minus_lt (to_all s) s.acked all
    go false false = lit< tt

same_nobody : (s : Site) → count_of (awaited_of s) ≡ 0 ↔ lowest_of (awaited_of s) ≡ 0
same_nobody s =
    (λ e. ap lowest_of (count_nobody (awaited_of s) (awaited_lt s) e) ∙ lowest_none, λ e. ap count_of (lowest_nobody (awaited_of s) (awaited_lt s) e) ∙ count_none)

-- "the lowest awaited site besides the number, 0 when none is awaited" (02, Ask 4): the lowest is 0 exactly where the number is
pub lowest_with_number : (s : Site) (t : Step) → (step_of s t).counts.awaited ≡ 0 ↔ (step_of s t).counts.lowest ≡ 0
unfolding step_of answered
lowest_with_number s t = go (did s t)
  where
    go : {d : Done} → Did s t d → (counts_of d.outcome d.site d.to).awaited ≡ 0 ↔ (counts_of d.outcome d.site d.to).lowest ≡ 0
    go (refuses g) = (λ e. refl, λ e. refl)
    go {d} (passes f h) = same_nobody d.site
    go {d} (takes f c w) = same_nobody d.site
