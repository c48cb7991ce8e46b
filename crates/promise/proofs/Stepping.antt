-- Each accepted step of a site of a sound run, by the definitions of the site crate, is one of the steps that agreement knows.
-- Assumes nothing.
use Prim.Native.Nat.{ℕ, ◌+◌, ◌≤◌, ◌<◌}
use mathlib.Core.Bool.{Bool, true, false, cond, not, ◌&&◌, ◌||◌, true≢false, false≢true}
use mathlib.Core.Path.{◌≡◌, refl, sym, ap, subst, ◌∙◌}
use mathlib.Core.Logic.{◌≢◌, ◌⊎◌, inl, inr, ⊎_elim}
use native.Mathlib.Decide.{dec_lt}
use native.Mathlib.Omega.{arith}
use lib.Dec.{eqb, leb, ltb}
use borrow.Author.Tests.{eqb-true, eqb-false, leb-true, ltb-true, ltb-false, not-true, not-false}
use Rattle.sets.specs.Sets.{has, minus, others_of, below_of, weight_of, with_site, subset}
use Rattle.sets.proofs.SetLaws.{Site, has_site, subset_has}
use Rattle.refusal.specs.declared.Refusal.TheVariants.{NotAllowed, Conflict as in_conflict}
use Rattle.site.specs.declared.State.{State}
use Rattle.site.specs.declared.State.TheVariants.{Q, W, P, A, C}
use Rattle.site.specs.declared.Vote.{Vote}
use Rattle.site.specs.declared.Vote.TheVariants as vote
use Rattle.site.specs.declared.Outcome.{Outcome}
use Rattle.site.specs.declared.Outcome.TheVariants.{Taken, Passed, Refused}
use Rattle.site.specs.declared.Step.{Step}
use Rattle.site.specs.declared.Step.TheVariants as step
use Rattle.site.specs.declared.Site.{Site as Record}
use Rattle.site.specs.declared.Done.{Done}
use Rattle.site.specs.Site.{is_q, is_w, is_p, in_state, following, knowing, leads, is_order, ends_of, to_all, in_run, names_of, polls, collects, awaited_of, refused, passed, taken}
use Rattle.site.proofs.SiteFacts.{SoundSite}
use Rattle.site.proofs.SiteSteps.{sound_parts, is_q_lem, is_w_lem, is_p_lem}
use Rattle.site.specs.First.{begun, begin_of, voted, start_of, vote_of, tally_of}
use Rattle.site.specs.Leader.{order_at, obeyed, obey_of, ack_of, over_in, take_over_of, settle_of}
use Rattle.site.specs.Step.{notice_of, conclude_of, deliver_of, rule_of}
use Rattle.run.specs.declared.Run.{Run}
use Rattle.run.specs.Run.{site_at, outstanding}
use Rattle.run.specs.Event.{is_there}
use Rattle.sets.proofs.Truths.{and_l, and_r, or_e, clash, fails, and_none, or_none, either}
use Rattle.promise.proofs.SetsMembers.{In, in_none, minus_in, minus_out, in_minus, in_with, in_with_new, weight_in, in_weight, others_in, others_out, in_others, in_below}
use Rattle.promise.proofs.RunViews.{Runs, placed, Out}
use Rattle.run.specs.Sound.{Sound}
use Rattle.promise.proofs.Classes.{Kind, Start, Yes, No, MoveP, MoveW, Ack, Commit, Abort, IsQ, PC, QWA, WP, IsYes, Gives, yes_gives}
use Rattle.promise.proofs.Classes as classes
use Rattle.promise.proofs.View.{View, seen as seen_at, told as told_by_lem, Lead, Lowest, Inv}
use Rattle.promise.proofs.Does as does
use Rattle.promise.proofs.Does.{Everyone, Only, Idle, Uses, nothing, notes, message, Does}
use Rattle.promise.proofs.Seen.{number, same_kind, Recorded, by_recorded, view_of}
use Rattle.promise.proofs.Brings.{Delivers, Notices, Voices, Starts, weigh_least, net_worth, news_worth, fee_of, kind_in, sender_in, IsMessage, Answer, hearing, hearing_cases, hearing_kept, hearing_new}

-- A test holds or does not.
by_cond : {D : Type 0} (M : D → Type 0) (b : Bool) (x y : D) → (b ≡ true → M x) → (b ≡ false → M y) → M (cond b x y)
by_cond M true x y f g = f refl
by_cond M false x y f g = g refl

-- A site that a step may name.
pub in_run_lem : (x : Record) (i : ℕ) → in_run x i ≡ true → (1 ≤ i) × (i ≤ x.n)
unfolding in_run
in_run_lem x i h = (leb-true 1 i (and_l (leb 1 i) (leb i x.n) h), leb-true i x.n (and_r (leb 1 i) (leb i x.n) h))

not_q : (s : State) → is_q s ≡ false → IsQ s → ⊥
not_q s e x = true≢false (sym (ap is_q (classes.is_q_lem s x)) ∙ e)

not_w : (s : State) → is_w s ≡ false → s ≢ W
not_w s e d = true≢false (sym (ap is_w d) ∙ e)

-- What is to be shown of a step that ends with an outcome: a refusal is no conflict, else X.
abbrev pub Sure : Outcome → Type 0 → Type 0
Sure Taken X = X
Sure Passed X = X
Sure (Refused g) X = g ≢ in_conflict

-- Site j of the run r takes a step.
module _ (w : ℕ → Type 0) (r : Run) (g : Sound r) (u : Inv (view_of w r)) (j : ℕ) (x : Runs r j) where
  abbrev a : View
  a = view_of w r

  abbrev s : Record
  s = site_at r j

  -- What a new record y of j holds: what it records was live; nothing recorded or known is forgotten.
  pub record Holds (y : Record) : Type 0 where
    pub heard : (c : Kind) (i : ℕ) → Recorded c y i → a.live c i j
    pub kept : (c : Kind) (i : ℕ) → Recorded c s i → Recorded c y i
    pub knows : (i : ℕ) → In s.known i → In y.known i

  -- What becomes of what the step t brings: a message is used up or recorded, and worth the fee; a notice is known.
  pub record Spends (t : Step) (d : Done) (y : Uses) : Type 0 where
    pub used : (c : Kind) (i : ℕ) → Delivers t (number c) i → (y ≡ message c i) ⊎ Recorded c d.site i
    pub brought : (c : Kind) (i : ℕ) → y ≡ message c i → Delivers t (number c) i
    pub fee : fee_of y ≤ net_worth t + news_worth t
    pub learns : (o : ℕ) → Notices t o → In d.site.known o

  -- How the step t votes: yes where it says so and is taken; a Yes answers a Start, and goes to site 1.
  pub record Votes (t : Step) (d : Done) (κ : Kind) : Type 0 where
    pub gives : Gives κ → Voices t × (d.outcome ≡ Taken)
    pub voices : Voices t → d.outcome ≡ Taken → Gives κ × IsQ (a.st j)
    pub leaves : IsYes κ → (i : ℕ) → In d.to i → Starts t × (i ≡ 1)

  -- What the step, as the record d of what was done, is to agreement.
  pub record Stepped (t : Step) (d : Done) : Type 0 where
    pub κ : Kind
    pub uses : Uses
    pub act : Does a j (λ i. In d.to i) d.site.state d.site.leader κ uses
    -- what is written is of kind κ, to sites of the run
    pub kind : (i : ℕ) → In d.to i → d.kind ≡ number κ
    pub within : (i : ℕ) → In d.to i → i ≤ r.n
    pub holds : Holds d.site
    pub spends : Spends t d uses
    pub votes : Votes t d κ

  open placed g x use {here, st_is, ld_is, mine, size}

  sound : SoundSite s
  sound = sound_parts s (g.places j x.least x.most).sound

  same_heard : (c : Kind) (i : ℕ) → Recorded c s i → a.live c i j
  same_heard c i h = inr (subst (λ (y : Record). Recorded c y i) (sym here) h)

  -- a new state and leader alone
  holds_same : (q : State) (l : ℕ) → Holds (following (in_state s q) l)
  holds_same q l = record { heard = same_heard; kept = λ c i h. h; knows = λ i h. h }

  mute : (t : Step) (d : Done) (κ : Kind) → (Gives κ → ⊥) → (Voices t → d.outcome ≡ Taken → ⊥) → Votes t d κ
  mute t d κ n v = record { gives = λ h. absurd (n h); voices = λ h e. absurd (v h e); leaves = λ h. absurd (n (yes_gives κ h)) }

  a_site : (i : ℕ) → 1 ≤ i → i ≤ r.n → Site i
  a_site i p q = record { least = p; most = omega (arith, g.most) }

  -- all but j that are not known stopped
  others_all : (i : ℕ) → In (to_all s) i → (i ≤ r.n) × (i ≢ j) × (has s.known i ≡ false)
  unfolding to_all
  others_all i h =
      let o : In (others_of s.n s.number) i = minus_in (others_of s.n s.number) s.known i h in
      (rw size at (others_in s.n s.number i o), rw mine at (others_out s.n s.number i o), minus_out (others_of s.n s.number) s.known i h)

  in_all : (i : ℕ) → 1 ≤ i → i ≤ r.n → i ≢ j → has s.known i ≡ false → In (to_all s) i
  unfolding to_all
  in_all i p q ne h = in_minus (others_of s.n s.number) s.known i (in_others s.n s.number i (a_site i p q) (rw size q) (rw mine ne)) h

  stopped : (i : ℕ) → In s.known i → In r.stopped i
  stopped i = subset_has s.known r.stopped i (g.places j x.least x.most).known

  running : (i : ℕ) → Runs r i → has s.known i ≡ false
  running i y = fails (has s.known i) (λ h. clash (stopped i h) y.up)

  everyone : ((i : ℕ) → 1 ≤ i → i < j → In s.known i) → Everyone a j (λ i. In (to_all s) i)
  everyone low =
      record {
        above = λ i h. go i (has_site (to_all s) i h) (others_all i h) (dec_lt j i);
        every = λ i y ne. in_all i y.least y.most ne (running i y);
      }
    where
      go : (i : ℕ) → Site i → (i ≤ r.n) × (i ≢ j) × (has s.known i ≡ false) → Dec (j < i) → j < i
      go i p h (yes q) = q
      go i p h (no q) = absurd (clash (low i p.least (omega (arith, h.1))) h.2)

  none_below : j ≡ 1 → (i : ℕ) → 1 ≤ i → i < j → In s.known i
  none_below e i p q = absurd (omega arith)

  leads_itself : j ≡ 1 → a.ld j ≡ j
  leads_itself e = ld_is ∙ omega (arith, sound.led, sound.leader, mine)

  -- the index of a step is the record's leader
  same_l : {q : State} {κ : Kind} {y : Uses} {T : ℕ → Type 0} → Does a j T q (a.ld j) κ y → Does a j T q s.leader κ y
  same_l {q} {κ} {y} {T} h = subst (λ (l : ℕ). Does a j T q l κ y) ld_is h

  same_sl : {κ : Kind} {y : Uses} {T : ℕ → Type 0} → Does a j T (a.st j) (a.ld j) κ y → Does a j T s.state s.leader κ y
  same_sl {κ} {y} {T} h = subst (λ (q : State). Does a j T q s.leader κ y) st_is (same_l h)

  -- what is to be shown of each step: it is refused, and not for a conflict, or it is seen
  abbrev M : Step → Done → Type 0
  M t d = Sure d.outcome (Stepped t d)

  -- a step of j's own brings nothing, and writes to all others
  own_step : (t : Step) (κ : Kind) (y : Record) → ((K i : ℕ) → Delivers t K i → ⊥) → ((o : ℕ) → Notices t o → ⊥) → Does a j (λ i. In (to_all s) i) y.state y.leader κ nothing
      → Holds y → Votes t (taken y (number κ) (to_all s)) κ → Stepped t (taken y (number κ) (to_all s))
  own_step t κ y m n c h v =
      record {
        κ = κ;
        uses = nothing;
        act = c;
        kind = λ i h. refl;
        within = λ i h. (others_all i h).0;
        holds = h;
        spends = record { used = λ c i h. absurd (m (number c) i h); brought = λ c i h. absurd (subst IsMessage (sym h) tt); fee = omega arith; learns = λ o h. absurd (n o h) };
        votes = v;
      }

  -- ---- Begin

  begun_is : (v : Vote) → j ≡ 1 → a.st j ≡ Q → M (step.Begin v) (begun v s)
  begun_is vote.Yes n q =
      own_step (step.Begin vote.Yes) Start (in_state s W) (λ K i h. h) (λ o h. h) (same_l (does.central refl (does.begin_yes n q (leads_itself n) (everyone (none_below n))))) (holds_same W s.leader)
      (record { gives = λ _. (tt, refl); voices = λ _ _. (tt, rw q tt); leaves = λ h. absurd h })
  begun_is vote.No n q =
      own_step (step.Begin vote.No) Abort (in_state s A) (λ K i h. h) (λ o h. h) (same_l (does.central refl (does.begin_no n q (leads_itself n) (everyone (none_below n))))) (holds_same A s.leader)
      (mute (step.Begin vote.No) (begun vote.No s) Abort (λ h. h) (λ h. absurd h))

  begins : (v : Vote) → M (step.Begin v) (begin_of s v)
  unfolding begin_of
  begins v =
      by_cond (M (step.Begin v)) (eqb s.number 1 && is_q s.state) (begun v s) (refused s NotAllowed)
      (λ e. begun_is v (sym mine ∙ eqb-true s.number 1 (and_l (eqb s.number 1) (is_q s.state) e)) (st_is ∙ is_q_lem s.state (and_r (eqb s.number 1) (is_q s.state) e)))
      (λ _ q. cc)

  -- a step that changes neither state nor leader and writes nothing
  quietly : (t : Step) (d : Done) (y : Uses) → Does a j (λ i. In d.to i) d.site.state d.site.leader Ack y → ((i : ℕ) → In d.to i → ⊥)
      → Holds d.site → Spends t d y → (Voices t → d.outcome ≡ Taken → ⊥) → Stepped t d
  quietly t d y c z h o n =
      record {
        κ = Ack;
        uses = y;
        act = c;
        kind = λ i y. absurd (z i y);
        within = λ i y. absurd (z i y);
        holds = h;
        spends = o;
        votes = mute t d Ack (λ h. h) n;
      }

  no_pass : Passed ≡ Taken → ⊥
  no_pass e = cc

  -- the delivered message is used up
  same_message : {κ c : Kind} {k i : ℕ} → κ ≡ c → k ≡ i → message κ k ≡ message c i
  same_message p q = cc

  brings : (κ : Kind) (from : ℕ) (d : Done) → Spends (step.Deliver (number κ) from) d (message κ from)
  brings κ from d = record { used = λ c i h. inl (same_message (same_kind κ c h.0) h.1); brought = λ c i h. (ap (λ (y : Uses). number (kind_in y)) h, ap sender_in h); fee = omega arith; learns = λ o h. absurd h }

  -- ---- Start

  module _ (from : ℕ) (ends : ends_of 1 from s.number ≡ true) (m : Out r.net 1 from j) where
    start_ends : (from ≡ 1) × (1 < j)
    unfolding ends_of
    start_ends = (eqb-true from 1 (and_l (eqb from 1) (ltb 1 s.number) ends), rw mine at (ltb-true 1 s.number (and_r (eqb from 1) (ltb 1 s.number) ends)))

    first_start : a.live Start 1 j
    first_start = inl (rw start_ends.0 at m)

    to_first : Only 1 (λ i. In (weight_of 1) i)
    to_first = record { only = weight_in 1; there = in_weight 1 (record { least = omega arith; most = omega arith }) }

    not_first : j ≢ 1
    not_first e = omega (arith, start_ends.1)

    brings_start : (v : Vote) (d : Done) → Spends (step.Start from v) d (message Start from)
    brings_start v d = record { used = λ c i h. inl (same_message (same_kind Start c h.0) h.1); brought = λ c i h. (ap (λ (y : Uses). number (kind_in y)) h, ap sender_in h); fee = omega arith; learns = λ o h. absurd h }

    -- the answer to a Start
    answers : (v : Vote) (κ : Kind) (q : State) → Does a j (λ i. In (weight_of 1) i) q (a.ld j) κ (message Start 1) → Votes (step.Start from v) (taken (in_state s q) (number κ) (weight_of 1)) κ
        → Stepped (step.Start from v) (taken (in_state s q) (number κ) (weight_of 1))
    answers v κ q c o =
        record {
          κ = κ;
          uses = message Start 1;
          act = same_l c;
          kind = λ i h. refl;
          within = λ i h. rw (weight_in 1 i h) (omega (arith, g.least));
          holds = holds_same q s.leader;
          spends = subst (λ (k : ℕ). Spends (step.Start from v) (taken (in_state s q) (number κ) (weight_of 1)) (message Start k)) start_ends.0 (brings_start v _);
          votes = o;
        }

    voted_is : (v : Vote) → a.ld j ≤ 1 → a.st j ≡ Q → M (step.Start from v) (voted v s)
    voted_is vote.Yes l q =
        answers vote.Yes Yes W (does.central refl (does.start_yes l not_first q first_start to_first)) (record { gives = λ _. (tt, refl); voices = λ _ _. (tt, rw q tt); leaves = λ _ i h. (tt, weight_in 1 i h) })
    voted_is vote.No l q = answers vote.No No A (does.central refl (does.start_no l not_first q first_start to_first)) (mute (step.Start from vote.No) (voted vote.No s) No (λ h. h) (λ h. absurd h))

    starts : (v : Vote) → M (step.Start from v) (start_of s from v)
    unfolding start_of
    starts v =
        by_cond (M (step.Start from v)) (not (ltb from s.leader) && is_q s.state) (voted v s) (passed s)
        (λ e. voted_is v (omega (arith, ld_is, start_ends.0, ltb-false from s.leader (not-true (ltb from s.leader) (and_l (not (ltb from s.leader)) (is_q s.state) e))))
        (st_is ∙ is_q_lem s.state (and_r (not (ltb from s.leader)) (is_q s.state) e)))
        (λ e. quietly (step.Start from v) (passed s) (message Start from) (same_sl (does.shared (does.passed (idle e) in_none))) in_none (holds_same s.state s.leader) (brings_start v _) (λ _. no_pass))
      where
        idle : (not (ltb from s.leader) && is_q s.state) ≡ false → (from < a.ld j) ⊎ (IsQ (a.st j) → ⊥)
        idle e =
            ⊎_elim (λ n. inl (rw ld_is (ltb-true from s.leader (not-false (ltb from s.leader) n)))) (λ n. inr (λ q. not_q s.state n (rw st_is at q)))
            (and_none (not (ltb from s.leader)) (is_q s.state) e)

  -- ---- Deliveries of the other kinds

  module _ (from : ℕ) (at : Site from) where
    -- a message without effect
    passes : (κ : Kind) → Idle a j κ from → Stepped (step.Deliver (number κ) from) (passed s)
    passes κ i =
        quietly (step.Deliver (number κ) from) (passed s) (message κ from) (same_sl (does.shared (does.passed i in_none))) in_none (holds_same s.state s.leader) (brings κ from (passed s)) (λ y. absurd y)

    -- a Yes, No or Ack recorded
    hears : (κ : Kind) → Answer κ → Out r.net (number κ) from j → Stepped (step.Deliver (number κ) from) (taken (hearing κ s from) 0 0)
    hears κ o m =
        quietly (step.Deliver (number κ) from) (taken (hearing κ s from) 0 0) notes (same_sl (does.shared (does.noted in_none))) in_none
        (record {
          heard = λ c i h. ⊎_elim (same_heard c i) (λ e. inl (subst (λ (c : Kind). Out r.net (number c) i j) e.0 (rw e.1 m))) (hearing_cases κ s from c i h);
          kept = hearing_kept κ s from;
          knows = λ i h. h;
        })
        (record {
          used = λ c i h. inr (subst (λ (c : Kind). Recorded c (hearing κ s from) i) (same_kind κ c h.0) (subst (λ (i : ℕ). Recorded κ (hearing κ s from) i) h.1 (hearing_new κ s from at o)));
          brought = λ c i h. absurd (subst IsMessage (sym h) tt);
          fee = omega (arith, weigh_least (number κ));
          learns = λ o h. absurd h;
        })
        (λ y. absurd y)

    -- recorded where a test holds, and without effect where it fails
    hears_if : (κ : Kind) (b : Bool) → Answer κ → Out r.net (number κ) from j → (b ≡ false → Idle a j κ from)
        → M (step.Deliver (number κ) from) (cond b (taken (hearing κ s from) 0 0) (passed s))
    hears_if κ b o m i = by_cond (M (step.Deliver (number κ) from)) b (taken (hearing κ s from) 0 0) (passed s) (λ _. hears κ o m) (λ e. passes κ (i e))

    idle_vote : s.number ≡ 1 → polls s ≡ false → a.st j ≢ W
    unfolding polls
    idle_vote one e d = ⊎_elim (λ n. not_w s.state n (sym st_is ∙ d)) (λ n. eqb-false s.number 1 n one) (and_none (is_w s.state) (eqb s.number 1) e)

    votes_yes : s.number ≡ 1 → Out r.net 2 from j → M (step.Deliver 2 from) (vote_of s from vote.Yes)
    unfolding vote_of
    votes_yes one m = hears_if Yes (polls s) tt m (idle_vote one)

    votes_no : s.number ≡ 1 → Out r.net 3 from j → M (step.Deliver 3 from) (vote_of s from vote.No)
    unfolding vote_of
    votes_no one m = hears_if No (polls s) tt m (idle_vote one)

    -- a leader that is past its first phase and in w or p gathers acknowledgements
    gathers : collects s ≡ false → Lead a j → WP (a.st j) → ⊥
    unfolding collects
    gathers e l q =
        ⊎_elim (λ n. eqb-false s.leader s.number n (sym ld_is ∙ l.0 ∙ sym mine))
        (λ n. go s.state refl (or_none (is_p s.state) (is_w s.state && not (eqb s.number 1)) n)) (and_none (leads s) (is_p s.state || is_w s.state && not (eqb s.number 1)) e)
      where
        go : (t : State) → s.state ≡ t → (is_p s.state ≡ false) × ((is_w s.state && not (eqb s.number 1)) ≡ false) → ⊥
        go Q d n = rw (st_is ∙ d) at q
        go A d n = rw (st_is ∙ d) at q
        go C d n = rw (st_is ∙ d) at q
        go P d n = true≢false (sym (ap is_p d) ∙ n.0)
        go W d n =
            ⊎_elim (λ m. true≢false (sym (ap is_w d) ∙ m)) (λ m. l.1 (sym mine ∙ eqb-true s.number 1 (not-false (eqb s.number 1) m), rw (st_is ∙ d) tt))
            (and_none (is_w s.state) (not (eqb s.number 1)) n.1)

    acks : Out r.net 6 from j → M (step.Deliver 6 from) (ack_of s from)
    unfolding ack_of
    acks m = hears_if Ack (collects s) tt m gathers

    -- an order obeyed: state q, following the sender, who is acknowledged
    follows_order : (κ : Kind) (q : State) (y : ℕ) (o : Outcome) (K : ℕ) → number Ack ≡ K ⊎ ((i : ℕ) → In y i → ⊥) → ((i : ℕ) → In y i → i ≤ r.n) → Does a j (λ i. In y i) q from Ack (message κ from)
        → Stepped (step.Deliver (number κ) from) (record { site = following (in_state s q) from; outcome = o; kind = K; to = y })
    follows_order κ q y o K h b c =
        record {
          κ = Ack;
          uses = message κ from;
          act = c;
          kind = λ i z. ⊎_elim (λ e. sym e) (λ n. absurd (n i z)) h;
          within = b;
          holds = holds_same q from;
          spends = brings κ from _;
          votes = mute (step.Deliver (number κ) from) _ Ack (λ h. h) (λ h. absurd h);
        }

    module _ (low : from < j) where
      to_sender : Only from (λ i. In (weight_of from) i)
      to_sender = record { only = weight_in from; there = in_weight from at }

      -- a Move is acknowledged; a decision has no answer, also where j has decided already
      acknowledges : (κ : Kind) (q : State) → Does a j (λ i. In (weight_of from) i) q from Ack (message κ from) → Stepped (step.Deliver (number κ) from) (taken (following (in_state s q) from) 6 (weight_of from))
      acknowledges κ q = follows_order κ q (weight_of from) Taken 6 (inl refl) (λ i h. omega (arith, weight_in from i h, x.most))

      decides : (κ : Kind) (q : State) (o : Outcome) → Does a j (λ i. In 0 i) q from Ack (message κ from)
          → Stepped (step.Deliver (number κ) from) (record { site = following (in_state s q) from; outcome = o; kind = 0; to = 0 })
      decides κ q o = follows_order κ q 0 o 0 (inr in_none) (λ i h. absurd (in_none i h))

      decides_again : (κ : Kind) (q : State) → s.state ≡ q → Does a j (λ i. In 0 i) q from Ack (message κ from) → Stepped (step.Deliver (number κ) from) (passed (following s from))
      decides_again κ q e c =
          subst (λ (q : State). Stepped (step.Deliver (number κ) from) (record { site = following (in_state s q) from; outcome = Passed; kind = 0; to = 0 })) (sym e) (decides κ q Passed c)

      up : s.leader ≤ from → a.ld j ≤ from
      up h = rw ld_is h

      not_below : s.leader ≤ from → from < a.ld j → ⊥
      not_below h d = omega (arith, ld_is)

      below : ltb from s.leader ≡ true → from < a.ld j
      below e = rw ld_is (ltb-true from s.leader e)

      obeys : (κ : Kind) → (ltb from s.leader ≡ true → Idle a j κ from) → (s.leader ≤ from → M (step.Deliver (number κ) from) (obeyed (order_at (number κ) s.state) s (number κ) from))
          → M (step.Deliver (number κ) from) (obey_of s (number κ) from)
      unfolding obey_of
      obeys κ i f =
          by_cond (M (step.Deliver (number κ) from)) (ltb from s.leader) (passed s) (obeyed (order_at (number κ) s.state) s (number κ) from) (λ h. passes κ (i h)) (λ h. f (ltb-false from s.leader h))

      move_p : Out r.net 4 from j → M (step.Deliver 4 from) (obey_of s 4 from)
      move_p m = obeys MoveP below (λ h. go s.state refl h)
        where
          go : (q : State) → s.state ≡ q → s.leader ≤ from → M (step.Deliver 4 from) (obeyed (order_at 4 q) s 4 from)
          go Q e h = absurd (u.unvoted j x (rw (st_is ∙ e) tt) (u.prepared (told_by_lem MoveP from j tt (inl m)) j))
          go W e h = acknowledges MoveP P (does.shared (does.move_p at.least (up h) (inl m) (st_is ∙ e) to_sender))
          go P e h = acknowledges MoveP P (does.shared (does.stay_p at.least (up h) (inl m) (st_is ∙ e) tt to_sender))
          go A e h = absurd (not_below h ((u.aborted (seen_at j (rw (st_is ∙ e) tt))).decided.deaf from j (inl m) x))
          go C e h = acknowledges MoveP C (does.shared (does.stay_p at.least (up h) (inl m) (st_is ∙ e) tt to_sender))

      move_w : Out r.net 5 from j → M (step.Deliver 5 from) (obey_of s 5 from)
      move_w m = obeys MoveW below (λ h. go s.state refl h)
        where
          go : (q : State) → s.state ≡ q → s.leader ≤ from → M (step.Deliver 5 from) (obeyed (order_at 5 q) s 5 from)
          go Q e h = acknowledges MoveW W (does.shared (does.move_w at.least (up h) (inl m) (rw (st_is ∙ e) tt) to_sender))
          go W e h = acknowledges MoveW W (does.shared (does.move_w at.least (up h) (inl m) (rw (st_is ∙ e) tt) to_sender))
          go P e h = acknowledges MoveW W (does.shared (does.move_w at.least (up h) (inl m) (rw (st_is ∙ e) tt) to_sender))
          go A e h = acknowledges MoveW A (does.shared (does.stay_w at.least (up h) (inl m) (st_is ∙ e) to_sender))
          go C e h = absurd (not_below h ((u.committed (seen_at j (rw (st_is ∙ e) tt))).deaf from j (inl m) x))

      commit : Out r.net 7 from j → M (step.Deliver 7 from) (obey_of s 7 from)
      commit m = obeys Commit below (λ h. go s.state refl h)
        where
          ready : PC (a.st j)
          ready = (u.committed (told_by_lem Commit from j refl (inl m))).each j x

          go : (q : State) → s.state ≡ q → s.leader ≤ from → M (step.Deliver 7 from) (obeyed (order_at 7 q) s 7 from)
          go Q e h = absurd (rw (st_is ∙ e) at ready)
          go W e h = absurd (rw (st_is ∙ e) at ready)
          go P e h = decides Commit C Taken (does.shared (does.commit at.least (up h) (inl m) in_none))
          go A e h = absurd (rw (st_is ∙ e) at ready)
          go C e h = decides_again Commit C e (does.shared (does.commit at.least (up h) (inl m) in_none))

      abort : Out r.net 8 from j → M (step.Deliver 8 from) (obey_of s 8 from)
      abort m = obeys Abort below (λ h. go s.state refl h)
        where
          unready : QWA (a.st j)
          unready = (u.aborted (told_by_lem Abort from j refl (inl m))).decided.each j x

          go : (q : State) → s.state ≡ q → s.leader ≤ from → M (step.Deliver 8 from) (obeyed (order_at 8 q) s 8 from)
          go Q e h = decides Abort A Taken (does.shared (does.abort at.least (up h) (inl m) in_none))
          go W e h = decides Abort A Taken (does.shared (does.abort at.least (up h) (inl m) in_none))
          go P e h = absurd (rw (st_is ∙ e) at unready)
          go A e h = decides_again Abort A e (does.shared (does.abort at.least (up h) (inl m) in_none))
          go C e h = absurd (rw (st_is ∙ e) at unready)

  named : (i : ℕ) → in_run s i ≡ true → Site i
  named i h = record { least = (in_run_lem s i h).0; most = omega (arith, (in_run_lem s i h).1, sound.most) }

  -- the ends of a delivered message, by its kind
  module _ (K from : ℕ) (names : names_of s (step.Deliver K from) ≡ true) (m : Out r.net K from j) where
    ends : ends_of K from s.number ≡ true
    ends = and_r (in_run s from && not (eqb K 1)) (ends_of K from s.number) names

    at : Site from
    at = named from (and_l (in_run s from) (not (eqb K 1)) (and_l (in_run s from && not (eqb K 1)) (ends_of K from s.number) names))

    vote_ends : (K ≡ 2) ⊎ (K ≡ 3) → s.number ≡ 1
    unfolding ends_of
    vote_ends (inl e) = eqb-true s.number 1 (and_r (ltb 1 from) (eqb s.number 1) (rw e at ends))
    vote_ends (inr e) = eqb-true s.number 1 (and_r (ltb 1 from) (eqb s.number 1) (rw e at ends))

    -- any other kind is an order, from a lower site
    order_ends : eqb K 2 ≡ false → eqb K 3 ≡ false → eqb K 6 ≡ false → (is_order K ≡ true) × (from < j)
    unfolding ends_of
    order_ends e2 e3 e6 = go (is_order K) refl
      where
        e1 : eqb K 1 ≡ false
        e1 = not-true (eqb K 1) (and_r (in_run s from) (not (eqb K 1)) (and_l (in_run s from && not (eqb K 1)) (ends_of K from s.number) names))

        rest : cond (is_order K) (ltb from s.number) false ≡ true
        rest = simp (e1, e2, e3, e6) at ends

        go : (b : Bool) → is_order K ≡ b → (b ≡ true) × (from < j)
        go true e = (refl, rw mine at (ltb-true from s.number (simp e at rest)))
        go false e = absurd (false≢true (simp e at rest))

    orders : (is_order K ≡ true) × (from < j) → M (step.Deliver K from) (obey_of s K from)
    orders h = four (eqb K 4) (eqb K 5) (eqb K 7) (eqb K 8) refl refl refl refl h.0
      where
        four : (a b c d : Bool) → eqb K 4 ≡ a → eqb K 5 ≡ b → eqb K 7 ≡ c → eqb K 8 ≡ d → (a || b || c || d) ≡ true → M (step.Deliver K from) (obey_of s K from)
        four true b c d p q u v o =
            subst (λ (K : ℕ). Out r.net K from j → M (step.Deliver K from) (obey_of s K from)) (sym (eqb-true K 4 p)) (move_p from at h.1) m
        four false true c d p q u v o =
            subst (λ (K : ℕ). Out r.net K from j → M (step.Deliver K from) (obey_of s K from)) (sym (eqb-true K 5 q)) (move_w from at h.1) m
        four false false true d p q u v o =
            subst (λ (K : ℕ). Out r.net K from j → M (step.Deliver K from) (obey_of s K from)) (sym (eqb-true K 7 u)) (commit from at h.1) m
        four false false false true p q u v o =
            subst (λ (K : ℕ). Out r.net K from j → M (step.Deliver K from) (obey_of s K from)) (sym (eqb-true K 8 v)) (abort from at h.1) m
        four false false false false p q u v o = absurd (false≢true o)

    delivers : M (step.Deliver K from) (deliver_of s K from)
    unfolding deliver_of
    delivers =
        by_cond N (eqb K 2) (vote_of s from vote.Yes) (cond (eqb K 3) (vote_of s from vote.No) (cond (eqb K 6) (ack_of s from) (obey_of s K from)))
        (λ e. subst (λ (K : ℕ). Out r.net K from j → s.number ≡ 1 → M (step.Deliver K from) (vote_of s from vote.Yes)) (sym (eqb-true K 2 e)) (λ m one. votes_yes from at one m) m (vote_ends (inl (eqb-true K 2 e))))
        (λ e2. by_cond N (eqb K 3) (vote_of s from vote.No) (cond (eqb K 6) (ack_of s from) (obey_of s K from))
        (λ e. subst (λ (K : ℕ). Out r.net K from j → s.number ≡ 1 → M (step.Deliver K from) (vote_of s from vote.No)) (sym (eqb-true K 3 e)) (λ m one. votes_no from at one m) m (vote_ends (inr (eqb-true K 3 e))))
        (λ e3. by_cond N (eqb K 6) (ack_of s from) (obey_of s K from)
        (λ e. subst (λ (K : ℕ). Out r.net K from j → M (step.Deliver K from) (ack_of s from)) (sym (eqb-true K 6 e)) (acks from at) m)
        (λ e6. orders (order_ends e2 e3 e6))))
      where
        N : Done → Type 0
        N d = M (step.Deliver K from) d

  -- ---- Notice

  notices : (o : ℕ) → Site o → M (step.Notice o) (notice_of s o)
  unfolding notice_of
  notices o at_o =
      by_cond (M (step.Notice o)) (has s.known o) (passed s) (taken (knowing s (with_site s.known o)) 0 0)
      (λ e. quietly (step.Notice o) (passed s) notes (same_sl (does.shared (does.noted in_none))) in_none (holds_same s.state s.leader)
      (record { used = λ c i h. absurd h; brought = λ c i h. absurd (subst IsMessage (sym h) tt); fee = omega arith; learns = λ i h. rw (← h) e }) (λ y. absurd y))
      (λ e. quietly (step.Notice o) (taken (knowing s (with_site s.known o)) 0 0) notes (same_sl (does.shared (does.noted in_none))) in_none
      (record { heard = same_heard; kept = λ c i h. h; knows = in_with s.known o })
      (record { used = λ c i h. absurd h; brought = λ c i h. absurd (subst IsMessage (sym h) tt); fee = omega arith; learns = λ i h. in_with_new s.known o i (rw (← h) at_o) (sym h) }) (λ y. absurd y))

  -- ---- Take over

  module _ (l : s.leader < s.number) (low : (i : ℕ) → 1 ≤ i → i < j → In s.known i) where
    follows_lower : a.ld j < j
    follows_lower = omega (arith, ld_is, mine)

    after_first : 1 < j
    after_first = omega (arith, sound.led, mine)

    lone : Lowest a j
    lone i h y = clash (stopped i (low i y.least h)) y.up

    backup : does.Backup a j
    backup = record { late = λ e. absurd (omega (arith, after_first)); sees = λ e. absurd (classes.not_both refl e); below = follows_lower; lowest = lone }

    -- acknowledgements are cleared: there were none
    cleared : (y : Record) → y.yes ≡ s.yes → y.no ≡ s.no → y.acked ≡ 0 → y.known ≡ s.known → Holds y
    cleared y p q z k =
        record {
          heard = λ c i. by_recorded (λ c. a.live c i j) y i (λ h. same_heard Yes i (rw p at h)) (λ h. same_heard No i (rw q at h)) (λ h. absurd (in_none i (rw z at h))) c;
          kept = λ c i. by_recorded (λ c. Recorded c y i) s i (λ h. rw p h) (λ h. rw q h)
              (λ h. let e : a.ld j ≡ j = (u.leader j i (same_heard Ack i h) x).0 in absurd (omega (arith, follows_lower))) c;
          knows = λ i h. rw k h;
        }

    -- the order that is given, and the state in which
    takes : (κ : Kind) (q : State) (y : Record) → y.state ≡ q → y.leader ≡ s.number → Holds y → (Gives κ → ⊥)
        → Does a j (λ i. In (to_all s) i) q j κ nothing → Stepped step.TakeOver (taken y (number κ) (to_all s))
    takes κ q y e f h n c =
        own_step step.TakeOver κ y (λ K i h. h) (λ o h. h)
        (subst (λ (q : State). Does a j (λ i. In (to_all s) i) q y.leader κ nothing) (sym e) (subst (λ (l : ℕ). Does a j (λ i. In (to_all s) i) q l κ nothing) (sym (f ∙ mine)) c)) h
        (mute step.TakeOver _ κ n (λ h. absurd h))

    over_in_lem : (q : State) → s.state ≡ q → M step.TakeOver (over_in q s)
    over_in_lem Q e = takes Abort A _ refl refl (cleared _ refl refl refl refl) (λ h. h) (does.shared (does.over_q backup (st_is ∙ e) (everyone low)))
    over_in_lem W e = takes MoveW W _ e refl (cleared _ refl refl refl refl) (λ h. h) (does.shared (does.over tt backup (st_is ∙ e) (everyone low)))
    over_in_lem P e = takes MoveP P _ e refl (cleared _ refl refl refl refl) (λ h. h) (does.shared (does.over tt backup (st_is ∙ e) (everyone low)))
    over_in_lem A e = takes Abort A _ e refl (cleared _ refl refl refl refl) (λ h. h) (does.shared (does.over tt backup (st_is ∙ e) (everyone low)))
    over_in_lem C e = takes Commit C _ e refl (cleared _ refl refl refl refl) (λ h. h) (does.shared (does.over tt backup (st_is ∙ e) (everyone low)))

  takes_over : M step.TakeOver (take_over_of s)
  unfolding take_over_of
  takes_over =
      by_cond (M step.TakeOver) (ltb s.leader s.number && subset (below_of s.number) s.known) (over_in s.state s) (refused s NotAllowed)
      (λ e. over_in_lem (ltb-true s.leader s.number (and_l (ltb s.leader s.number) (subset (below_of s.number) s.known) e))
      (λ i p q. subset_has (below_of s.number) s.known i (and_r (ltb s.leader s.number) (subset (below_of s.number) s.known) e) (in_below s.number i (a_site i p (omega (arith, x.most))) (rw mine q)))
      s.state refl)
      (λ _ q. cc)

  -- ---- Conclude

  concluding : (κ : Kind) (q : State) → (Gives κ → ⊥) → Does a j (λ i. In (to_all s) i) q (a.ld j) κ nothing → Stepped step.Conclude (taken (in_state s q) (number κ) (to_all s))
  concluding κ q n c = own_step step.Conclude κ (in_state s q) (λ K i h. h) (λ o h. h) (same_l c) (holds_same q s.leader) (mute step.Conclude _ κ n (λ h. absurd h))

  tallies : polls s ≡ true → M step.Conclude (tally_of s)
  unfolding polls tally_of
  tallies e =
      by_cond (M step.Conclude) (not (eqb s.no 0) || not (subset s.known s.yes)) (taken (in_state s A) 8 (to_all s))
      (cond (subset (others_of s.n s.number) s.yes) (taken (in_state s P) 4 (to_all s)) (refused s NotAllowed))
      (λ _. concluding Abort A (λ h. h) (does.central refl (does.give_up one wait (leads_itself one) (everyone (none_below one)))))
      (λ _. by_cond (M step.Conclude) (subset (others_of s.n s.number) s.yes) (taken (in_state s P) 4 (to_all s)) (refused s NotAllowed)
      (λ h. concluding MoveP P (λ h. h) (does.central refl (does.prepare one wait (leads_itself one) (said h) (everyone (none_below one)))))
      (λ _ q. cc))
    where
      one : j ≡ 1
      one = sym mine ∙ eqb-true s.number 1 (and_r (is_w s.state) (eqb s.number 1) e)

      wait : a.st j ≡ W
      wait = st_is ∙ is_w_lem s.state (and_l (is_w s.state) (eqb s.number 1) e)

      -- every other site of the run said Yes; other numbers count as having voted
      said : subset (others_of s.n s.number) s.yes ≡ true → (i : ℕ) → i ≢ j → a.live Yes i j ⊎ a.voted i
      said h i ne = go (dec_lt 0 i) (dec_lt r.n i)
        where
          go : Dec (0 < i) → Dec (r.n < i) → a.live Yes i j ⊎ a.voted i
          go (no p) q = inr (λ b _. absurd (omega arith))
          go (yes p) (yes q) = inr (λ _ b. absurd (omega arith))
          go (yes p) (no q) =
              inl (same_heard Yes i (subset_has (others_of s.n s.number) s.yes i h (in_others s.n s.number i (a_site i (omega arith) (omega arith)) (omega (arith, size)) (rw mine ne))))

  -- a leader that gathers acknowledgements is past its first phase
  module _ (e : collects s ≡ true) where
    collecting : (is_p s.state || is_w s.state && not (eqb s.number 1)) ≡ true
    unfolding collects
    collecting = and_r (leads s) (is_p s.state || is_w s.state && not (eqb s.number 1)) e

    leading : Lead a j
    unfolding collects
    leading = (
      ld_is ∙ eqb-true s.leader s.number (and_l (leads s) (is_p s.state || is_w s.state && not (eqb s.number 1)) e) ∙ mine,
      λ f. ⊎_elim (λ p. rw (st_is ∙ is_p_lem s.state p) at f.1) (λ p. eqb-false s.number 1 (not-true (eqb s.number 1) (and_r (is_w s.state) (not (eqb s.number 1)) p)) (mine ∙ f.0))
          (or_e (is_p s.state) (is_w s.state && not (eqb s.number 1)) collecting),
    )

    waits : is_p s.state ≡ false → s.state ≡ W
    waits f =
        ⊎_elim (λ p. absurd (clash p f)) (λ p. is_w_lem s.state (and_l (is_w s.state) (not (eqb s.number 1)) p))
        (or_e (is_p s.state) (is_w s.state && not (eqb s.number 1)) collecting)

    module _ (none : minus (to_all s) s.acked ≡ 0) where
      told : (i : ℕ) → In (to_all s) i → In s.acked i
      told i h = ⊎_elim (λ y. y) (λ y. absurd (in_none i (rw none at (in_minus (to_all s) s.acked i h y)))) (either (has s.acked i))

      all_told : (i : ℕ) → i ≢ j → Runs r i → a.live Ack i j
      all_told i ne y = same_heard Ack i (told i (in_all i y.least y.most ne (running i y)))

      lower : (i : ℕ) → 1 ≤ i → i < j → In s.known i
      lower i p q =
          ⊎_elim (λ y. y) (λ y. let d : j < i = u.down j i (same_heard Ack i (told i (in_all i p (omega (arith, x.most)) (λ e. omega arith) y))) in absurd (omega arith)) (either (has s.known i))

  settles : polls s ≡ false → M step.Conclude (settle_of s)
  unfolding settle_of
  settles f =
      by_cond (M step.Conclude) (collects s && eqb (awaited_of s) 0) (cond (is_p s.state) (taken (in_state s C) 7 (to_all s)) (taken (in_state s A) 8 (to_all s))) (refused s NotAllowed)
      (λ e. by_cond (M step.Conclude) (is_p s.state) (taken (in_state s C) 7 (to_all s)) (taken (in_state s A) 8 (to_all s))
      (λ p. concluding Commit C (λ h. h) (does.shared (does.end_c (leading (gather e)) (st_is ∙ is_p_lem s.state p) (all_told (gather e) (none e)) (everyone (lower (gather e) (none e))))))
      (λ p. concluding Abort A (λ h. h) (does.shared (does.end_a (leading (gather e)) (st_is ∙ waits (gather e) p) (all_told (gather e) (none e)) (everyone (lower (gather e) (none e)))))))
      (λ _ q. cc)
    where
      gather : (collects s && eqb (awaited_of s) 0) ≡ true → collects s ≡ true
      gather e = and_l (collects s) (eqb (awaited_of s) 0) e

      none : (collects s && eqb (awaited_of s) 0) ≡ true → minus (to_all s) s.acked ≡ 0
      none e = sym (awaited (gather e)) ∙ eqb-true (awaited_of s) 0 (and_r (collects s) (eqb (awaited_of s) 0) e)
        where
          awaited : collects s ≡ true → awaited_of s ≡ minus (to_all s) s.acked
          awaited h = unfold awaited_of in simp (f, h)

  concludes : M step.Conclude (conclude_of s)
  unfolding conclude_of
  concludes = by_cond (M step.Conclude) (polls s) (tally_of s) (settle_of s) tallies settles

  -- ---- every step

  pub steps : (t : Step) → names_of s t ≡ true → is_there r j t ≡ true → Sure (rule_of s t).outcome (Stepped t (rule_of s t))
  unfolding outstanding
  steps (step.Begin v) n m = begins v
  steps (step.Start from v) n m = starts from (and_r (in_run s from) (ends_of 1 from s.number) n) m v
  steps (step.Deliver K from) n m = delivers K from n m
  steps (step.Notice o) n m = notices o (named o (and_l (in_run s o) (not (eqb o s.number)) n))
  steps step.TakeOver n m = takes_over
  steps step.Conclude n m = concludes
