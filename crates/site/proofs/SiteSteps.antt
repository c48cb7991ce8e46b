-- Every rule of a site gives one of SiteFacts' outcomes.
-- Assumes nothing.
use Prim.Native.Nat.{ℕ, ◌^◌, ◌≤◌, ◌<◌}
use mathlib.Core.Bool.{Bool, true, false, cond, not, ◌&&◌, ◌||◌, true≢false, false≢true}
use mathlib.Core.Path.{◌≡◌, refl, ◌∙◌, subst}
use mathlib.Core.Logic.{◌≢◌, inl, inr}
use native.Mathlib.Omega.{arith}
use lib.Dec.{eqb, leb, ltb}
use borrow.Author.Tests.{le-leb, leb-true, ne_eqb, eqb-true, eqb-false, ltb-true, ltb-false}
use Rattle.std.proofs.lemmas.Bool.Decides.{nat_tests}
use Rattle.sets.specs.Sets.{has, weight_of, union, with_site, subset, all_of, below_of}
use Rattle.sets.proofs.SetLaws.{site_is, has_others}
use Rattle.sets.proofs.Truths.{and_l, and_r, not_e}
use Rattle.sets.proofs.SubsetLaws.{others_lt, union_within, within_l, within_r, subset_none}
use Rattle.refusal.specs.declared.Refusal.TheVariants.{NotSound, WrongNames, NotAllowed}
use Rattle.site.specs.declared.State.{State}
use Rattle.site.specs.declared.State.TheVariants.{Q, W, P, A, C}
use Rattle.site.specs.declared.Vote.{Vote}
use Rattle.site.specs.declared.Vote.TheVariants.{Yes, No}
use Rattle.site.specs.declared.Order.{Order}
use Rattle.site.specs.declared.Order.TheVariants.{To, Over, Conflict}
use Rattle.site.specs.declared.Site.{Site}
use Rattle.site.specs.declared.Step.{Step}
use Rattle.site.specs.declared.Step.TheVariants.{Begin, Start, Deliver, Notice, TakeOver, Conclude}
use Rattle.site.specs.Site.{is_q, is_w, is_p, in_state, following, knowing, with_acked, named, sound_of, is_order, ends_of, to_all, in_run, names_of, leads, polls, collects, awaited_of, refused, passed, taken}
use Rattle.site.specs.First.{begun, begin_of, voted, start_of, noted, vote_of, tally_of}
use Rattle.site.specs.Leader.{move_p_at, move_w_at, commit_at, abort_at, order_at, obeyed, obey_of, ack_of, over_in, take_over_of, settle_of}
use Rattle.site.specs.Step.{notice_of, conclude_of, deliver_of, rule_of, done_of}
use Rattle.site.proofs.SiteFacts.{others, SoundSite, lower_known, Ends, Moves, Follows, Change, Outward, Fit, Orders, Did, Sends}
use Rattle.site.proofs.SiteFacts.Ends.{start, yes as ends_yes, no as ends_no, move_p, move_w, ack, commit, abort}
use Rattle.site.proofs.SiteFacts.Moves.{stays, q_w, q_a, w_p, w_a, p_w, p_c}
use Rattle.site.proofs.SiteFacts.Follows.{same, obeys, itself}
use Rattle.site.proofs.SiteFacts.Grows.{kept, gained}
use Rattle.site.proofs.SiteFacts.Outward.{starts, moves_p, moves_w, commits, aborts}
use Rattle.site.proofs.SiteFacts.Sends.{a_start, another}
use Rattle.site.proofs.SiteFacts.Back.{says_yes, says_no, acks}
use Rattle.site.proofs.SiteFacts.Wrote.{nothing, to_all_lem, to_one}
use Rattle.site.proofs.SiteFacts.Ruled.{begin, take_over, conclude}
use Rattle.site.proofs.SiteFacts.Orders.{order}
use Rattle.site.proofs.SiteFacts.Ground.{not_sound, wrong_names, not_allowed, in_conflict}
use Rattle.site.proofs.SiteFacts.Did.{refuses, passes, takes}

-- ---- sound records

module _ (s : Site) where
  abbrev near : ℕ
  near = union s.known s.yes

  abbrev far : ℕ
  far = union s.no s.acked

  bound : others s < 2 ^ 8
  bound = others_lt s.n s.number

  -- the test of soundness gives its parts, and they give the test
  pub sound_parts : sound_of s ≡ true → SoundSite s
  unfolding sound_of
  sound_parts h =
      let within : subset (named s) (others s) ≡ true = grind (arith, nat_tests) in
      let l = within_l near far (others s) bound within in
      let r = within_r near far (others s) bound within in
      record {
        least = grind (arith, nat_tests);
        most = grind (arith, nat_tests);
        first = grind (arith, nat_tests);
        last = grind (arith, nat_tests);
        led = grind (arith, nat_tests);
        leader = grind (arith, nat_tests);
        known = within_l s.known s.yes (others s) bound l;
        yes = within_r s.known s.yes (others s) bound l;
        no = within_l s.no s.acked (others s) bound r;
        acked = within_r s.no s.acked (others s) bound r;
      }

  pub parts_sound : SoundSite s → sound_of s ≡ true
  unfolding sound_of
  parts_sound g =
      let l = union_within s.known s.yes (others s) bound g.known g.yes in
      let r = union_within s.no s.acked (others s) bound g.no g.acked in
      let within : subset (named s) (others s) ≡ true = union_within near far (others s) bound l r in
      grind (arith, nat_tests)

-- ---- ends

-- the test of the ends gives the right ends, and they give the test
pub ends_parts : (k from to : ℕ) → ends_of k from to ≡ true → Ends k from to
unfolding ends_of
ends_parts k from to h = one (eqb k 1) (eqb k 2) (eqb k 3) (eqb k 6) refl refl refl refl h
  where
    vote : (x y : Bool) → eqb k 2 ≡ x → eqb k 3 ≡ y → (x || y) ≡ true → 1 < from → to ≡ 1 → Ends k from to
    vote true y p q h l e = rw (eqb-true k 2 p, e) (ends_yes l)
    vote false true p q h l e = rw (eqb-true k 3 q, e) (ends_no l)
    vote false false p q h l e = absurd (false≢true h)

    order : (w x y z : Bool) → eqb k 4 ≡ w → eqb k 5 ≡ x → eqb k 7 ≡ y → eqb k 8 ≡ z → cond (w || x || y || z) (ltb from to) false ≡ true → Ends k from to
    order true x y z p q u v h = rw (eqb-true k 4 p) (move_p (ltb-true from to h))
    order false true y z p q u v h = rw (eqb-true k 5 q) (move_w (ltb-true from to h))
    order false false true z p q u v h = rw (eqb-true k 7 u) (commit (ltb-true from to h))
    order false false false true p q u v h = rw (eqb-true k 8 v) (abort (ltb-true from to h))
    order false false false false p q u v h = absurd (false≢true h)

    one : (w x y z : Bool) → eqb k 1 ≡ w → eqb k 2 ≡ x → eqb k 3 ≡ y → eqb k 6 ≡ z
        → cond w (eqb from 1 && ltb 1 to) (cond (x || y) (ltb 1 from && eqb to 1) (cond z (ltb to from) (cond (is_order k) (ltb from to) false))) ≡ true → Ends k from to
    one true x y z p q u v h = rw (eqb-true k 1 p, eqb-true from 1 (and_l (eqb from 1) (ltb 1 to) h)) (start (ltb-true 1 to (and_r (eqb from 1) (ltb 1 to) h)))
    one false true y z p q u v h = vote true y q u refl (ltb-true 1 from (and_l (ltb 1 from) (eqb to 1) h)) (eqb-true to 1 (and_r (ltb 1 from) (eqb to 1) h))
    one false false true z p q u v h = vote false true q u refl (ltb-true 1 from (and_l (ltb 1 from) (eqb to 1) h)) (eqb-true to 1 (and_r (ltb 1 from) (eqb to 1) h))
    one false false false true p q u v h = rw (eqb-true k 6 v) (ack (ltb-true to from h))
    one false false false false p q u v h = order (eqb k 4) (eqb k 5) (eqb k 7) (eqb k 8) refl refl refl refl h

pub parts_ends : {k from to : ℕ} → Ends k from to → ends_of k from to ≡ true
unfolding ends_of
parts_ends (start l) = grind (arith, nat_tests)
parts_ends (ends_yes l) = grind (arith, nat_tests)
parts_ends (ends_no l) = grind (arith, nat_tests)
parts_ends (move_p l) = grind (arith, nat_tests)
parts_ends (move_w l) = grind (arith, nat_tests)
parts_ends (ack l) = grind (arith, nat_tests)
parts_ends (commit l) = grind (arith, nat_tests)
parts_ends (abort l) = grind (arith, nat_tests)

-- ---- states by their tests

pub is_q_lem : (q : State) → is_q q ≡ true → q ≡ Q
is_q_lem Q e = refl
is_q_lem W e = absurd (false≢true e)
is_q_lem P e = absurd (false≢true e)
is_q_lem A e = absurd (false≢true e)
is_q_lem C e = absurd (false≢true e)

pub is_w_lem : (q : State) → is_w q ≡ true → q ≡ W
is_w_lem Q e = absurd (false≢true e)
is_w_lem W e = refl
is_w_lem P e = absurd (false≢true e)
is_w_lem A e = absurd (false≢true e)
is_w_lem C e = absurd (false≢true e)

pub is_p_lem : (q : State) → is_p q ≡ true → q ≡ P
is_p_lem Q e = absurd (false≢true e)
is_p_lem W e = absurd (false≢true e)
is_p_lem P e = refl
is_p_lem A e = absurd (false≢true e)
is_p_lem C e = absurd (false≢true e)

-- ---- orders

-- an order that is obeyed moves the state as a rule of 01 does, or leaves it
data Lawful (q : State) : Order → Type 0 where
  goes : {p : State} → Moves q p → Lawful q (To p)
  over : Lawful q Over
  conflict : Lawful q Conflict

lawful_p : (q : State) → Lawful q (move_p_at q)
lawful_p Q = conflict
lawful_p W = goes w_p
lawful_p P = goes stays
lawful_p A = conflict
lawful_p C = goes stays

lawful_w : (q : State) → Lawful q (move_w_at q)
lawful_w Q = goes q_w
lawful_w W = goes stays
lawful_w P = goes p_w
lawful_w A = goes stays
lawful_w C = conflict

lawful_commit : (q : State) → Lawful q (commit_at q)
lawful_commit Q = conflict
lawful_commit W = conflict
lawful_commit P = goes p_c
lawful_commit A = conflict
lawful_commit C = over

lawful_abort : (q : State) → Lawful q (abort_at q)
lawful_abort Q = goes q_a
lawful_abort W = goes w_a
lawful_abort P = conflict
lawful_abort A = over
lawful_abort C = conflict

-- ---- the rules

-- the lower sites of site 1 are none
pub first_lower : (s : Site) → s.number ≡ 1 → lower_known s ≡ true
unfolding lower_known below_of all_of
first_lower s e = rw e (subset_none s.known)

in_least : (s : Site) (j : ℕ) → in_run s j ≡ true → 1 ≤ j
unfolding in_run
in_least s j h = leb-true 1 j (and_l (leb 1 j) (leb j s.n) h)

in_most : (s : Site) (j : ℕ) → in_run s j ≡ true → j ≤ s.n
unfolding in_run
in_most s j h = leb-true j s.n (and_r (leb 1 j) (leb j s.n) h)

module _ (s : Site) (t : Step) (f : Fit s t) where
  -- the record with another state and leader, at the head
  turns : (q : State) (l : ℕ) → Moves s.state q → Follows s l → Change s t (following (in_state s q) l)
  turns q l m h =
      record { n = refl; number = refl; state = m; leader = h; known = kept; yes = kept; no = kept; acked = inl kept }

  heads : (q : State) → Moves s.state q → Follows s s.number → Change s t (with_acked (following (in_state s q) s.number) 0)
  heads q m h =
      record { n = refl; number = refl; state = m; leader = h; known = kept; yes = kept; no = kept; acked = inr refl }

  other : (j : ℕ) → in_run s j ≡ true → j ≢ s.number → has (others s) j ≡ true
  other j h d =
      has_others s.n s.number j
      ∙ simp (site_is j (in_least s j h) (omega (arith, in_most s j h, f.sound.most)), le-leb j s.n (in_most s j h), ne_eqb j s.number d)

did_begin : (s : Site) (v : Vote) → Fit s (Begin v) → Did s (Begin v) (begin_of s v)
unfolding begin_of
did_begin s v f = go (eqb s.number 1 && is_q s.state) refl
  where
    begins : (u : Vote) → s.number ≡ 1 → s.state ≡ Q → Did s (Begin v) (begun u s)
    begins Yes e q = takes f (turns s (Begin v) f W s.leader (rw q q_w) same) (to_all_lem (starts e) (inl (first_lower s e)))
    begins No e q = takes f (turns s (Begin v) f A s.leader (rw q q_a) same) (to_all_lem aborts (inl (first_lower s e)))

    go : (b : Bool) → (eqb s.number 1 && is_q s.state) ≡ b → Did s (Begin v) (cond b (begun v s) (refused s NotAllowed))
    go true e = begins v (eqb-true s.number 1 (and_l (eqb s.number 1) (is_q s.state) e)) (is_q_lem s.state (and_r (eqb s.number 1) (is_q s.state) e))
    go false e = refuses (not_allowed f begin)

did_start : (s : Site) (from : ℕ) (v : Vote) → Fit s (Start from v) → Did s (Start from v) (start_of s from v)
unfolding start_of ends_of
did_start s from v f = go (not (ltb from s.leader) && is_q s.state) refl
  where
    ends : (eqb from 1 && ltb 1 s.number) ≡ true
    ends = and_r (in_run s from) (ends_of 1 from s.number) f.names

    above : 1 < s.number
    above = ltb-true 1 s.number (and_r (eqb from 1) (ltb 1 s.number) ends)

    sender : Sends (Start from v) 1
    sender = subst (Sends (Start from v)) (eqb-true from 1 (and_l (eqb from 1) (ltb 1 s.number) ends)) a_start

    votes : (u : Vote) → s.state ≡ Q → Did s (Start from v) (voted u s)
    votes Yes q = takes f (turns s (Start from v) f W s.leader (rw q q_w) same) (to_one (says_yes sender above))
    votes No q = takes f (turns s (Start from v) f A s.leader (rw q q_a) same) (to_one (says_no sender above))

    go : (b : Bool) → (not (ltb from s.leader) && is_q s.state) ≡ b → Did s (Start from v) (cond b (voted v s) (passed s))
    go true e = votes v (is_q_lem s.state (and_r (not (ltb from s.leader)) (is_q s.state) e))
    go false e = passes f same

-- the kind of message that tells a vote
abbrev vote_kind : Vote → ℕ
vote_kind Yes = 2
vote_kind No = 3

did_vote : (s : Site) (t : Step) (from : ℕ) (v : Vote) → Fit s t → t ≡ Deliver (vote_kind v) from → has (others s) from ≡ true → Did s t (vote_of s from v)
unfolding vote_of
did_vote s t from v f d o = go (polls s)
  where
    notes : (u : Vote) → t ≡ Deliver (vote_kind u) from → Change s t (noted u s from)
    notes Yes d =
        record { n = refl; number = refl; state = stays; leader = same; known = kept; yes = gained from d o; no = kept; acked = inl kept }
    notes No d =
        record { n = refl; number = refl; state = stays; leader = same; known = kept; yes = kept; no = gained from d o; acked = inl kept }

    go : (b : Bool) → Did s t (cond b (taken (noted v s from) 0 0) (passed s))
    go true = takes f (notes v d) nothing
    go false = passes f same

did_ack : (s : Site) (t : Step) (from : ℕ) → Fit s t → t ≡ Deliver 6 from → has (others s) from ≡ true → Did s t (ack_of s from)
unfolding ack_of
did_ack s t from f d o = go (collects s)
  where
    go : (b : Bool) → Did s t (cond b (taken (with_acked s (with_site s.acked from)) 0 0) (passed s))
    go true =
        takes f (record { n = refl; number = refl; state = stays; leader = same; known = kept; yes = kept; no = kept; acked = inl (gained from d o) }) nothing
    go false = passes f same

did_obey : (s : Site) (t : Step) (k from : ℕ) → Fit s t → Sends t from → Orders t → 1 ≤ from → from < s.number → Lawful s.state (order_at k s.state) → Did s t (obey_of s k from)
unfolding obey_of
did_obey s t k from f d u lo hi w = go (ltb from s.leader) refl
  where
    answer : (q : State) → Change s t (following (in_state s q) from) → (b : Bool)
        → Did s t (cond b (taken (following (in_state s q) from) 6 (weight_of from)) (taken (following (in_state s q) from) 0 0))
    answer q c true = takes f c (to_one (acks d lo hi))
    answer q c false = takes f c nothing

    heeds : (o : Order) → Lawful s.state o → s.leader ≤ from → Did s t (obeyed o s k from)
    heeds (To q) (goes m) l = answer q (turns s t f q from m (obeys l hi)) (eqb k 4 || eqb k 5)
    heeds Over over l = passes f (obeys l hi)
    heeds Conflict conflict l = refuses (in_conflict f u)

    go : (b : Bool) → ltb from s.leader ≡ b → Did s t (cond b (passed s) (obeyed (order_at k s.state) s k from))
    go true e = passes f same
    go false e = heeds (order_at k s.state) w (ltb-false from s.leader e)

-- a delivery, by the ends that its kind has
did_deliver : {k from to : ℕ} → Ends k from to → (s : Site) → s.number ≡ to → eqb k 1 ≡ false → in_run s from ≡ true → Fit s (Deliver k from)
    → Did s (Deliver k from) (deliver_of s k from)
unfolding deliver_of
did_deliver (start l) s e n r f = absurd (true≢false n)
did_deliver (ends_yes {from} l) s e n r f = did_vote s (Deliver 2 from) from Yes f refl (other s (Deliver 2 from) f from r (omega arith))
did_deliver (ends_no {from} l) s e n r f = did_vote s (Deliver 3 from) from No f refl (other s (Deliver 3 from) f from r (omega arith))
did_deliver (move_p {from} l) s e n r f = did_obey s (Deliver 4 from) 4 from f another (order refl) (in_least s from r) (rw e l) (lawful_p s.state)
did_deliver (move_w {from} l) s e n r f = did_obey s (Deliver 5 from) 5 from f another (order refl) (in_least s from r) (rw e l) (lawful_w s.state)
did_deliver (ack {from} l) s e n r f = did_ack s (Deliver 6 from) from f refl (other s (Deliver 6 from) f from r (omega arith))
did_deliver (commit {from} l) s e n r f = did_obey s (Deliver 7 from) 7 from f another (order refl) (in_least s from r) (rw e l) (lawful_commit s.state)
did_deliver (abort {from} l) s e n r f = did_obey s (Deliver 8 from) 8 from f another (order refl) (in_least s from r) (rw e l) (lawful_abort s.state)

did_notice : (s : Site) (o : ℕ) → Fit s (Notice o) → Did s (Notice o) (notice_of s o)
unfolding notice_of
did_notice s o f = go (has s.known o)
  where
    fresh : has (others s) o ≡ true
    fresh = other s (Notice o) f o (and_l (in_run s o) (not (eqb o s.number)) f.names) (eqb-false o s.number (not_e (eqb o s.number) (and_r (in_run s o) (not (eqb o s.number)) f.names)))

    go : (b : Bool) → Did s (Notice o) (cond b (passed s) (taken (knowing s (with_site s.known o)) 0 0))
    go true = passes f same
    go false =
        takes f (record { n = refl; number = refl; state = stays; leader = same; known = gained o refl fresh; yes = kept; no = kept; acked = inl kept }) nothing

did_take_over : (s : Site) → Fit s TakeOver → Did s TakeOver (take_over_of s)
unfolding take_over_of lower_known
did_take_over s f = go (ltb s.leader s.number && subset (below_of s.number) s.known) refl
  where
    at : (q : State) → s.state ≡ q → s.leader < s.number → lower_known s ≡ true → Did s TakeOver (over_in q s)
    at Q e l k = takes f (heads s TakeOver f A (rw e q_a) (itself l k)) (to_all_lem aborts (inl k))
    at W e l k = takes f (heads s TakeOver f s.state stays (itself l k)) (to_all_lem moves_w (inl k))
    at P e l k = takes f (heads s TakeOver f s.state stays (itself l k)) (to_all_lem moves_p (inl k))
    at A e l k = takes f (heads s TakeOver f s.state stays (itself l k)) (to_all_lem aborts (inl k))
    at C e l k = takes f (heads s TakeOver f s.state stays (itself l k)) (to_all_lem commits (inl k))

    go : (b : Bool) → (ltb s.leader s.number && subset (below_of s.number) s.known) ≡ b → Did s TakeOver (cond b (over_in s.state s) (refused s NotAllowed))
    go true e =
        at s.state refl (ltb-true s.leader s.number (and_l (ltb s.leader s.number) (subset (below_of s.number) s.known) e)) (and_r (ltb s.leader s.number) (subset (below_of s.number) s.known) e)
    go false e = refuses (not_allowed f take_over)

did_conclude : (s : Site) → Fit s Conclude → Did s Conclude (conclude_of s)
unfolding conclude_of tally_of settle_of polls collects
did_conclude s f = go (polls s) refl
  where
    concludes : (q : State) (k : ℕ) → s.leader ≡ s.number → Moves s.state q → Outward s k → Did s Conclude (taken (in_state s q) k (to_all s))
    concludes q k l m o = takes f (turns s Conclude f q s.leader m same) (to_all_lem o (inr (record { step = refl; leads = l })))

    tally : s.leader ≡ s.number → s.state ≡ W → (x y : Bool) → Did s Conclude (cond x (taken (in_state s A) 8 (to_all s)) (cond y (taken (in_state s P) 4 (to_all s)) (refused s NotAllowed)))
    tally l e true y = concludes A 8 l (rw e w_a) aborts
    tally l e false true = concludes P 4 l (rw e w_p) moves_p
    tally l e false false = refuses (not_allowed f conclude)

    -- a leader that gathers acknowledgements stands in p or w
    stands : s.leader ≡ s.number → (x w : Bool) → is_p s.state ≡ x → is_w s.state ≡ w → (x || w && not (eqb s.number 1)) ≡ true → Did s Conclude (cond x (taken (in_state s C) 7 (to_all s)) (taken (in_state s A) 8 (to_all s)))
    stands l true w p q h = concludes C 7 l (rw (is_p_lem s.state p) p_c) commits
    stands l false true p q h = concludes A 8 l (rw (is_w_lem s.state q) w_a) aborts
    stands l false false p q h = absurd (false≢true h)

    settle : (b : Bool) → (collects s && eqb (awaited_of s) 0) ≡ b
        → Did s Conclude (cond b (cond (is_p s.state) (taken (in_state s C) 7 (to_all s)) (taken (in_state s A) 8 (to_all s))) (refused s NotAllowed))
    settle true e =
        let c : (leads s && (is_p s.state || is_w s.state && not (eqb s.number 1))) ≡ true = and_l (collects s) (eqb (awaited_of s) 0) e in
        stands (eqb-true s.leader s.number (and_l (leads s) (is_p s.state || is_w s.state && not (eqb s.number 1)) c)) (is_p s.state) (is_w s.state) refl refl
        (and_r (leads s) (is_p s.state || is_w s.state && not (eqb s.number 1)) c)
    settle false e = refuses (not_allowed f conclude)

    go : (b : Bool) → polls s ≡ b → Did s Conclude (cond b (tally_of s) (settle_of s))
    go true e =
        let o : s.number ≡ 1 = eqb-true s.number 1 (and_r (is_w s.state) (eqb s.number 1) e) in
        tally (omega (arith, f.sound.led, f.sound.leader)) (is_w_lem s.state (and_l (is_w s.state) (eqb s.number 1) e))
        (not (eqb s.no 0) || not (subset s.known s.yes)) (subset (others s) s.yes)
    go false e = settle (collects s && eqb (awaited_of s) 0) refl

did_rule : (s : Site) (t : Step) → Fit s t → Did s t (rule_of s t)
did_rule s (Begin v) f = did_begin s v f
did_rule s (Start from v) f = did_start s from v f
did_rule s (Deliver k from) f = did_deliver (ends_parts k from s.number (and_r x z f.names)) s refl (not_e (eqb k 1) (and_r y w (and_l x z f.names))) (and_l y w (and_l x z f.names)) f
  where
    y : Bool
    y = in_run s from

    w : Bool
    w = not (eqb k 1)

    x : Bool
    x = y && w

    z : Bool
    z = ends_of k from s.number
did_rule s (Notice o) f = did_notice s o f
did_rule s TakeOver f = did_take_over s f
did_rule s Conclude f = did_conclude s f

-- every step of every record is refused with its ground, passed over, or taken
pub did : (s : Site) (t : Step) → Did s t (done_of s t)
unfolding done_of
did s t = go (sound_of s) refl
  where
    rule : SoundSite s → (b : Bool) → names_of s t ≡ b → Did s t (cond b (rule_of s t) (refused s WrongNames))
    rule g true e = did_rule s t (record { sound = g; names = e })
    rule g false e = refuses (wrong_names g e)

    go : (b : Bool) → sound_of s ≡ b → Did s t (cond b (cond (names_of s t) (rule_of s t) (refused s WrongNames)) (refused s NotSound))
    go true e = rule (sound_parts s e) (names_of s t) refl
    go false e = refuses (not_sound e)
