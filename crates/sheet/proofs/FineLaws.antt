-- A record that passes grounds 21 to 28 has parts in their ranges; one that passes ground 29 too is fine.
-- Assumes nothing.
use Prim.Native.Nat.{ℕ, ◌+◌, ◌-◌, ◌*◌, ◌/◌, ◌%◌, ◌^◌, ◌≤◌, ◌<◌}
use mathlib.Core.Bool.{Bool, true, false, not, ◌||◌}
use mathlib.Core.List.{List}
use mathlib.Core.Path.{◌≡◌, refl, sym, subst, ◌∙◌}
use native.Mathlib.Decide.{dec_lt}
use native.Mathlib.Omega.{arith}
use borrow.Author.Tests.{ltb-false, leb-false, lt-ltb, le-ltb, eqb-true, eqb-false, eq-eqb, ne_eqb, not-false}
use lib.Bits.{bit_and}
use lib.Dec.{eqb, leb, ltb}
use lib.ListN.{length, get_or, get_or-eq_default}
use Rattle.std.specs.List.{list_any}
use Rattle.sheet.specs.Index.{some_below, table}
use Rattle.sheet.proofs.IndexLaws.{none_at, any_of, found_some, and_both, or_neither, table_at, length_table}
use Rattle.sheet.specs.Record.{byte, four_at, sites_of, state_count, state_counts, mark_read, moves_of, moves_at, transition_at, transition_from, transition_in, transition_of, parts_by, parts_of, states_of, mark_in, move_of, no_transition, size_of, length_for}
use Rattle.sheet.specs.Grounds.{misframed, outside, miscounted_at, miscounted, mismeasured_by, mismarked, misplaced, unranged, reads_nothing, shares, read_elsewhere, turns_from, undoes, some_move}
use Rattle.sheet.proofs.GroundLaws.{Framed, Ordered, Passes}
use Rattle.sheet.specs.Paths.{goes, has_arrow, Cycle}
use Rattle.sheet.specs.Fine.{FineMove, Fine}
use Rattle.sheet.specs.declared.Transition.{Transition}
use Rattle.sheet.specs.declared.Sheet.{Sheet}

-- a number that is not outside its range is in it
pub record Among (least most x : ℕ) : Type 0 where
  pub low : least ≤ x
  pub high : x ≤ most

pub among : (least most x : ℕ) → outside least most x ≡ false → Among least most x
unfolding outside
among least most x e =
    let n = or_neither _ _ e in
    record { low = ltb-false _ _ n.0; high = ltb-false _ _ n.1 }

-- ground 25 about one transition
pub record Placed (s : Sheet) (t : Transition) : Type 0 where
  pub least : 1 ≤ t.site
  pub most : t.site ≤ s.sites
  pub from : t.from < states_of s t.site
  pub to : t.to < states_of s t.site
  pub vote : t.vote < 2

placed : (s : Sheet) (t : Transition) → misplaced s t ≡ false → Placed s t
unfolding misplaced
placed s t e =
    let a = or_neither _ _ e in
    let b = or_neither _ _ a.0 in
    let c = or_neither _ _ b.0 in
    let site = among _ _ _ c.0 in
    let vote : t.vote ≤ 1 = ltb-false _ _ a.1 in
    record {
      least = site.low;
      most = site.high;
      from = leb-false _ _ c.1;
      to = leb-false _ _ b.1;
      vote = omega arith;
    }

-- a transition of a sheet has no fault that no transition has
move_not : (fault : Sheet → Transition → Bool) (s : Sheet) (k : ℕ) → some_move fault s ≡ false → k < s.moves → fault s (move_of s k) ≡ false
unfolding some_move
move_not fault s k e h = none_at (λ i. fault s (move_of s i)) s.moves k e h

-- what is marked a stays marked a
keeps : (a from to : ℕ) → turns_from a from to ≡ false → from ≡ a → to ≡ a
keeps a from to e q = eqb-true to a (not-false _ (sym (simp (eq-eqb _ _ q)) ∙ e))

-- the marks that a transition goes from and to
abbrev mark_from : Sheet → Transition → ℕ
mark_from s t = mark_in s t.site t.from

abbrev mark_to : Sheet → Transition → ℕ
mark_to s t = mark_in s t.site t.to

-- grounds 25 to 28 about a sheet
module _ (s : Sheet) (o : Ordered s) where
  marked : (k : ℕ) → k < 32 → get_or s.marks k 0 < 3
  unfolding unranged mismarked
  marked k h =
      let most : get_or s.marks k 0 ≤ 2 = ltb-false _ _ (none_at (mismarked s.marks) 32 k (or_neither _ _ o.ranged).0 h) in
      omega arith

  move_placed : (k : ℕ) → k < s.moves → Placed s (move_of s k)
  unfolding unranged
  move_placed k h =
      placed s (move_of s k)
      (move_not misplaced s k (or_neither (some_below (mismarked s.marks) 32) (some_move misplaced s) o.ranged).1 h)

  move_prompted : (k : ℕ) → k < s.moves → 1 ≤ (move_of s k).reads
  unfolding reads_nothing
  move_prompted k h =
      let some : (move_of s k).reads ≡ 0 → ⊥ = eqb-false _ _ (move_not reads_nothing s k o.prompted h) in
      omega arith

  move_kept : (k : ℕ) → k < s.moves
      → (turns_from 1 (mark_from s (move_of s k)) (mark_to s (move_of s k)) ≡ false) × (turns_from 2 (mark_from s (move_of s k)) (mark_to s (move_of s k)) ≡ false)
  unfolding undoes
  move_kept k h = or_neither _ _ (move_not undoes s k o.kept h)

  reads_apart : (i j : ℕ) → i < s.moves → j < s.moves → ((move_of s i).site ≡ (move_of s j).site → ⊥)
      → bit_and (move_of s i).reads (move_of s j).reads ≡ 0
  unfolding read_elsewhere shares
  reads_apart i j h l d =
      let none : shares (move_of s j) (move_of s i) ≡ false =
      none_at (λ u. shares (move_of s j) (move_of s u)) s.moves i (move_not read_elsewhere s j o.apart l) h in
      eqb-true _ 0 (not-false _ (sym (simp (ne_eqb _ _ d)) ∙ none))

-- four bytes are a number below 2^32
word_small : (l : List ℕ) → ((k : ℕ) → byte l k < 256) → (at : ℕ) → four_at l at < 2 ^ 32
unfolding four_at
word_small l small at = omega (arith, small at, small (at + 1), small (at + 2), small (at + 3))

-- past the places of the parts there is nothing, and at a place for what the sheet does not have there is zero
mark_past : (l : List ℕ) (k : ℕ) → 32 ≤ k → get_or (parts_of l).marks k 0 ≡ 0
unfolding parts_by
mark_past l k h =
    let f = mark_read l (sites_of l) (state_counts l) in
    get_or-eq_default (table f 32) 0 {n = k} (omega (arith, length_table f 32))

mark_none : (l : List ℕ) (k : ℕ) → get_or (state_counts l) (k / 8) 0 ≤ k % 8 → get_or (parts_of l).marks k 0 ≡ 0
unfolding parts_by mark_read
mark_none l k h = go (dec_lt k 32)
  where
    go : Dec (k < 32) → get_or (parts_of l).marks k 0 ≡ 0
    go (yes b) = table_at (mark_read l (sites_of l) (state_counts l)) 32 k 0 b ∙ simp (le-ltb _ _ h)
    go (no b) = mark_past l k (omega arith)

move_none : (l : List ℕ) (k : ℕ) → moves_of l (sites_of l) (state_counts l) ≤ k → move_of (parts_of l) k ≡ no_transition
unfolding parts_by transition_in
move_none l k h = go (dec_lt k 64)
  where
    f : ℕ → Transition
    f = transition_of l (sites_of l) (state_counts l)

    go : Dec (k < 64) → move_of (parts_of l) k ≡ no_transition
    go (yes b) = table_at f 64 k no_transition b ∙ simp (le-ltb _ _ h)
    go (no b) = get_or-eq_default (table f 64) no_transition {n = k} (omega (arith, length_table f 64))

-- a record that passes grounds 21 to 24 is as long as its counts say, and has at most 64 transitions, and two to four sites of one to eight states
module _ (l : List ℕ) (f : Framed l) where
  measured : (leb (length l) (moves_at (sites_of l) (state_counts l)) || ltb 64 (moves_of l (sites_of l) (state_counts l)) ≡ false) × (size_of l ≡ length_for (sites_of l) (state_counts l) (moves_of l (sites_of l) (state_counts l)))
  unfolding mismeasured_by
  measured = let a = or_neither _ _ f.measured in (a.0, eqb-true _ _ (not-false _ a.1))

  pub moves_few : moves_of l (sites_of l) (state_counts l) ≤ 64
  moves_few = ltb-false _ _ (or_neither (leb (length l) (moves_at (sites_of l) (state_counts l))) _ measured.0).1

  pub framed_size : length l ≡ 2 + size_of l
  unfolding misframed
  framed_size =
      let a = or_neither (ltb (length l) 2 || not (eqb (length l) (2 + size_of l))) (eqb (size_of l) 0) f.framed in
      let b = or_neither (ltb (length l) 2) (not (eqb (length l) (2 + size_of l))) a.0 in
      eqb-true (length l) (2 + size_of l) (not-false _ b.1)

  pub whole : length l ≡ moves_at (sites_of l) (state_counts l) + 1 + 12 * moves_of l (sites_of l) (state_counts l)
  whole = omega (arith, framed_size, measured.1)

  sites_among : Among 2 4 (sites_of l)
  unfolding miscounted
  sites_among = among 2 4 (sites_of l) (or_neither _ _ f.counted).0

  pub sites_few : sites_of l ≤ 4
  sites_few = sites_among.high

  count_there : (i : ℕ) → i < sites_of l → Among 1 8 (get_or (state_counts l) i 0)
  unfolding miscounted miscounted_at state_counts state_count
  count_there i h =
      let four : sites_of l ≤ 4 = sites_few in
      let is : get_or (state_counts l) i 0 ≡ byte l (4 + i) = table_at (state_count l) 4 i 0 (omega arith) ∙ simp (lt-ltb _ _ h) in
      let a = among 1 8 (byte l (4 + i)) (none_at (miscounted_at l) (sites_of l) i (or_neither (outside 2 4 (sites_of l)) (some_below (miscounted_at l) (sites_of l)) f.counted).1 h) in
      record { low = omega (arith, a.low); high = omega (arith, a.high) }

  count_absent : (i : ℕ) → sites_of l ≤ i → get_or (state_counts l) i 0 ≡ 0
  unfolding state_counts state_count
  count_absent i h = go (dec_lt i 4)
    where
      go : Dec (i < 4) → get_or (table (state_count l) 4) i 0 ≡ 0
      go (yes b) = table_at (state_count l) 4 i 0 b ∙ simp (le-ltb _ _ h)
      go (no b) = get_or-eq_default (table (state_count l) 4) 0 {n = i} (omega (arith, length_table (state_count l) 4))

  pub count_few : (i : ℕ) → get_or (state_counts l) i 0 ≤ 8
  count_few i = go (dec_lt i (sites_of l))
    where
      go : Dec (i < sites_of l) → get_or (state_counts l) i 0 ≤ 8
      go (yes b) = (count_there i b).high
      go (no b) = omega (arith, count_absent i (omega arith))

-- transitions without a fault of ground 25 are of four sites
pub sited : (s : Sheet) (l : List Transition) → s.sites ≤ 4 → list_any (misplaced s) l ≡ false
    → (k : ℕ) (d : Transition) → k < length l → (1 ≤ (get_or l k d).site) × ((get_or l k d).site ≤ 4)
sited s l four e k d h =
    let m = placed s (get_or l k d) (none_at _ (length l) k (sym (any_of (misplaced s) d l (length l) refl) ∙ e) h) in
    (m.least, omega (arith, m.most))

-- grounds 21 to 24 about the parts
module _ (l : List ℕ) (p : Passes l) where
  mark_small : (k : ℕ) → get_or (parts_of l).marks k 0 < 3
  mark_small k = go (dec_lt k 32)
    where
      go : Dec (k < 32) → get_or (parts_of l).marks k 0 < 3
      go (yes b) = marked (parts_of l) p.parts k b
      go (no b) = omega (arith, mark_past l k (omega arith))

  -- transition k of the parts is read from its twelve bytes
  move_is : (k : ℕ) → k < moves_of l (sites_of l) (state_counts l)
      → move_of (parts_of l) k ≡ transition_from l (transition_at (sites_of l) (state_counts l) k)
  unfolding parts_by transition_in
  move_is k h =
      let few = moves_few l p.frame in
      table_at (transition_of l (sites_of l) (state_counts l)) 64 k no_transition (omega arith) ∙ simp (lt-ltb _ _ h)

  -- a transition of a site joins two of its states, of at most eight
  pub leads_low : (site q r : ℕ) → has_arrow (parts_of l) site q r ≡ true → (1 ≤ site) × (site ≤ 4) × (q < 8) × (r < 8)
  unfolding has_arrow goes parts_by
  leads_low site q r e =
      let f = found_some (λ i. goes (move_of (parts_of l) i) site q r) (parts_of l).moves e in
      let t = move_of (parts_of l) f.place in
      let a = and_both _ _ f.passes in
      let b = and_both _ _ a.0 in
      let at : t.site ≡ site = eqb-true _ _ b.0 in
      let from : t.from ≡ q = eqb-true _ _ b.1 in
      let to : t.to ≡ r = eqb-true _ _ a.1 in
      let m = move_placed (parts_of l) p.parts f.place f.below in
      let few : states_of (parts_of l) t.site ≤ 8 = count_few l p.frame (t.site - 1) in
      let four : sites_of l ≤ 4 = sites_few l p.frame in
      (omega (arith, m.least), omega (arith, m.most), omega (arith, m.from), omega (arith, m.to))

-- an accepted record's parts are fine
module _ (l : List ℕ) (small : (k : ℕ) → byte l k < 256) (p : Passes l) where
  move_words : (k : ℕ) → k < moves_of l (sites_of l) (state_counts l) → ((move_of (parts_of l) k).reads < 2 ^ 32) × ((move_of (parts_of l) k).writes < 2 ^ 32)
  unfolding transition_from
  move_words k h =
      let e = move_is l p k h in (
        subst (λ (t : Transition). t.reads < 2 ^ 32) (sym e) (word_small l small _),
        subst (λ (t : Transition). t.writes < 2 ^ 32) (sym e) (word_small l small _),
      )

  fine_move : (k : ℕ) → k < (parts_of l).moves → FineMove (parts_of l) (move_of (parts_of l) k)
  unfolding parts_by
  fine_move k h =
      let m = move_placed (parts_of l) p.parts k h in
      let w = move_words k h in
      let kept = move_kept (parts_of l) p.parts k h in
      record {
        least = m.least;
        most = m.most;
        from = m.from;
        to = m.to;
        vote = m.vote;
        reads = w.0;
        writes = w.1;
        prompted = move_prompted (parts_of l) p.parts k h;
        abort = keeps 1 _ _ kept.0;
        commit = keeps 2 _ _ kept.1;
      }

  pub fine : (Cycle (parts_of l) → ⊥) → Fine (parts_of l)
  unfolding parts_by
  fine none =
      record {
        least = (sites_among l p.frame).low;
        most = (sites_among l p.frame).high;
        some = λ i h. (count_there l p.frame i h).low;
        many = count_few l p.frame;
        blank = record { absent = count_absent l p.frame; unmarked = mark_none l; rest = move_none l };
        marks = mark_small l p;
        first = word_small l small _;
        few = moves_few l p.frame;
        each = fine_move;
        apart = reads_apart (parts_of l) p.parts;
        acyclic = none;
      }
