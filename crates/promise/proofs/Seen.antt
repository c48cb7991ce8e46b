-- The real run as the invariant sees it, and that a whole step and a cut one are no more than the invariant allows for.
-- Assumes nothing.
use Prim.Native.Nat.{ℕ, ◌-◌, ◌≤◌}
use mathlib.Core.Bool.{cond}
use mathlib.Core.List.{List}
use mathlib.Core.Path.{◌≡◌, refl, sym, ap, subst, ◌∙◌}
use mathlib.Core.Logic.{◌≢◌, ◌⊎◌, inl, inr, ⊎_elim}
use native.Mathlib.Omega.{arith}
use lib.Dec.{eqb}
use lib.ListN.{length, set, length-map}
use Rattle.sets.specs.Sets.{has, with_site}
use Rattle.site.specs.declared.Site.{Site as Record}
use Rattle.run.specs.declared.Run.{Run}
use Rattle.run.specs.Run.{remade, stopped_at, sent_in, stopped_in}
use Rattle.sets.proofs.Truths.{clash, fails}
use Rattle.promise.proofs.SetsMembers.{In, in_with, in_with_new}
use Rattle.run.proofs.Views.{Shape}
use Rattle.promise.proofs.RunViews.{record_in, replaced, others, Runs, Out, sent_cases, stopped_less}
use Rattle.promise.proofs.Classes.{Kind, Start, Yes, No, MoveP, MoveW, Ack, Commit, Abort, Prepare, Central, by_kind}
use Rattle.promise.proofs.View.{View}
use Rattle.promise.proofs.Less.{Less, stop}
use Rattle.promise.proofs.Become.{by_site, upd, upd_same, upd_other, become}
use Rattle.promise.proofs.Send.{send}

-- The number of a kind.
abbrev pub number : Kind → ℕ
number Start = 1
number Yes = 2
number No = 3
number MoveP = 4
number MoveW = 5
number Ack = 6
number Commit = 7
number Abort = 8
number Prepare = 9

kind_of : ℕ → Kind
kind_of k = cond (eqb k 1) Start (cond (eqb k 2) Yes (cond (eqb k 3) No (cond (eqb k 4) MoveP (cond (eqb k 5) MoveW (cond (eqb k 6) Ack (cond (eqb k 7) Commit (cond (eqb k 8) Abort Prepare)))))))

kind_of_lem : (κ : Kind) → kind_of (number κ) ≡ κ
unfolding kind_of
kind_of_lem Start = refl
kind_of_lem Yes = refl
kind_of_lem No = refl
kind_of_lem MoveP = refl
kind_of_lem MoveW = refl
kind_of_lem Ack = refl
kind_of_lem Commit = refl
kind_of_lem Abort = refl
kind_of_lem Prepare = refl

pub same_kind : (κ κ' : Kind) → number κ ≡ number κ' → κ ≡ κ'
same_kind κ κ' e = sym (kind_of_lem κ) ∙ ap kind_of e ∙ kind_of_lem κ'

-- A record holds a Yes, No or Ack of k.
abbrev pub Recorded : Kind → Record → ℕ → Type 0
Recorded κ x k = by_kind ⊥ (In x.yes k) (In x.no k) ⊥ ⊥ (In x.acked k) ⊥ ⊥ ⊥ κ

-- Nothing else is recorded.
pub by_recorded : (M : Kind → Type 0) (x : Record) (k : ℕ) → (In x.yes k → M Yes) → (In x.no k → M No) → (In x.acked k → M Ack) → (κ : Kind) → Recorded κ x k → M κ
by_recorded M x k y n a Yes h = y h
by_recorded M x k y n a No h = n h
by_recorded M x k y n a Ack h = a h
by_recorded M x k y n a Start h = absurd h
by_recorded M x k y n a MoveP h = absurd h
by_recorded M x k y n a MoveW h = absurd h
by_recorded M x k y n a Commit h = absurd h
by_recorded M x k y n a Abort h = absurd h
by_recorded M x k y n a Prepare h = absurd h

-- The view of a run, with w for the votes given. Numbers that are no site's count as having voted.
abbrev pub view_of : (ℕ → Type 0) → Run → View
view_of w r =
    record {
      by = Central;
      runs = Runs r;
      stopped = λ i. In r.stopped i;
      st = λ i. (record_in r.sites i).state;
      ld = λ i. (record_in r.sites i).leader;
      voted = λ i. 1 ≤ i → i ≤ r.n → w i;
      absent = λ i. 1 ≤ i → i ≤ r.n → ⊥;
      live = λ κ k i. Out r.net (number κ) k i ⊎ Recorded κ (record_in r.sites i) k;
    }

-- The run r in which site j has a new record x, the network is net, and messages of kind K of j to the sites of m are added.
abbrev pub whole_run : Run → List ℕ → ℕ → Record → ℕ → ℕ → Run
whole_run r net j x K m = remade r r.stopped (set r.sites (j - 1) x) (sent_in net K j m)

-- The run r in which site j has stopped, and messages of kind K of j to the sites of m are added.
abbrev pub part_run : Run → ℕ → ℕ → ℕ → Run
part_run r j K m = remade r (with_site r.stopped j) r.sites (sent_in (stopped_in r.net j) K j m)

-- Messages of kind K of j to the sites of m are added to net, which is r's network, perhaps with fewer messages: what is then outstanding was so in r, or is one of them.
sent_live : (r : Run) (net : List ℕ) → length net ≡ 72 → ((K k i : ℕ) → Out net K k i → Out r.net K k i) → (j K m : ℕ) (κ : Kind) (T : ℕ → Type 0) → ((i : ℕ) → In m i → (K ≡ number κ) × T i)
    → (κ' : Kind) (k i : ℕ) → Out (sent_in net K j m) (number κ') k i → Out r.net (number κ') k i ⊎ ((κ ≡ κ') × (j ≡ k) × T i)
sent_live r net len fewer j K m κ T kind κ' k i y =
    ⊎_elim (λ z. inl (fewer (number κ') k i z)) (λ z. let c = kind i z.2 in inr (same_kind κ κ' (sym c.0 ∙ z.0), z.1, c.1)) (sent_cases net K j m len (number κ') k i y)

-- Site j of r has a new record x and writes messages of kind K to a set; net is r's, perhaps with fewer messages.
module _ (w w' : ℕ → Type 0) (r : Run) (shape : Shape r) (net : List ℕ) (len : length net ≡ 72) (j : ℕ) (j1 : 1 ≤ j) (j8 : j ≤ 8)
    (x : Record) (K m : ℕ) (κ : Kind) (T : ℕ → Type 0)
    (fewer : (K k i : ℕ) → Out net K k i → Out r.net K k i)
    (kind : (i : ℕ) → In m i → (K ≡ number κ) × T i)
    (heard : (κ : Kind) (k : ℕ) → Recorded κ x k → (view_of w r).live κ k j) where
  abbrev wholly : Run
  wholly = whole_run r net j x K m

  new_j : record_in wholly.sites j ≡ x
  new_j = replaced r.sites j x j1 (omega (arith, shape.sites))

  -- a part of the record, changed at j
  changed : {A : Type 0} (f : Record → A) (i : ℕ) → upd (λ i. f (record_in r.sites i)) j (f x) i ≡ f (record_in wholly.sites i)
  changed f =
      by_site (λ i. upd (λ i. f (record_in r.sites i)) j (f x) i ≡ f (record_in wholly.sites i)) j (upd_same _ j (f x) ∙ ap f (sym new_j))
      (λ i ne. upd_other _ j (f x) i ne ∙ ap f (sym (others r.sites j x j1 i ne)))

  lives : (κ' : Kind) (k i : ℕ) → (view_of w' wholly).live κ' k i → (view_of w r).live κ' k i ⊎ ((κ ≡ κ') × (j ≡ k) × T i)
  lives κ' k i (inl y) = ⊎_elim (λ z. inl (inl z)) (λ z. inr z) (sent_live r net len fewer j K m κ T kind κ' k i y)
  lives κ' k i (inr y) =
      inl (by_site (λ i. Recorded κ' (record_in wholly.sites i) k → (view_of w r).live κ' k i) j (λ y. heard κ' k (subst (λ (x : Record). Recorded κ' x k) new_j y))
      (λ i ne y. inr (subst (λ (x : Record). Recorded κ' x k) (others r.sites j x j1 i ne) y)) i y)

  pub wholly_less : Less (view_of w' wholly) (send (become (view_of w r) j x.state x.leader (view_of w' r).voted) κ j T)
  wholly_less =
      record {
        by = refl;
        absent = λ i x. x;
        st = changed (λ x. x.state);
        ld = changed (λ x. x.leader);
        runs = λ i y. record { least = y.least; most = y.most; up = y.up };
        old = λ i y. y;
        new = λ i y. inl y;
        live = lives;
      }

-- Site j of r stops.
module _ (r : Run) (j : ℕ) (j8 : j ≤ 8) where
  pub still_runs : (i : ℕ) (net : List ℕ) → Runs (remade r (with_site r.stopped j) r.sites net) i → Runs r i × (i ≢ j)
  still_runs i net y = (
    record { least = y.least; most = y.most; up = fails (has r.stopped i) (λ h. clash (in_with r.stopped j i h) y.up) },
    λ e. clash (in_with_new r.stopped j i (record { least = y.least; most = omega (arith, j8) }) e) y.up,
  )

  pub stopped_view : (w w' : ℕ → Type 0) → Less (view_of w' (stopped_at r j)) (stop (view_of w r) j (view_of w' r).voted)
  unfolding stopped_at
  stopped_view w w' =
      record {
        by = refl;
        absent = λ i x. x;
        st = λ i. refl;
        ld = λ i. refl;
        runs = λ i. still_runs i (stopped_in r.net j);
        old = λ i y. y;
        new = λ i y. inl y;
        live = λ κ k i. ⊎_elim (λ y. inl (stopped_less r.net j (number κ) k i y)) (λ y. inr y);
      }

-- Site j of r stops, and messages of kind K to a set still leave.
module _ (w w' : ℕ → Type 0) (r : Run) (shape : Shape r) (j : ℕ) (j1 : 1 ≤ j) (j8 : j ≤ 8) (K m : ℕ) (κ : Kind) (T : ℕ → Type 0)
    (kind : (i : ℕ) → In m i → (K ≡ number κ) × T i) where
  abbrev partly : Run
  partly = part_run r j K m

  lives' : (κ' : Kind) (k i : ℕ) → (view_of w' partly).live κ' k i → (view_of w r).live κ' k i ⊎ ((κ ≡ κ') × (j ≡ k) × T i)
  lives' κ' k i (inl y) =
      ⊎_elim (λ z. inl (inl z)) (λ z. inr z) (sent_live r (stopped_in r.net j) (length-map r.net _ ∙ shape.net) (stopped_less r.net j) j K m κ T kind κ' k i y)
  lives' κ' k i (inr y) = inl (inr y)

  pub partly_less : Less (view_of w' partly) (send (stop (view_of w r) j (view_of w' r).voted) κ j T)
  partly_less =
      record {
        by = refl;
        absent = λ i x. x;
        st = λ i. refl;
        ld = λ i. refl;
        runs = λ i. still_runs r j j8 i partly.net;
        old = λ i y. y;
        new = λ i y. inl y;
        live = lives';
      }
