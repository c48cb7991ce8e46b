-- All that running sites owe one another, in the protocol that a run has, and that every step and stop keeps it.
-- Assumes nothing.
use Prim.Native.Nat.{ℕ}
use mathlib.Core.Path.{◌≡◌, sym, ◌∙◌}
use Rattle.site.specs.declared.State.{State}
use Rattle.promise.proofs.Classes.{Central, Peers, Kind}
use Rattle.promise.proofs.View.{View, Inv}
use Rattle.promise.proofs.Does.{Uses, Does}
use Rattle.promise.proofs.Owed.{Owed, After, Stopped, owed_stopped, owed_step}
use Rattle.promise.proofs.OwedCentral.{CentralOwed, central_stopped, central_step}
use Rattle.promise.proofs.OwedPeers.{PeersOwed, peers_stopped, peers_step}

pub record Owes (a : View) : Type 0 where
  pub shared : Owed a
  pub central : a.by ≡ Central → CentralOwed a
  pub peers : a.by ≡ Peers → PeersOwed a

pub owes_stopped : (a b : View) (j : ℕ) → Stopped a b j → Owes a → Owes b
owes_stopped a b j h o =
    record {
      shared = owed_stopped a b j h o.shared;
      central = λ e. central_stopped a b j h (o.central (sym h.by ∙ e));
      peers = λ e. peers_stopped a b j h;
    }

pub owes_step : (a b : View) (j : ℕ) (T : ℕ → Type 0) → Inv a → a.runs j → (s : State) (l : ℕ) (κ : Kind) (y : Uses) → After a b j T s l κ y → Does a j T s l κ y → Owes a → Owes b
owes_step a b j T v r s l κ y h c o =
    record {
      shared = owed_step a j T v r b s l κ y h c o.shared;
      central = λ e. central_step a j T v r (sym h.by ∙ e) b s l κ y h c o.shared (o.central (sym h.by ∙ e));
      peers = λ e. peers_step a b j T v r (sym h.by ∙ e) (o.peers (sym h.by ∙ e)) s l κ y h c;
    }
