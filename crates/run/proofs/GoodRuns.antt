-- IsGood runs: bytes, sound, leaders in order. Every event leaves a good run good, fresh is good, and so is every run after fresh.
-- Assumes nothing.
use Prim.Native.Nat.{ℕ, zero, suc, ◌≤◌, ◌<◌}
use mathlib.Core.Bool.{true}
use mathlib.Core.Path.{◌≡◌, refl, sym, ap, ◌∙◌}
use mathlib.Core.List.{List, [], ◌∷◌}
use native.Mathlib.Omega.{arith}
use lib.Dec.{lit<, lit≤}
use lib.ListN.{get_or, replicate, length-replicate}
use borrow.Author.Tests.{le-leb}
use Rattle.sets.specs.Sets.{has, all_of, others_of}
use Rattle.sets.proofs.SetLaws.{has_none}
use Rattle.sets.proofs.Truths.{clash}
use Rattle.sets.proofs.SubsetLaws.{subset_none}
use Rattle.site.specs.declared.Site.{Site}
use Rattle.site.specs.declared.Outcome.{Outcome}
use Rattle.site.specs.declared.Outcome.TheVariants.{Taken, Passed, Refused}
use Rattle.site.specs.Site.{sound_of}
use Rattle.site.proofs.SiteSteps.{parts_sound as parts_site}
use Rattle.run.specs.declared.Run.{Run}
use Rattle.run.specs.declared.Event.{Event}
use Rattle.run.specs.declared.Ran.{Ran}
use Rattle.run.specs.Run.{site_at, place, leader_of, knows, outstanding, has_stopped, fresh_site, fresh_run}
use Rattle.run.specs.Sound.{SoundPlace, Sound, sound_run}
use Rattle.run.specs.Event.{actor, effect_of, fresh_of, event_of}
use Rattle.run.specs.After.{Tale, accepted_by, onward, told, opening, after}
use Rattle.run.proofs.Views.{Shape}
use Rattle.run.proofs.SoundLaws.{sound_parts, parts_sound, Bytes}
use Rattle.run.proofs.Account.{able_of, Account, account}
use Rattle.run.proofs.Account.Account.{accepted, denied}
use Rattle.run.proofs.Applied.{bytes_applied}
use Rattle.run.proofs.RunLaws.{fits}
use Rattle.run.proofs.Ordered.{Ordered, sound_then, ordered_then, keeps}

-- every event leaves a run of bytes one
pub bytes_kept : (r : Run) (e : Event) → Bytes r → Bytes (event_of r e).run
bytes_kept r e b = go (account r e)
  where
    go : {x : Ran} → Account r e x → Bytes x.run
    go (accepted a) = bytes_applied r (actor e) (effect_of r e) b (fits a).bytes
    go (denied d) = b

-- every event leaves the leaders in order
pub ordered_kept : (r : Run) (e : Event) → Shape r → Ordered r → Ordered (event_of r e).run
ordered_kept r e h o = go (account r e)
  where
    go : {x : Ran} → Account r e x → Ordered x.run
    go (accepted a) = ordered_then r (actor e) (effect_of r e) h (fits a) (keeps (sound_parts r h (able_of a).sound) o a) o
    go (denied d) = o

-- every event leaves a sound run with its leaders in order sound
pub sound_kept : (r : Run) (e : Event) → Bytes r → Ordered r → sound_run r ≡ true → sound_run (event_of r e).run ≡ true
sound_kept r e b o g = parts_sound (event_of r e).run (bytes_kept r e b) (go (account r e))
  where
    now : Sound r
    now = sound_parts r b.shape g

    go : {x : Ran} → Account r e x → Sound x.run
    go (accepted a) = sound_then r (actor e) (effect_of r e) b.shape (fits a) (keeps now o a) now
    go (denied d) = now

-- a good run: bytes, sound, leaders in order
pub record IsGood (r : Run) : Type 0 where
  pub bytes : Bytes r
  pub sound : sound_run r ≡ true
  pub ordered : Ordered r

pub good_kept : (r : Run) (e : Event) → IsGood r → IsGood (event_of r e).run
good_kept r e g =
    record {
      bytes = bytes_kept r e g.bytes;
      sound = sound_kept r e g.bytes g.ordered g.sound;
      ordered = ordered_kept r e g.bytes.shape g.ordered;
    }

-- ---- fresh

fresh_at : (m i : ℕ) → 1 ≤ i → i ≤ 8 → site_at (fresh_run m) i ≡ fresh_site m i
fresh_at m zero l h = absurd (omega arith)
fresh_at m (suc zero) l h = refl
fresh_at m (suc (suc zero)) l h = refl
fresh_at m (suc (suc (suc zero))) l h = refl
fresh_at m (suc (suc (suc (suc zero)))) l h = refl
fresh_at m (suc (suc (suc (suc (suc zero))))) l h = refl
fresh_at m (suc (suc (suc (suc (suc (suc zero)))))) l h = refl
fresh_at m (suc (suc (suc (suc (suc (suc (suc zero))))))) l h = refl
fresh_at m (suc (suc (suc (suc (suc (suc (suc (suc zero)))))))) l h = refl
fresh_at m (suc (suc (suc (suc (suc (suc (suc (suc (suc i))))))))) l h = absurd (omega arith)

-- nothing stands in a list of zeros
pub zeros : (n p : ℕ) → ◌≡◌ {A = ℕ} (get_or (replicate n 0) p 0) 0
zeros zero p = refl
zeros (suc n) zero = refl
zeros (suc n) (suc p) = zeros n p

fresh_record : (m i : ℕ) → 2 ≤ m → m ≤ 8 → 1 ≤ i → i ≤ m → sound_of (fresh_site m i) ≡ true
fresh_record m i l h p q =
    parts_site (fresh_site m i)
    (record {
      least = l;
      most = h;
      first = p;
      last = q;
      led = lit≤ tt;
      leader = p;
      known = subset_none (others_of m i);
      yes = subset_none (others_of m i);
      no = subset_none (others_of m i);
      acked = subset_none (others_of m i);
    })

-- fresh is good
pub fresh_good : (m : ℕ) → 2 ≤ m → m ≤ 8 → IsGood (fresh_run m)
unfolding outstanding leader_of has_stopped knows
fresh_good m l h =
    record {
      bytes = bytes;
      sound = parts_sound (fresh_run m) bytes sound;
      ordered = record { lower = λ k j p u q v w. absurd (leads_none k j p q v w) };
    }
  where
    bytes : Bytes (fresh_run m)
    bytes = record { shape = record { sites = refl; net = length-replicate {A = ℕ} 72 0 }; net = λ p. rw (zeros 72 p) (lit< tt) }

    place_fresh : (i : ℕ) → 1 ≤ i → i ≤ m → SoundPlace (fresh_run m) i
    place_fresh i p q =
        let e : site_at (fresh_run m) i ≡ fresh_site m i = fresh_at m i p (omega arith) in
        record { sound = rw e (fresh_record m i l h p q); sites = rw e refl; number = rw e refl; known = rw e (subset_none 0) }

    sound : Sound (fresh_run m)
    sound =
        record {
          least = l;
          most = h;
          stopped = subset_none (all_of m);
          places = place_fresh;
          messages = λ k s j u. absurd (clash u (ap (λ (x : ℕ). has x j) (zeros 72 (place k s)) ∙ has_none j));
        }

    leads_none : (k j : ℕ) → k ≤ m → (site_at (fresh_run m) k).leader ≡ k → 1 ≤ j → j < k → ⊥
    leads_none k j p q v w = let e : 1 ≡ k = sym (ap (λ (x : Site). x.leader) (fresh_at m k (omega arith) (omega arith))) ∙ q in omega arith

-- "fresh n": 2 to 8 sites are accepted
pub fresh_is : (n : ℕ) → 2 ≤ n → n ≤ 8 → (fresh_of n).run ≡ fresh_run n
unfolding fresh_of
fresh_is n l m = simp (le-leb 2 n l, le-leb n 8 m)

-- ---- after any events

-- an event is accepted once at most
pub accepted_one : (o : Outcome) → accepted_by o ≤ 1
accepted_one Taken = omega arith
accepted_one Passed = omega arith
accepted_one (Refused g) = omega arith

told_good : (t : Tale) (es : List Event) → IsGood t.run → IsGood (told t es).run
unfolding onward
told_good t [] g = g
told_good t (e ∷ es) g = told_good (onward t e) es (good_kept t.run e g)

-- every run after events from fresh is good
pub after_good : (m : ℕ) (es : List Event) → 2 ≤ m → m ≤ 8 → IsGood (after m es).run
unfolding after opening fresh_of
after_good m es l h = told_good (opening m) es (rw (le-leb 2 m l, le-leb m 8 h) (fresh_good m l h))
