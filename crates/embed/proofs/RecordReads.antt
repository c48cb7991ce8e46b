-- For the proof of the reading call: the fields of a record are its bytes from the fourth to the ninth.
-- Assumes nothing.
use Prim.Native.Nat.{ℕ, ◌+◌, ◌-◌, ◌≤◌}
use mathlib.Core.List.{List, ◌++◌}
use mathlib.Core.Path.{◌≡◌, sym, ap, ◌∙◌}
use native.Mathlib.Omega.{arith}
use lib.ListN.{length, take, drop, length-drop}
use lib.Seq.{drop-drop}
use Rattle.std.specs.Prelude.{Result, Ok, Err}
use Rattle.refusal.specs.declared.Refusal.{Refusal}
use Rattle.refusal.specs.Refusals.{refusal_number, clear}
use Rattle.fields.specs.Fields.{ground_made}
use Rattle.journal.specs.declared.Record.{Record}
use Rattle.journal.specs.Record.{body_of, fields_in, read_of}
use Rattle.journal.proofs.RecordLaws.{ground_read, body_bytes}
use Rattle.embed.specs.Bytes.{leaves}
use Rattle.embed.specs.RecordCalls.{read_leaves}

module _ (l : List ℕ) (at : ℕ) (h : ground_made (read_of (drop at l)) ≡ clear) where
  -- they are there
  pub fits_where_clear : at + 9 ≤ length l
  fits_where_clear = omega (arith, (ground_read (drop at l) h).there, length-drop at l)

  pub read_clear : (room : List ℕ) → read_leaves (read_of (drop at l)) room ≡ leaves 0 (take (at + 9 - (at + 3)) (drop (at + 3) l) ++ drop 6 room)
  read_clear room =
      let r = ground_read (drop at l) h in
      let six : at + 9 - (at + 3) ≡ 6 = omega arith in
      let bytes : take (at + 9 - (at + 3)) (drop (at + 3) l) ≡ body_of (fields_in (drop 3 (drop at l))) =
      (λ i. take (six i) (sym (drop-drop 3 at l) i)) ∙ body_bytes 0 (drop 3 (drop at l)) (omega (arith, r.there, length-drop 3 (drop at l))) in
      simp r.found (ap (λ (x : List ℕ). leaves 0 (x ++ drop 6 room)) (ap body_of r.own ∙ sym bytes))

pub read_refused : (a : Result Record Refusal) (why : Refusal) (room : List ℕ) → ground_made a ≡ Err why → read_leaves a room ≡ leaves (refusal_number why) room
read_refused (Ok r) why room h = cc
read_refused (Err x) why room h = let same : x ≡ why = cc in ap (λ (w : Refusal). leaves (refusal_number w) room) same
