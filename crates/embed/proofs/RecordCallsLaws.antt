-- Event records over the C interface: they read back as written, and every accepted record is written again with the same bytes.
-- Assumes nothing.
use Prim.Native.Nat.{ℕ, ◌+◌, ◌≤◌}
use mathlib.Core.Bool.{Bool, true, false, cond}
use mathlib.Core.List.{List, ◌∷◌, ◌++◌}
use mathlib.Core.Path.{◌≡◌, refl, ap, ◌∙◌}
use native.Mathlib.Omega.{arith}
use borrow.Author.Tests.{le-ltb}
use lib.Dec.{ltb}
use lib.ListN.{length, take, drop}
use Rattle.fields.specs.declared.Fields.{Fields}
use Rattle.fields.specs.Fields.{body}
use Rattle.std.specs.Prelude.{Result, Ok, Err}
use Rattle.refusal.specs.declared.Refusal.{Refusal}
use Rattle.refusal.specs.Refusals.{answer_number}
use Rattle.journal.specs.declared.Record.{Record}
use Rattle.journal.specs.Record.{body_of, fields_in, read_of}
use Rattle.journal.proofs.RecordLaws.{part_is, write_fields_at_reads_back, read_at_writes_again}
use Rattle.embed.specs.Bytes.{Left, leaves}
use Rattle.embed.proofs.Calls.{numbered, cleared}
use Rattle.embed.specs.RecordCalls.{read_leaves, read_call, write_call}

-- "Event records read back as written": where `fj_record_write` returned 0, `fj_record_read` returns 0 at that place and leaves the same six fields
pub call_reads_back : (k s o m v x : ℕ) (room : List ℕ) (at : ℕ) → (write_call k s o m v x room at).returned ≡ 0 → (fields : List ℕ) → 6 ≤ length fields
    → read_call (write_call k s o m v x room at).room at fields ≡ leaves 0 (k ∷ s ∷ o ∷ m ∷ v ∷ x ∷ drop 6 fields)
unfolding write_call read_call
call_reads_back k s o m v x room at h fields long =
    let back = write_fields_at_reads_back room at (body k s o m v x) (cleared _ h) in
    simp (le-ltb (length fields) 6 long, back.0.found) (ap (λ (f : Fields). leaves 0 (body_of f ++ drop 6 fields)) back.1)

-- `fj_record_write` of the six fields that stand at the front of a slice
abbrev pub write_back : List ℕ → List ℕ → ℕ → Left
write_back l room at = let f = fields_in l in write_call f.k f.s f.o f.m f.v f.x room at

-- "every accepted record is written again with the same bytes": where `fj_record_read` returned 0, `fj_record_write` of the fields that it left returns 0
-- wherever there is room, and leaves there the nine bytes that were read, and all else as it was
pub call_writes_again : (journal : List ℕ) (from : ℕ) (fields : List ℕ) → (read_call journal from fields).returned ≡ 0
    → (room : List ℕ) (at : ℕ) → at + 9 ≤ length room
    → write_back (read_call journal from fields).room room at ≡ leaves 0 (take at room ++ (take 9 (drop from journal) ++ drop (at + 9) room))
unfolding read_call write_call fields_in
call_writes_again journal from fields h room at long = go (ltb (length fields) 6) (read_of (drop from journal)) refl h
  where
    left : List ℕ
    left = take at room ++ (take 9 (drop from journal) ++ drop (at + 9) room)

    go : (b : Bool) (a : Result Record Refusal) → read_of (drop from journal) ≡ a → (cond b (leaves 15 fields) (read_leaves a fields)).returned ≡ 0
        → write_back (cond b (leaves 15 fields) (read_leaves a fields)).room room at ≡ leaves 0 left
    go true a p h = absurd (omega arith)
    go false (Ok r) p h =
        let again = read_at_writes_again journal from r p room at long in
        let same = again.left ∙ ap (λ (l : List ℕ). take at room ++ (l ++ drop (at + 9) room)) (part_is journal from r p) in
        (λ i. leaves (answer_number (again.taken i)) (same i))
    go false (Err why) p h = absurd (numbered why h)
