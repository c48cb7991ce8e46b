-- Laws of text in lent bytes: parts put one after another are their text put at once; bytes one by one.
-- Assumes nothing.
use Prim.Native.Nat.{ℕ, zero, suc, ◌+◌, ◌-◌, ◌≤◌, ◌<◌}
use mathlib.Core.Bool.{true}
use mathlib.Core.List.{List, [], ◌∷◌, ◌++◌, append_assoc}
use mathlib.Core.Path.{◌≡◌, refl, sym, ap, subst, ◌∙◌}
use native.Mathlib.Omega.{arith}
use borrow.Author.Tests.{le-leb, lt-leb}
use lib.Dec.{leb}
use native.Mathlib.Decide.{dec_lt}
use lib.ListN.{length, get_or, take, drop, set, length-append, length-drop}
use lib.Seq.{set_split, take-set-le, drop-cons, drop-drop, take_at, drop_at, length-take-le}
use Rattle.text.specs.Text.{fits, over, spliced, end_of, Put}

-- a part that fits is put
pub put_fits : (text : List ℕ) (at : ℕ) (part : List ℕ) {last : List ℕ} {r : ℕ} → at + length part ≤ length text
    → (r ≡ end_of text at part) × (last ≡ spliced text at part) → Put text at part last r
unfolding fits spliced end_of
put_fits text at part h e =
    let f : fits (length text) at (length part) ≡ true = le-leb (at + length part) (length text) h in
    record { room = h; to = simp f at e.0; bytes = simp f at e.1 }

module _ {text : List ℕ} {at : ℕ} {part last : List ℕ} {r : ℕ} (p : Put text at part last r) where
  front_length : length (take at text ++ part) ≡ r
  front_length = length-append (take at text) part ∙ omega (arith, length-take-le at text (omega (arith, p.room)), p.to)

  whole : last ≡ (take at text ++ part) ++ drop (at + length part) text
  whole = p.bytes ∙ sym (append_assoc (take at text) part (drop (at + length part) text))

  -- the bytes lent stay as many
  pub put_length : length last ≡ length text
  put_length =
      ap length whole ∙ length-append (take at text ++ part) (drop (at + length part) text)
      ∙ omega (arith, front_length, length-drop (at + length part) text, p.to, p.room)

  -- one part after another
  pub put_then : {more end : List ℕ} {q : ℕ} → Put last r more end q → Put text at (part ++ more) end q
  put_then {more = more} n =
      let sum : length (part ++ more) ≡ length part + length more = length-append part more in
      let here : take r last ≡ take at text ++ part =
      ap (take r) whole ∙ take_at (take at text ++ part) (drop (at + length part) text) r front_length in
      let gone : drop (r + length more) last ≡ drop (at + length (part ++ more)) text =
      sym (drop-drop (length more) r last)
      ∙ ap (λ (l : List ℕ). drop (length more) (drop r l)) whole
      ∙ ap (drop (length more)) (drop_at (take at text ++ part) (drop (at + length part) text) r front_length)
      ∙ drop-drop (length more) (at + length part) text
      ∙ ap (λ (k : ℕ). drop k text) (let e : at + length part + length more ≡ at + length (part ++ more) = omega arith in e) in
      record {
        room = omega (arith, n.room, p.to, put_length);
        to = omega (arith, n.to, p.to);
        bytes = n.bytes ∙ (λ i. here i ++ (more ++ gone i)) ∙ simp append_assoc;
      }

  -- a part may be written in another way
  pub put_as : {other : List ℕ} → part ≡ other → Put text at other last r
  put_as e = subst (λ (l : List ℕ). Put text at l last r) e p

-- a part with one byte more is put as that byte, and then the part before it
pub over_last : (text : List ℕ) (at : ℕ) (part : List ℕ) (b k : ℕ) → k ≡ at + length part → k < length text
    → over (set text k b) at part ≡ over text at (part ++ (b ∷ []))
over_last text at part b k e h =
    let size : length (part ++ (b ∷ [])) ≡ length part + 1 = length-append part (b ∷ []) in
    let rest : drop (at + length part) (set text k b) ≡ b ∷ drop (at + length (part ++ (b ∷ []))) text =
    ap (λ (l : List ℕ). drop (at + length part) l) (set_split text k b h)
    ∙ drop_at (take k text) (b ∷ drop (suc k) text) (at + length part) (length-take-le k text (omega arith) ∙ e)
    ∙ ap (λ (j : ℕ). b ∷ drop j text) (let j : suc k ≡ at + length (part ++ (b ∷ [])) = omega arith in j) in
    (λ i. take-set-le at text k b (omega (arith, e)) i ++ (part ++ rest i))
    ∙ simp append_assoc

-- a part fits when it is no longer than the room left
pub room_left : (room at size : ℕ) → at ≤ room → leb size (room - at) ≡ leb (at + size) room
room_left room at size h = go (dec_lt (room - at) size)
  where
    go : Dec (room - at < size) → leb size (room - at) ≡ leb (at + size) room
    go (yes l) = lt-leb size (room - at) l ∙ sym (lt-leb (at + size) room (omega arith))
    go (no l) = le-leb size (room - at) (omega arith) ∙ sym (le-leb (at + size) room (omega arith))

-- ---- bytes one by one

-- so many bytes of a text from a place on
abbrev pub bytes_from : ℕ → ℕ → List ℕ → List ℕ
bytes_from zero at text = []
bytes_from (suc n) at text = get_or text at 0 ∷ bytes_from n (suc at) text

pub one_by_one : (n at : ℕ) (text : List ℕ) → at + n ≤ length text → take n (drop at text) ≡ bytes_from n at text
one_by_one zero at text h = refl
one_by_one (suc n) at text h =
    rw (drop-cons text at 0 (omega arith)) (ap (λ (z : List ℕ). get_or text at 0 ∷ z) (one_by_one n (suc at) text (omega arith)))
