-- Laws of pages: parts written one after another are their text written at once.
-- Assumes nothing.
use Prim.Native.Nat.{ℕ, ◌+◌, ◌≤◌}
use mathlib.Core.List.{List, [], ◌++◌}
use mathlib.Core.Path.{◌≡◌, refl, subst, sym, ◌∙◌}
use lib.ListN.{length}
use Rattle.text.specs.declared.Page.{Page}
use Rattle.text.specs.Text.{Put}
use Rattle.text.specs.Page.{Offered, Written}
use Rattle.text.proofs.TextLaws.{put_fits, put_length, put_then}
use Rattle.text.proofs.Putting.{put_none}

-- a part that fits is written
pub wrote : {before : Page} {part : List ℕ} {after : Page} → Offered before part after → before.at + length part ≤ length before.text.now
    → Written before part after
wrote {before} {part} o h =
    let p = put_fits before.text.now before.at part h (o.at, o.bytes) in
    record { same = o.same; size = put_length p; put = p }

-- nothing is written
pub wrote_none : (page : Page) → page.at ≤ length page.text.now → Written page [] page
wrote_none page h = record { same = refl; size = refl; put = put_none page.text.now page.at h }

module _ {before : Page} {part : List ℕ} {after : Page} (w : Written before part after) where
  -- one part after another
  pub and_then : {more : List ℕ} {last : Page} → Written after more last → Written before (part ++ more) last
  and_then v = record { same = v.same ∙ w.same; size = v.size ∙ w.size; put = put_then w.put v.put }

  -- a part may be written in another way
  pub in_words : {other : List ℕ} → part ≡ other → Written before other after
  in_words e = subst (λ (l : List ℕ). Written before l after) e w

  -- what a page's bytes are when it is given back
  pub given_back : {last : List ℕ} {r : ℕ} → last ≡ after.text.now → r ≡ after.at → Put before.text.now before.at part last r
  given_back {r = r} e f = subst (λ (l : List ℕ). Put before.text.now before.at part l r) (sym e) (subst (λ (k : ℕ). Put before.text.now before.at part after.text.now k) (sym f) w.put)
