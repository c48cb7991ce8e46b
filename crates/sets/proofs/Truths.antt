-- Tests that hold or fail: taking `&&`, `||` and `not` apart and putting them together.
-- Assumes nothing.
use mathlib.Core.Bool.{Bool, true, false, not, ◌&&◌, ◌||◌, true≢false, false≢true}
use mathlib.Core.Path.{◌≡◌, refl, sym, ◌∙◌}
use mathlib.Core.Logic.{◌⊎◌, inl, inr}

pub and_l : (x y : Bool) → (x && y) ≡ true → x ≡ true
and_l true y e = refl
and_l false y e = e

pub and_r : (x y : Bool) → (x && y) ≡ true → y ≡ true
and_r true y e = e
and_r false y e = absurd (false≢true e)

pub and_i : (x y : Bool) → x ≡ true → y ≡ true → (x && y) ≡ true
and_i true y p q = q
and_i false y p q = p

pub or_e : (x y : Bool) → (x || y) ≡ true → x ≡ true ⊎ y ≡ true
or_e true y e = inl refl
or_e false y e = inr e

pub or_l : (x y : Bool) → x ≡ true → (x || y) ≡ true
or_l true y e = refl
or_l false y e = absurd (false≢true e)

pub or_r : (x y : Bool) → y ≡ true → (x || y) ≡ true
or_r true y e = refl
or_r false y e = e

pub or_none : (x y : Bool) → (x || y) ≡ false → (x ≡ false) × (y ≡ false)
or_none true y e = absurd (true≢false e)
or_none false y e = (refl, e)

pub and_none : (x y : Bool) → (x && y) ≡ false → (x ≡ false) ⊎ (y ≡ false)
and_none true y e = inr e
and_none false y e = inl refl

pub not_e : (x : Bool) → not x ≡ true → x ≡ false
not_e true e = absurd (false≢true e)
not_e false e = refl

-- a test does not both hold and fail
pub clash : {x : Bool} → x ≡ true → x ≡ false → ⊥
clash p q = true≢false (sym p ∙ q)

-- a test that cannot hold fails
pub fails : (x : Bool) → (x ≡ true → ⊥) → x ≡ false
fails true f = absurd (f refl)
fails false f = refl

-- a test holds or fails
pub either : (x : Bool) → x ≡ true ⊎ x ≡ false
either true = inl refl
either false = inr refl

-- tests that hold together are the same
pub same : (x y : Bool) → (x ≡ true → y ≡ true) → (y ≡ true → x ≡ true) → x ≡ y
same true y f g = sym (f refl)
same false true f g = g refl
same false false f g = refl
