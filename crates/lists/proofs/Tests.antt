-- What a test picks, what two tests say, and tests of numbers.
-- Assumes nothing.
use Prim.Native.Nat.{ℕ}
use mathlib.Core.Path.{◌≡◌, refl, ap}
use mathlib.Core.Bool.{Bool, true, false, cond, not, ◌||◌, true≢false}
use borrow.Author.Tests.{eqb-true, eq-eqb, ne_eqb, not-false}
use lib.Dec.{eqb}

module _ {A : Type 0} where
  -- what holds of both holds of the one that a test picks
  pub either : (P : A → Type 0) (t : Bool) {x y : A} → P x → P y → P (cond t x y)
  either P true p q = p
  either P false p q = q

  -- each where it is picked
  pub either_given : (P : A → Type 0) (t : Bool) {x y : A} → (t ≡ true → P x) → (t ≡ false → P y) → P (cond t x y)
  either_given P true p q = p refl
  either_given P false p q = q refl

  -- two picks by one test are related where what is picked is
  pub either_related : (R : A → A → Type 0) (t : Bool) {a b c d : A} → R a b → R c d → R (cond t a c) (cond t b d)
  either_related R true h k = h
  either_related R false h k = k

  -- and equal where the first of each is, if the test holds
  pub either_equal : {x y : A} (z : A) (t : Bool) → (t ≡ true → x ≡ y) → cond t x z ≡ cond t y z
  either_equal z true h = h refl
  either_equal z false h = refl

-- neither of two tests holds
pub neither : (a b : Bool) → (a || b) ≡ false → (a ≡ false) × (b ≡ false)
neither true b e = absurd (true≢false e)
neither false b e = (refl, e)

-- ---- whether two numbers differ, as a condition

pub equal : (a b : ℕ) → not (eqb a b) ≡ false → a ≡ b
equal a b h = eqb-true a b (not-false (eqb a b) h)

pub same : (a b : ℕ) → a ≡ b → not (eqb a b) ≡ false
same a b e = ap not (eq-eqb a b e)

pub differ : (a b : ℕ) → (a ≡ b → ⊥) → not (eqb a b) ≡ true
differ a b h = ap not (ne_eqb a b h)
