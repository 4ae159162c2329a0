-- Which rule applies: operands that come again, and finite ones.
use Prim.Native.Nat.{ℕ, ◌*◌, ◌^◌}
use mathlib.Core.Bool.{Bool, true, false, not, ◌&&◌, ◌||◌, cond}
use mathlib.Core.List.{[], ◌∷◌}
use mathlib.Core.Path.{◌≡◌, refl}
use borrow.Author.Tests.{not-true}
use Rattle.half.specs.Format.{is_finite, is_nan, is_signalling, is_subnormal, is_zero, negative, units}
use Rattle.half.specs.Exact.{ratio, root_of}
use Rattle.half.specs.Round.{rounded_half}
use Rattle.half.specs.Operations.{nan_result, with_denormals, unlike, exact_sum, half_add, half_multiply, half_divide, half_root}
use Rattle.half.specs.Operations.{half_multiply_add}
use Rattle.half.specs.declared.Mode.{Mode}
use Rattle.half.proofs.Compare.{and_false}
use Rattle.half.proofs.Units.{finite_no_nan, finite_no_infinity}

-- ---- the last operand once more

pub again : (p : Bool) → (p || (p || false)) ≡ (p || false)
again true = refl
again false = refl

cond_again : (p : Bool) (x y : ℕ) → cond p x (cond p x y) ≡ cond p x y
cond_again true x y = refl
cond_again false x y = refl

pub nan_again : (a b : ℕ) → nan_result (a ∷ b ∷ b ∷ []) ≡ nan_result (a ∷ b ∷ [])
nan_again a b = rw (again (is_signalling b), cond_again (is_nan b) b 0)

pub nan_thrice : (a : ℕ) → nan_result (a ∷ a ∷ a ∷ []) ≡ nan_result (a ∷ [])
nan_thrice a = rw (again (is_signalling a), again (is_signalling a), cond_again (is_nan a) a 0, cond_again (is_nan a) a 0)

-- ---- tests joined

pub and_left : (p q : Bool) → (p && q) ≡ true → p ≡ true
and_left true q e = refl
and_left false q e = cc

pub and_right : (p q : Bool) → (p && q) ≡ true → q ≡ true
and_right true q e = e
and_right false q e = cc

-- ---- finite operands: none of R6.6, R6.7, R6.8 and R6.10
module _ (mode : Mode) (unmasked_ue : Bool) (a b : ℕ) where
  module _ (f : (is_finite a && (is_finite b && is_finite b)) ≡ true) where
    fa : is_finite a ≡ true
    fa = and_left (is_finite a) (is_finite b && is_finite b) f

    fb : is_finite b ≡ true
    fb = and_left (is_finite b) (is_finite b) (and_right (is_finite a) (is_finite b && is_finite b) f)

    pub finite_add : half_add mode unmasked_ue a b
        ≡ with_denormals (a ∷ b ∷ []) (exact_sum mode unmasked_ue (negative a) (units a) (negative b) (units b) (2 ^ 24))
    unfolding half_add
    finite_add = rw (finite_no_nan a fa, finite_no_nan b fb, finite_no_infinity a fa, finite_no_infinity b fb)

    pub finite_multiply : half_multiply mode unmasked_ue a b
        ≡ with_denormals (a ∷ b ∷ []) (rounded_half mode unmasked_ue (unlike a b) (ratio (units a * units b) (2 ^ 48)))
    unfolding half_multiply
    finite_multiply = rw (finite_no_nan a fa, finite_no_nan b fb, finite_no_infinity a fa, finite_no_infinity b fb, and_false (is_zero a))

  module _ (f : (is_finite a && (is_finite b && not (is_zero b))) ≡ true) where
    pub dividend_finite : is_finite a ≡ true
    dividend_finite = and_left (is_finite a) (is_finite b && not (is_zero b)) f

    pub divisor_finite : is_finite b ≡ true
    divisor_finite = and_left (is_finite b) (not (is_zero b)) (and_right (is_finite a) (is_finite b && not (is_zero b)) f)

    pub divisor_not_zero : is_zero b ≡ false
    divisor_not_zero =
        not-true (is_zero b) (and_right (is_finite b) (not (is_zero b)) (and_right (is_finite a) (is_finite b && not (is_zero b)) f))

    pub finite_divide : half_divide mode unmasked_ue a b
        ≡ with_denormals (a ∷ b ∷ []) (rounded_half mode unmasked_ue (unlike a b) (ratio (units a) (units b)))
    unfolding half_divide
    finite_divide =
        rw (
          finite_no_nan a dividend_finite,
          finite_no_nan b divisor_finite,
          finite_no_infinity a dividend_finite,
          finite_no_infinity b
              divisor_finite,
          divisor_not_zero,
          and_false (is_zero a),
          and_false (is_finite a && not (is_zero a)),
        )

module _ (mode : Mode) (unmasked_ue : Bool) (a b c : ℕ) (f : (is_finite a && (is_finite b && is_finite c)) ≡ true) where
  first : is_finite a ≡ true
  first = and_left (is_finite a) (is_finite b && is_finite c) f

  second : is_finite b ≡ true
  second = and_left (is_finite b) (is_finite c) (and_right (is_finite a) (is_finite b && is_finite c) f)

  pub third : is_finite c ≡ true
  third = and_right (is_finite b) (is_finite c) (and_right (is_finite a) (is_finite b && is_finite c) f)

  pub finite_multiply_add : half_multiply_add mode unmasked_ue a b c
      ≡ with_denormals (a ∷ b ∷ c ∷ []) (exact_sum mode unmasked_ue (unlike a b) (units a * units b) (negative c) (units c * 2 ^ 24) (2 ^ 48))
  unfolding half_multiply_add
  finite_multiply_add =
      rw (
        finite_no_nan a first,
        finite_no_nan b second,
        finite_no_nan c third,
        finite_no_infinity a first,
        finite_no_infinity b second,
        finite_no_infinity c third,
        and_false (is_zero a),
      )

-- a root of a finite number above 0
module _ (a : ℕ) (f : (is_finite a && (not (negative a) && not (is_zero a))) ≡ true) where
  radicand_finite : is_finite a ≡ true
  radicand_finite = and_left (is_finite a) (not (negative a) && not (is_zero a)) f

  above_zero : (not (negative a) && not (is_zero a)) ≡ true
  above_zero = and_right (is_finite a) (not (negative a) && not (is_zero a)) f

  not_zero : is_zero a ≡ false
  not_zero = not-true (is_zero a) (and_right (not (negative a)) (not (is_zero a)) above_zero)

  pub finite_root : (mode : Mode) (unmasked_ue : Bool)
      → half_root mode unmasked_ue a ≡ with_denormals (a ∷ a ∷ a ∷ []) (rounded_half mode unmasked_ue false (root_of (units a) (2 ^ 24)))
  unfolding half_root
  finite_root mode unmasked_ue =
      rw (
        finite_no_nan a radicand_finite,
        finite_no_infinity a radicand_finite,
        not_zero,
        not-true (negative a)
            (and_left (not (negative a)) (not (is_zero a)) above_zero),
        again (is_subnormal a),
        again (is_subnormal a),
      )

-- the code's test of a dividend and a divisor
pub ordinary : (a b : ℕ) {p q z t : Bool} → p ≡ is_finite a → q ≡ is_finite b → z ≡ is_zero b → (p && (q && not z)) ≡ t
    → (is_finite a && (is_finite b && not (is_zero b))) ≡ t
ordinary a b hp hq hz e = rw (← hp, ← hq, ← hz) e

-- and of a radicand
pub radicand : (a : ℕ) {p s z t : Bool} → p ≡ is_finite a → s ≡ negative a → z ≡ is_zero a → (p && (not s && not z)) ≡ t
    → (is_finite a && (not (negative a) && not (is_zero a))) ≡ t
radicand a hp hs hz e = rw (← hp, ← hs, ← hz) e
