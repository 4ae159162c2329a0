-- Normal operands, those of the short way: finite, not zero, and no DE.
use Prim.Native.Nat.{ℕ, ◌+◌, ◌*◌, ◌%◌, ◌^◌, ◌≤◌, ◌<◌}
use mathlib.Core.Bool.{Bool, true, false, cond}
use mathlib.Core.Path.{◌≡◌, refl, sym, ap, ◌∙◌}
use native.Mathlib.Omega.{arith}
use lib.Bits.{bit_or, or_zero_l}
use lib.Dec.{ltb, eqb}
use lib.Pow.{shl_exact}
use borrow.Author.Tests.{ltb-true, ne_eqb}
use Rattle.half.specs.Format.{exponent_field, significand, is_finite, is_subnormal, is_zero, negative, units}
use Rattle.half.specs.Exact.{ratio, root_of}
use Rattle.half.specs.Round.{outcome, rounded_half}
use Rattle.half.specs.Operations.{unlike, exact_sum, half_add, half_multiply, half_divide, half_root, half_multiply_add}
use Rattle.half.specs.Work.{is_normal}
use Rattle.half.specs.declared.Mode.{Mode}
use Rattle.half.specs.declared.normal.Normal.{Normal}
use Rattle.std.specs.Prelude.{Option, None, Some}
use Rattle.std.specs.Option.{option_map}
use Rattle.half.specs.declared.Outcome.{Outcome}
use Rattle.half.proofs.Places.{pow_join}
use Rattle.half.proofs.Units.{lift, significand_lt}
use Rattle.half.proofs.Sticky.{rounded_scale}
use Rattle.half.proofs.Scales.{joined}
use Rattle.half.proofs.Cases.{and_left, and_right, finite_add, finite_multiply, finite_divide, finite_root, finite_multiply_add}

-- ---- as the code hands it on
pub normal_is : (h : ℕ) {r : Option Normal} {x : Normal} → option_map (λ (n : Normal). n.half) r ≡ cond (is_normal h) (Some h) None
    → r ≡ Some x → x.half ≡ h
normal_is h {r} {x} e is = go (is_normal h) (sym (ap (option_map (λ (n : Normal). n.half)) is) ∙ e)
  where
    go : (t : Bool) → Some x.half ≡ cond t (Some h) None → x.half ≡ h
    go true f = search (f)
    go false f = search (f)

-- ---- what a normal half is, and is not
module _ (h : ℕ) (n : is_normal h ≡ true) where
  pub normal_ge : 1 ≤ exponent_field h
  normal_ge = ltb-true 0 (exponent_field h) (and_left (ltb 0 (exponent_field h)) (ltb (exponent_field h) 31) n)

  pub normal_lt : exponent_field h < 31
  normal_lt = ltb-true (exponent_field h) 31 (and_right (ltb 0 (exponent_field h)) (ltb (exponent_field h) 31) n)

  not_least : eqb (exponent_field h) 0 ≡ false
  not_least = ne_eqb (exponent_field h) 0 (λ (e : exponent_field h ≡ 0). omega (arith, normal_ge))

  pub normal_finite : is_finite h ≡ true
  normal_finite = rw (ne_eqb (exponent_field h) 31 (λ (e : exponent_field h ≡ 31). omega (arith, normal_lt)))

  no_denormal : is_subnormal h ≡ false
  no_denormal = rw not_least

  normal_zero : is_zero h ≡ false
  normal_zero = rw not_least

  -- its magnitude in units of 2 ^ -25, by its exponent field
  pub normal_units : {x i : ℕ} → x ≡ significand h → i ≡ exponent_field h → x * 2 ^ i ≡ units h * 2
  unfolding units
  normal_units {x} {i} hx hi =
      sym (pow_join x (lift h) 1 (let f : lift h + 1 ≡ i = omega (arith, normal_ge) in f)) ∙ ap (λ (s : ℕ). s * 2 ^ lift h * 2) hx

  -- as the code works it out
  pub normal_raised : {x i : ℕ} → x ≡ significand h → i ≡ exponent_field h → x * 2 ^ i % 2 ^ 64 ≡ units h * 2
  normal_raised {x} {i} hx hi = shl_exact {a = x} 11 i 64 (omega (arith, significand_lt h)) (omega (arith, normal_lt)) ∙ normal_units hx hi

-- ---- rounding alone (R6.16 to R6.24)
plain : (o : Outcome) → outcome o.half (bit_or 0 o.flags) ≡ o
plain o = ap (λ (f : ℕ). outcome o.half f) (or_zero_l o.flags)

pub normal_root : (mode : Mode) (unmasked_ue : Bool) (a : ℕ) → is_normal a ≡ true → negative a ≡ false
    → half_root mode unmasked_ue a ≡ rounded_half mode unmasked_ue false (root_of (units a) (2 ^ 24))
normal_root mode unmasked_ue a na s =
    finite_root a (rw (normal_finite a na, s, normal_zero a na)) mode unmasked_ue ∙ rw (no_denormal a na)
    (plain (rounded_half mode unmasked_ue false (root_of (units a) (2 ^ 24))))

module _ (mode : Mode) (unmasked_ue : Bool) (a b : ℕ) (na : is_normal a ≡ true) (nb : is_normal b ≡ true) where
  pub normal_add : half_add mode unmasked_ue a b ≡ exact_sum mode unmasked_ue (negative a) (units a) (negative b) (units b) (2 ^ 24)
  normal_add =
      finite_add mode unmasked_ue a b (rw (normal_finite a na, normal_finite b nb)) ∙ rw (no_denormal a na, no_denormal b nb)
      (plain (exact_sum mode unmasked_ue (negative a) (units a) (negative b) (units b) (2 ^ 24)))

  normal_multiply : half_multiply mode unmasked_ue a b ≡ rounded_half mode unmasked_ue (unlike a b) (ratio (units a * units b) (2 ^ 48))
  normal_multiply =
      finite_multiply mode unmasked_ue a b (rw (normal_finite a na, normal_finite b nb)) ∙ rw (no_denormal a na, no_denormal b nb)
      (plain (rounded_half mode unmasked_ue (unlike a b) (ratio (units a * units b) (2 ^ 48))))

  pub normal_divide : half_divide mode unmasked_ue a b ≡ rounded_half mode unmasked_ue (unlike a b) (ratio (units a) (units b))
  normal_divide =
      finite_divide mode unmasked_ue a b (rw (normal_finite a na, normal_finite b nb, normal_zero b nb)) ∙ rw
      (no_denormal a na, no_denormal b nb) (plain (rounded_half mode unmasked_ue (unlike a b) (ratio (units a) (units b))))

  pub normal_multiply_add : (c : ℕ) → is_normal c ≡ true
      → half_multiply_add mode unmasked_ue a b c
      ≡ exact_sum mode unmasked_ue (unlike a b) (units a * units b) (negative c) (units c * 2 ^ 24) (2 ^ 48)
  normal_multiply_add c nc =
      finite_multiply_add mode unmasked_ue a b c (rw (normal_finite a na, normal_finite b nb, normal_finite c nc))
      ∙ rw (no_denormal a na, no_denormal b nb, no_denormal c nc)
      (plain (exact_sum mode unmasked_ue (unlike a b) (units a * units b) (negative c) (units c * 2 ^ 24) (2 ^ 48)))

-- ---- products
-- in units of 2 ^ -57
pub product_units : (a b : ℕ) → is_normal a ≡ true → is_normal b ≡ true → {p i j : ℕ} → p ≡ significand a * significand b
    → i ≡ exponent_field a → j ≡ exponent_field b → p * 2 ^ (i + j + 7) ≡ units a * units b * 2 ^ 9
product_units a b na nb {p} {i} {j} hp hi hj =
    let L : ℕ = lift a + lift b in
    sym (pow_join p L 9 (let f : L + 9 ≡ i + j + 7 = omega (arith, normal_ge a na, normal_ge b nb) in f))
    ∙ ap (λ (m : ℕ). m * 2 ^ L * 2 ^ 9) hp ∙ ap (λ (m : ℕ). m * 2 ^ 9) (sym (joined a b refl refl))

pub product_rounds : (mode : Mode) (unmasked_ue : Bool) (a b : ℕ) → is_normal a ≡ true → is_normal b ≡ true
    → {p i j : ℕ} {neg : Bool} {o : Outcome} → p ≡ significand a * significand b → i ≡ exponent_field a → j ≡ exponent_field b
    → neg ≡ unlike a b
    → o ≡ rounded_half mode unmasked_ue neg (ratio (p * 2 ^ (i + j + 7)) (2 ^ 57)) → o ≡ half_multiply mode unmasked_ue a b
product_rounds mode unmasked_ue a b na nb hp hi hj hn h =
    h ∙ rw (hn, product_units a b na nb hp hi hj)
    (rounded_scale mode unmasked_ue (unlike a b) (units a * units b) (2 ^ 48) (2 ^ 9) (omega arith) (omega arith)
    ∙ sym (normal_multiply mode unmasked_ue a b na nb))
