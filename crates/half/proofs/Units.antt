-- The kinds of halves, and how large their numbers are.
use Prim.Native.Nat.{ℕ, ◌+◌, ◌-◌, ◌*◌, ◌%◌, ◌^◌, ◌≤◌, ◌<◌}
use mathlib.Core.Bool.{Bool, true, false, not, ◌&&◌, cond}
use mathlib.Core.Path.{◌≡◌, refl}
use native.Mathlib.Omega.{arith}
use native.Mathlib.Nat.{lt_of_lt_of_le, mul-pos, mul-le-mul}
use lib.Dec.{eqb}
use lib.Pow.{pow_pos, pow_mono, shl_lt, shl_exact}
use borrow.Author.Tests.{eqb-false, not-true}
use Rattle.half.specs.Format.{exponent_field, fraction_field, significand, units, is_finite, is_infinite, is_nan, is_zero}

-- ---- kinds

pub finite_no_nan : (h : ℕ) → is_finite h ≡ true → is_nan h ≡ false
finite_no_nan h f = go (eqb (exponent_field h) 31) f
  where
    go : (b : Bool) → not b ≡ true → (b && not (eqb (fraction_field h) 0)) ≡ false
    go true e = cc
    go false e = refl

pub finite_no_infinity : (h : ℕ) → is_finite h ≡ true → is_infinite h ≡ false
finite_no_infinity h f = go (eqb (exponent_field h) 31) f
  where
    go : (b : Bool) → not b ≡ true → (b && eqb (fraction_field h) 0) ≡ false
    go true e = cc
    go false e = refl

-- what is neither finite nor a NaN is an infinity
pub must_be_infinite : (h : ℕ) → is_finite h ≡ false → is_nan h ≡ false → is_infinite h ≡ true
must_be_infinite h f n = go (eqb (exponent_field h) 31) (eqb (fraction_field h) 0) f n
  where
    go : (b z : Bool) → not b ≡ false → (b && not z) ≡ false → (b && z) ≡ true
    go true true e k = refl
    go true false e k = cc
    go false z e k = cc

-- ---- numbers

-- how far the exponent field lifts the significand above the smallest halves
abbrev pub lift : ℕ → ℕ
lift h = exponent_field h - 1

pub lift_le : (h : ℕ) → lift h ≤ 30
lift_le h = omega arith

pub significand_lt : (h : ℕ) → significand h < 2 ^ 11
significand_lt h = go (eqb (exponent_field h) 0)
  where
    f : fraction_field h < 1024
    f = omega arith

    go : (b : Bool) → cond b (fraction_field h) (1024 + fraction_field h) < 2 ^ 11
    go true = omega (arith, f)
    go false = omega (arith, f)

pub units_lt : (h : ℕ) → units h < 2 ^ 41
unfolding units
units_lt h = lt_of_lt_of_le (shl_lt {a = significand h} 11 (lift h) (significand_lt h)) (pow_mono {i = 11 + lift h} {j = 41} (omega arith))

pub finite_le : (h : ℕ) → is_finite h ≡ true → units h ≤ 2047 * 2 ^ 29
unfolding units
finite_le h f =
    let n : (exponent_field h ≡ 31 → ⊥) = eqb-false (exponent_field h) 31 (not-true (eqb (exponent_field h) 31) f) in
    mul-le-mul {n₁ = significand h} {m₁ = 2 ^ lift h} {n₂ = 2047} {m₂ = 2 ^ 29} (omega (arith, significand_lt h))
    (pow_mono {i = lift h} {j = 29} (omega arith))

pub finite_lt : (h : ℕ) → is_finite h ≡ true → units h < 2 ^ 40
finite_lt h f = omega (arith, finite_le h f)

pub significand_pos : (h : ℕ) → is_zero h ≡ false → 0 < significand h
significand_pos h z = go (eqb (exponent_field h) 0) z
  where
    go : (b : Bool) → (b && eqb (fraction_field h) 0) ≡ false → 0 < cond b (fraction_field h) (1024 + fraction_field h)
    go true e = let n : (fraction_field h ≡ 0 → ⊥) = eqb-false (fraction_field h) 0 e in omega arith
    go false e = omega arith

pub units_pos : (h : ℕ) → is_zero h ≡ false → 0 < units h
unfolding units
units_pos h z = mul-pos {m = significand h} {n = 2 ^ lift h} (significand_pos h z) (pow_pos (lift h))

-- as the code works it out: s is the significand, raised by no more than an exponent field says
pub raised_exact : (h s l : ℕ) → s ≡ significand h → l ≤ 30 → s * 2 ^ l % 2 ^ 64 ≡ s * 2 ^ l
raised_exact h s l hs hl = shl_exact {a = s} 11 l 64 (omega (arith, significand_lt h)) (omega arith)

pub units_raised : (h : ℕ) {s l : ℕ} → s ≡ significand h → l ≡ lift h → s * 2 ^ l % 2 ^ 64 ≡ units h
unfolding units
units_raised h {s} {l} hs hl = rw (← hs, ← hl) (raised_exact h s l hs (omega (arith, lift_le h)))
