-- Signed numbers by their signs and magnitudes: sums, products, and a half with its sign turned.
use Prim.Native.Nat.{ℕ, zero, suc, ◌+◌, ◌-◌, ◌*◌, ◌/◌, ◌^◌, ◌≤◌, ◌<◌}
use mathlib.Core.Bool.{Bool, true, false, not, beq, false≢true}
use mathlib.Core.Path.{◌≡◌, refl, sym, ap, ◌∙◌}
use native.Mathlib.Omega.{arith}
use native.Mathlib.Nat.{zero-div, zero-mod, mul_comm}
use lib.Bits.{bit_xor, xor_shr}
use lib.Dec.{eqb, ltb}
use lib.IntN.{ℤ, pos, neg_ℤ, nat_abs, ◌+ℤ◌, ◌*ℤ◌, neg_ℤ-neg_ℤ, neg_ℤ-+ℤ, +ℤ_comm, +ℤ-neg_ℤ_cancel, *ℤ_comm, *ℤ-zero, *ℤ-negsuc}
use borrow.Author.Tests.{ltb-true, ltb-false}
use Rattle.half.specs.Format.{is_finite, is_subnormal, negative, negated, with_sign, units, signed, value}
use Rattle.half.specs.Exact.{ratio}
use Rattle.half.specs.Round.{outcome, rounded_half}
use Rattle.half.specs.Work.{place}
use Rattle.half.specs.Operations.{cancelled, exactly, exact_sum}
use Rattle.half.specs.declared.Mode.{Mode}
use Rattle.half.specs.declared.Mode.TheVariants.{Nearest, Down, Up, TowardZero}
use Rattle.half.proofs.Special.{exponent_negated, fraction_negated}
use Rattle.half.proofs.Steps.{zero_rounds}
use Rattle.half.proofs.Sticky.{placed_ratio}
use Rattle.half.proofs.Sums.{beq_eq}
use Rattle.half.specs.declared.Outcome.{Outcome}
use Rattle.half_laws.specs.Operations.{sign_of, cancelled_sign, zero_sign}

-- ---- the sign and the magnitude of a signed number

pub abs_signed : (s : Bool) (n : ℕ) → nat_abs (signed s n) ≡ n
abs_signed false n = refl
abs_signed true zero = refl
abs_signed true (suc n) = refl

-- its own sign, also for a zero
pub sign_signed : (s : Bool) (n : ℕ) → sign_of (signed s n) s ≡ s
sign_signed false zero = refl
sign_signed false (suc n) = refl
sign_signed true zero = refl
sign_signed true (suc n) = refl

-- where it is not zero, z is not asked
sign_above : (s z : Bool) (n : ℕ) → 0 < n → sign_of (signed s n) z ≡ s
sign_above s z zero h = absurd (omega arith)
sign_above false z (suc n) h = refl
sign_above true z (suc n) h = refl

pub zero_signed : (s : Bool) → signed s 0 ≡ pos 0
zero_signed false = refl
zero_signed true = refl

pub turned : (s : Bool) (n : ℕ) → signed (not s) n ≡ neg_ℤ (signed s n)
turned false n = refl
turned true n = sym (neg_ℤ-neg_ℤ (pos n))

-- ---- sums

like_sum : (s : Bool) (x y : ℕ) → signed s x +ℤ signed s y ≡ signed s (x + y)
like_sum false x y = refl
like_sum true x y = sym (neg_ℤ-+ℤ (pos x) (pos y))

-- the smaller one is taken away
unlike_sum : (s t : Bool) → t ≡ not s → (x y : ℕ) → y ≤ x → signed s x +ℤ signed t y ≡ signed s (x - y)
unlike_sum s t u x y h =
    let e : x ≡ x - y + y = omega arith in
    ap (λ (n : ℕ). signed s n +ℤ signed t y) e ∙ ap (λ (v : ℤ). v +ℤ signed t y) (sym (like_sum s (x - y) y))
    ∙ ap (λ (v : ℤ). signed s (x - y) +ℤ signed s y +ℤ v) (ap (λ (b : Bool). signed b y) u ∙ turned s y)
    ∙ +ℤ-neg_ℤ_cancel (signed s (x - y)) (signed s y)

other : (s t : Bool) → beq s t ≡ false → (t ≡ not s) × (s ≡ not t)
other true true u = absurd (false≢true (sym u))
other true false u = (refl, refl)
other false true u = (refl, refl)
other false false u = absurd (false≢true (sym u))

-- ---- `exact_sum` rounds the sum

cancelled_is : (mode : Mode) → with_sign (cancelled_sign mode) 0 ≡ cancelled mode
cancelled_is Nearest = refl
cancelled_is Down = refl
cancelled_is Up = refl
cancelled_is TowardZero = refl

module _ (mode : Mode) (unmasked_ue : Bool) (d : ℕ) (hd : 0 < d) where
  -- the number v / d; a zero has the sign z
  abbrev pub number : ℤ → Bool → Outcome
  number v z = rounded_half mode unmasked_ue (sign_of v z) (ratio (nat_abs v) d)

  pub own_sign : (s : Bool) (n : ℕ) → number (signed s n) s ≡ rounded_half mode unmasked_ue s (ratio n d)
  own_sign s n = rw (sign_signed s n, abs_signed s n)

  any_sign : (s z : Bool) (n : ℕ) → 0 < n → number (signed s n) z ≡ rounded_half mode unmasked_ue s (ratio n d)
  any_sign s z n h = rw (sign_above s z n h, abs_signed s n)

  zero_number : (z : Bool) → number (pos 0) z ≡ outcome (with_sign z 0) 0
  unfolding place
  zero_number z = sym (placed_ratio mode unmasked_ue z 0 d hd (rw (zero-div d, zero-mod d)) (zero_rounds mode unmasked_ue z))

  pub sum_number : (s : Bool) (x : ℕ) (t : Bool) (y : ℕ)
      → exact_sum mode unmasked_ue s x t y d ≡ number (signed s x +ℤ signed t y) (zero_sign mode s t)
  unfolding exact_sum
  sum_number s x t y = go (beq s t) (ltb y x) (ltb x y) refl refl refl
    where
      go : (l b c : Bool) → beq s t ≡ l → ltb y x ≡ b → ltb x y ≡ c
          → exact_sum mode unmasked_ue s x t y d ≡ number (signed s x +ℤ signed t y) (zero_sign mode s t)
      go true b c p q r = let e : s ≡ t = beq_eq s t p in rw (p, ← e, like_sum s x y) (sym (own_sign s (x + y)))
      go false true c p q r =
          let h : y < x = ltb-true _ _ q in
          rw (p, q, unlike_sum s t (other s t p).0 x y (omega arith)) (sym (any_sign s (cancelled_sign mode) (x - y) (omega arith)))
      go false false true p q r =
          let h : x < y = ltb-true _ _ r in
          rw (p, q, r, +ℤ_comm (signed s x) (signed t y), unlike_sum t s (other s t p).1 y x (omega arith))
          (sym (any_sign t (cancelled_sign mode) (y - x) (omega arith)))
      go false false false p q r =
          let h : x ≤ y = ltb-false _ _ q in
          let k : y ≤ x = ltb-false _ _ r in
          let e : x - y ≡ 0 = omega arith in
          rw (p, q, r, unlike_sum s t (other s t p).0 x y k, e, zero_signed s)
          (sym (zero_number (cancelled_sign mode) ∙ ap exactly (cancelled_is mode)))

-- ---- products

times_turned : (v : ℤ) (y : ℕ) → v *ℤ neg_ℤ (pos y) ≡ neg_ℤ (v *ℤ pos y)
times_turned v zero = rw (*ℤ-zero v)
times_turned v (suc y) = *ℤ-negsuc v y

pub scaled : (s : Bool) (x y : ℕ) → signed s x *ℤ pos y ≡ signed s (x * y)
scaled false x y = refl
scaled true x y = *ℤ_comm (neg_ℤ (pos x)) (pos y) ∙ times_turned (pos y) x ∙ ap (λ (n : ℕ). neg_ℤ (pos n)) (mul_comm y x)

pub product : (s : Bool) (x : ℕ) (t : Bool) (y : ℕ) → signed s x *ℤ signed t y ≡ signed (not (beq s t)) (x * y)
product false x false y = refl
product false x true y = times_turned (pos x) y
product true x false y = scaled true x y
product true x true y = times_turned (neg_ℤ (pos x)) y ∙ ap neg_ℤ (scaled true x y) ∙ neg_ℤ-neg_ℤ (pos (x * y))

-- ---- a half of 16 bits with its sign turned

pub negative-negated : (h : ℕ) → h < 2 ^ 16 → negative (negated h) ≡ not (negative h)
negative-negated h l = ap (λ (n : ℕ). eqb n 1) (xor_shr h 0x8000 15) ∙ go (h / 32768) (omega arith)
  where
    go : (n : ℕ) → n ≤ 1 → eqb (bit_xor n 1) 1 ≡ not (eqb n 1)
    go zero h = refl
    go (suc zero) h = refl
    go (suc (suc n)) h = absurd (omega arith)

pub finite_negated : (h : ℕ) → is_finite (negated h) ≡ is_finite h
finite_negated h = rw (exponent_negated h)

pub subnormal_negated : (h : ℕ) → is_subnormal (negated h) ≡ is_subnormal h
subnormal_negated h = rw (exponent_negated h, fraction_negated h)

pub value-negated : (h : ℕ) → h < 2 ^ 16 → value (negated h) ≡ neg_ℤ (value h)
unfolding units
value-negated h l = rw (negative-negated h l, exponent_negated h, fraction_negated h) (turned (negative h) (units h))
