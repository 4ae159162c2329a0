-- docs/RULES.md, R6.11 to R6.15, for finite operands: each operation rounds its exact result, a signed number, once. Laws.antt says what
-- that rounding gives; proofs/Operated.antt has a proof of each law under the law's name.
use Rattle.std.specs.Prelude.{ℕ, zero, suc, ◌^◌, ◌<◌, Bool, true, false, not, cond, List, [], ◌∷◌, ◌≡◌, ℤ, pos, negsuc, nat_abs, ◌+ℤ◌, ◌-ℤ◌, ◌*ℤ◌}
use Rattle.std.specs.Bool.{beq}
use Rattle.half.specs.Format.{is_finite, is_zero, negative, units, signed, value}
use Rattle.half.specs.Exact.{Magnitude, ratio, root_of, denominator}
use Rattle.half.specs.Round.{rounded_half}
use Rattle.half.specs.Operations.{with_denormals, unlike, half_add, half_subtract, half_multiply, half_divide, half_root, half_multiply_add}
use Rattle.half.specs.declared.Mode.{Mode}
use Rattle.half.specs.declared.Mode.TheVariants.{Nearest, Down, Up, TowardZero}
use Rattle.half.specs.declared.Outcome.{Outcome}

-- ---- R6.3: signed numbers. pos n is n, negsuc n is -(n + 1); `value h` is a finite half as a number of units 2 ^ -24

-- the sign of v; a zero has the sign z
abbrev pub sign_of : ℤ → Bool → Bool
sign_of (pos zero) z = z
sign_of (pos (suc n)) z = false
sign_of (negsuc n) z = true

-- ---- R6.5: rounding

-- o is ± x rounded: the half and the flags of that rounding, and DE beside them where an operand is subnormal. x has a denominator
-- above 0, as Laws.antt asks.
pub record Rounds (mode : Mode) (unmasked_ue : Bool) (operands : List ℕ) (neg : Bool) (x : Magnitude) (o : Outcome) : Type 0 where
  pub above : 0 < denominator x
  pub outcome : o ≡ with_denormals operands (rounded_half mode unmasked_ue neg x)

-- o is the number v / d rounded so; a zero has the sign z
abbrev pub RoundsRatio : Mode → Bool → List ℕ → ℤ → ℕ → Bool → Outcome → Type 0
RoundsRatio mode unmasked_ue operands v d z o = Rounds mode unmasked_ue operands (sign_of v z) (ratio (nat_abs v) d) o

-- ---- R6.12: the sign of a zero sum whose terms have the signs s and t

-- where they are unlike
abbrev pub cancelled_sign : Mode → Bool
cancelled_sign Nearest = false
cancelled_sign Down = true
cancelled_sign Up = false
cancelled_sign TowardZero = false

-- where they are like, it is theirs
abbrev pub zero_sign : Mode → Bool → Bool → Bool
zero_sign mode s t = cond (beq s t) s (cancelled_sign mode)

-- ---- R6.11 to R6.15: the operations

-- R6.12: a + b
abbrev pub AddLaw : Type 0
AddLaw = (mode : Mode) (unmasked_ue : Bool) (a b : ℕ) → is_finite a ≡ true → is_finite b ≡ true
    → RoundsRatio mode unmasked_ue (a ∷ b ∷ []) (value a +ℤ value b) (2 ^ 24) (zero_sign mode (negative a) (negative b))
    (half_add mode unmasked_ue a b)

-- R6.13: a - b, where b has 16 bits; as a term of the sum b has the other sign
abbrev pub SubtractLaw : Type 0
SubtractLaw = (mode : Mode) (unmasked_ue : Bool) (a b : ℕ) → is_finite a ≡ true → is_finite b ≡ true → b < 2 ^ 16
    → RoundsRatio mode unmasked_ue (a ∷ b ∷ []) (value a -ℤ value b) (2 ^ 24) (zero_sign mode (negative a) (not (negative b)))
    (half_subtract mode unmasked_ue a b)

-- R6.11: a * b
abbrev pub MultiplyLaw : Type 0
MultiplyLaw = (mode : Mode) (unmasked_ue : Bool) (a b : ℕ) → is_finite a ≡ true → is_finite b ≡ true
    → RoundsRatio mode unmasked_ue (a ∷ b ∷ []) (value a *ℤ value b) (2 ^ 48) (unlike a b) (half_multiply mode unmasked_ue a b)

-- R6.11: a / b for a b that is not zero. The exact quotient is ± units a / units b: times b it is a.
abbrev pub QuotientLaw : Type 0
QuotientLaw = (a b : ℕ) → signed (unlike a b) (units a) *ℤ value b ≡ value a *ℤ pos (units b)

abbrev pub DivideLaw : Type 0
DivideLaw = (mode : Mode) (unmasked_ue : Bool) (a b : ℕ) → is_finite a ≡ true → is_finite b ≡ true → is_zero b ≡ false
    → RoundsRatio mode unmasked_ue (a ∷ b ∷ []) (signed (unlike a b) (units a)) (units b) (unlike a b) (half_divide mode unmasked_ue a b)

-- R6.14: the root of an a above zero
abbrev pub RootLaw : Type 0
RootLaw = (mode : Mode) (unmasked_ue : Bool) (a : ℕ) → is_finite a ≡ true → negative a ≡ false → is_zero a ≡ false
    → Rounds mode unmasked_ue (a ∷ []) false (root_of (units a) (2 ^ 24)) (half_root mode unmasked_ue a)

-- R6.15: a * b + c, rounded once
abbrev pub MultiplyAddLaw : Type 0
MultiplyAddLaw = (mode : Mode) (unmasked_ue : Bool) (a b c : ℕ) → is_finite a ≡ true → is_finite b ≡ true → is_finite c ≡ true
    → RoundsRatio mode unmasked_ue (a ∷ b ∷ c ∷ []) (value a *ℤ value b +ℤ value c *ℤ pos (2 ^ 24)) (2 ^ 48)
    (zero_sign mode (unlike a b) (negative c)) (half_multiply_add mode unmasked_ue a b c)
