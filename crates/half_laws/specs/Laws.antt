-- The rounding that is defined in half's specs/Exact.antt and Round.antt (docs/RULES.md, R6.16 to R6.24) is IEEE 754's.
-- proofs/Proved.antt has a proof of each law under the law's name. Throughout, ± x is the exact value: x its magnitude, a ratio or a
-- root, with a denominator above 0, and `neg` its sign; `unmasked_ue` says whether underflow is unmasked.
use Rattle.std.specs.Prelude.{ℕ, ◌+◌, ◌*◌, ◌/◌, ◌%◌, ◌^◌, ◌≤◌, ◌<◌, Bool, true, false, ◌&&◌, ◌||◌, [], ◌∷◌, ◌≢◌, ◌↔◌, ◌≡◌, leb, eqb}
use Rattle.std.specs.Int.Bits.{bit_or}
use Rattle.lists.specs.Lists.{some}
use Rattle.half.specs.Format.{is_finite, negative, units}
use Rattle.half.specs.Exact.{Magnitude, denominator, whole, round_to}
use Rattle.half.specs.Round.{OE, UE, PE, significant, fine, unlimited, delivered, overflows, tiny, rounded_half}
use Rattle.half.specs.declared.Mode.{Mode}
use Rattle.half.specs.declared.Mode.TheVariants.{Nearest, Down, Up, TowardZero}
use Rattle.half_laws.specs.Values.{AtMost, AtLeast, Equals, Above, Below, Leq, HalfNotAbove, HalfNotBelow, HalfLe}

-- ---- R6.20, R6.23: what rounding gives

-- the half that ± x is rounded to
abbrev pub half_of : Mode → Bool → Bool → Magnitude → ℕ
half_of mode unmasked_ue neg x = (rounded_half mode unmasked_ue neg x).half

-- whether rounding ± x raises a flag, which is a power of two
abbrev pub raises : ℕ → Mode → Bool → Bool → Magnitude → Bool
raises flag mode unmasked_ue neg x = eqb ((rounded_half mode unmasked_ue neg x).flags / flag % 2) 1

-- ---- 0. R6.16, whole units: `whole x a b` is the q with q units a / b ≤ x < q + 1 units, of a root too
abbrev pub WholeUnitsLaw : Type 0
WholeUnitsLaw = (x : Magnitude) → 0 < denominator x → (a b : ℕ) → 0 < a
    → AtLeast x (whole x a b * a) b × Below x ((whole x a b + 1) * a) b

-- ---- 1. R6.18, R6.24: what is delivered without overflow

-- h is a finite half with this sign, and stands for n * 2 ^ -24
pub record StandsFor (neg : Bool) (n h : ℕ) : Type 0 where
  pub small : h < 2 ^ 16
  pub finite : is_finite h ≡ true
  pub sign : negative h ≡ neg
  pub number : units h ≡ n

-- Without overflow a half with the value's sign is delivered, also a zero, and stands for the number that `delivered` gives.
abbrev pub DeliveredHalfLaw : Type 0
DeliveredHalfLaw = (mode : Mode) (unmasked_ue neg : Bool) (x : Magnitude) → 0 < denominator x → overflows mode neg x ≡ false
    → StandsFor neg (delivered mode neg x) (half_of mode unmasked_ue neg x)

-- ---- 2. R6.17: to nearest, ties to even (IEEE 754, 4.3.1: roundTiesToEven)

-- No finite half h is nearer to x than r, as magnitudes: x lies on r's side of the middle between them, (r + h) / 2, or at it. (So r
-- is at most 2 x, by the half 0, and no half of the other sign is nearer either.) Where another half is as near, r is the even one:
-- its lowest fraction bit is 0.
pub record NearestTo (x : Magnitude) (r : ℕ) : Type 0 where
  pub below : (h : ℕ) → is_finite h ≡ true → units r < units h → AtMost x (units r + units h) (2 ^ 25)
  pub above : (h : ℕ) → is_finite h ≡ true → units h < units r → AtLeast x (units r + units h) (2 ^ 25)
  pub even : (h : ℕ) → is_finite h ≡ true → units h ≢ units r → Equals x (units r + units h) (2 ^ 25) → r % 2 ≡ 0

abbrev pub NearestLaw : Type 0
NearestLaw = (unmasked_ue neg : Bool) (x : Magnitude) → 0 < denominator x → overflows Nearest neg x ≡ false
    → NearestTo x (half_of Nearest unmasked_ue neg x)

-- ---- 3. R6.17: the directed roundings (IEEE 754, 4.3.2)

-- r is the greatest half that is not above ± x
pub record Greatest (neg : Bool) (x : Magnitude) (r : ℕ) : Type 0 where
  pub fits : HalfNotAbove r neg x
  pub best : (h : ℕ) → is_finite h ≡ true → HalfNotAbove h neg x → HalfLe h r

-- r is the least half that is not below ± x
pub record Least (neg : Bool) (x : Magnitude) (r : ℕ) : Type 0 where
  pub fits : HalfNotBelow r neg x
  pub best : (h : ℕ) → is_finite h ≡ true → HalfNotBelow h neg x → HalfLe r h

-- r is of the greatest magnitude that is not above x
pub record GreatestMagnitude (x : Magnitude) (r : ℕ) : Type 0 where
  pub fits : AtLeast x (units r) (2 ^ 24)
  pub best : (h : ℕ) → is_finite h ≡ true → AtLeast x (units h) (2 ^ 24) → units h ≤ units r

-- roundTowardNegative
abbrev pub DownLaw : Type 0
DownLaw = (unmasked_ue neg : Bool) (x : Magnitude) → 0 < denominator x → overflows Down neg x ≡ false
    → Greatest neg x (half_of Down unmasked_ue neg x)

-- roundTowardPositive
abbrev pub UpLaw : Type 0
UpLaw = (unmasked_ue neg : Bool) (x : Magnitude) → 0 < denominator x → overflows Up neg x ≡ false
    → Least neg x (half_of Up unmasked_ue neg x)

-- roundTowardZero
abbrev pub TowardZeroLaw : Type 0
TowardZeroLaw = (unmasked_ue neg : Bool) (x : Magnitude) → 0 < denominator x → overflows TowardZero neg x ≡ false
    → GreatestMagnitude x (half_of TowardZero unmasked_ue neg x)

-- ---- 4. R6.22: inexact (IEEE 754, 7.6), without overflow
abbrev pub InexactLaw : Type 0
InexactLaw = (mode : Mode) (unmasked_ue neg : Bool) (x : Magnitude) → 0 < denominator x → overflows mode neg x ≡ false
    → (raises PE mode unmasked_ue neg x ≡ true) ↔ ¬ Equals x (units (half_of mode unmasked_ue neg x)) (2 ^ 24)

-- ---- 5. R6.20: overflow (IEEE 754, 7.4)

-- OE exactly if the value rounded by R6.19, a number of units 2 ^ -(fine x), reaches 65,536
abbrev pub OverflowFlagLaw : Type 0
OverflowFlagLaw = (mode : Mode) (unmasked_ue neg : Bool) (x : Magnitude)
    → (raises OE mode unmasked_ue neg x ≡ true) ↔ (65536 * 2 ^ fine x ≤ unlimited mode neg x)

-- the half then: the infinity, or the largest finite half where the mode leads toward zero
abbrev pub after_overflow : Mode → Bool → ℕ
after_overflow Nearest false = 0x7C00
after_overflow Nearest true = 0xFC00
after_overflow Down false = 0x7BFF
after_overflow Down true = 0xFC00
after_overflow Up false = 0x7C00
after_overflow Up true = 0xFBFF
after_overflow TowardZero false = 0x7BFF
after_overflow TowardZero true = 0xFBFF

abbrev pub OverflowLaw : Type 0
OverflowLaw = (mode : Mode) (unmasked_ue neg : Bool) (x : Magnitude) → overflows mode neg x ≡ true
    → (half_of mode unmasked_ue neg x ≡ after_overflow mode neg) × ((rounded_half mode unmasked_ue neg x).flags ≡ bit_or OE PE)

-- The value on the half grid tells the same: 65,536 is 2 ^ 40 units of 2 ^ -24.
abbrev pub OverflowGridLaw : Type 0
OverflowGridLaw = (mode : Mode) (neg : Bool) (x : Magnitude) → 0 < denominator x
    → overflows mode neg x ≡ leb (2 ^ 40) (delivered mode neg x)

-- Which exact values overflow. 65,504 is the largest half and 65,520 the middle between it and 65,536: to nearest from the middle on
-- (IEEE 754, 4.3.1), where the mode leads away from zero above 65,504, where it leads toward zero from 65,536 on.
abbrev pub TooLarge : Mode → Bool → Magnitude → Type 0
TooLarge Nearest neg x = AtLeast x 65520 1
TooLarge Down false x = AtLeast x 65536 1
TooLarge Down true x = Above x 65504 1
TooLarge Up false x = Above x 65504 1
TooLarge Up true x = AtLeast x 65536 1
TooLarge TowardZero neg x = AtLeast x 65536 1

abbrev pub TooLargeLaw : Type 0
TooLargeLaw = (mode : Mode) (neg : Bool) (x : Magnitude) → 0 < denominator x
    → (overflows mode neg x ≡ true) ↔ TooLarge mode neg x

-- ---- 6. R6.21, R6.23: underflow (IEEE 754, 7.5, detected after rounding), without overflow
abbrev pub UnderflowFlagLaw : Type 0
UnderflowFlagLaw = (mode : Mode) (unmasked_ue neg : Bool) (x : Magnitude) → overflows mode neg x ≡ false
    → raises UE mode unmasked_ue neg x ≡ (tiny mode neg x && (unmasked_ue || raises PE mode unmasked_ue neg x))

-- Which exact values are tiny. 2 ^ -14 is the smallest normal number, 2047 / 2 ^ 25 the largest number of 11 bits below it, and
-- 4095 / 2 ^ 26 the middle between: to nearest below the middle, where the mode leads away from zero up to the first, where it leads
-- toward zero below 2 ^ -14.
abbrev pub TooSmall : Mode → Bool → Magnitude → Type 0
TooSmall Nearest neg x = Below x 4095 (2 ^ 26)
TooSmall Down false x = Below x 1 (2 ^ 14)
TooSmall Down true x = AtMost x 2047 (2 ^ 25)
TooSmall Up false x = AtMost x 2047 (2 ^ 25)
TooSmall Up true x = Below x 1 (2 ^ 14)
TooSmall TowardZero neg x = Below x 1 (2 ^ 14)

abbrev pub TooSmallLaw : Type 0
TooSmallLaw = (mode : Mode) (neg : Bool) (x : Magnitude) → 0 < denominator x
    → (tiny mode neg x ≡ true) ↔ (Above x 0 1 × TooSmall mode neg x)

-- ---- 7. R6.22, R6.23: no other flags than none at all, UE, PE, both of these, or OE with PE
abbrev pub FlagsLaw : Type 0
FlagsLaw = (mode : Mode) (unmasked_ue neg : Bool) (x : Magnitude)
    → some (eqb (rounded_half mode unmasked_ue neg x).flags) (0 ∷ UE ∷ PE ∷ bit_or UE PE ∷ bit_or OE PE ∷ []) ≡ true

-- ---- 8. R6.19: 11 significant bits, whatever the exponent

-- The unit 2 ^ -(fine x) sets no limit: a finer one gives the same number.
abbrev pub FinerLaw : Type 0
FinerLaw = (mode : Mode) (neg : Bool) (x : Magnitude) → 0 < denominator x → (j : ℕ)
    → significant (fine x + j) mode neg x ≡ unlimited mode neg x * 2 ^ j

-- There are 11 significant bits: an x above 0 is rounded to units of which it holds 1,024 to 2,047.
pub record ElevenBits (mode : Mode) (neg : Bool) (x : Magnitude) : Type 0 where
  pub shift : ℕ
  pub least : 1024 ≤ whole x (2 ^ shift) (2 ^ fine x)
  pub most : whole x (2 ^ shift) (2 ^ fine x) < 2048
  pub rounds : unlimited mode neg x ≡ round_to mode neg x (2 ^ shift) (2 ^ fine x) * 2 ^ shift

abbrev pub ElevenBitsLaw : Type 0
ElevenBitsLaw = (mode : Mode) (neg : Bool) (x : Magnitude) → 0 < denominator x → Above x 0 1 → ElevenBits mode neg x

-- ---- 9. R6.18: an exact value that is a finite half's is delivered as that half, in every mode, without PE
abbrev pub ExactLaw : Type 0
ExactLaw = (mode : Mode) (unmasked_ue : Bool) (x : Magnitude) → 0 < denominator x → (h : ℕ) → h < 2 ^ 16 → is_finite h ≡ true
    → Equals x (units h) (2 ^ 24)
    → (half_of mode unmasked_ue (negative h) x ≡ h) × (raises PE mode unmasked_ue (negative h) x ≡ false)

-- ---- 10. R6.18: rounding keeps order. In one mode and sign, a larger magnitude is rounded to no smaller one
abbrev pub OrderLaw : Type 0
OrderLaw = (mode : Mode) (neg : Bool) (x y : Magnitude) → 0 < denominator x → 0 < denominator y → Leq x y
    → delivered mode neg x ≤ delivered mode neg y

-- The halves too, with overflow or without: halves of one sign, read as numbers of 16 bits, are in the order of their magnitudes, the
-- infinity last.
abbrev pub HalfOrderLaw : Type 0
HalfOrderLaw = (mode : Mode) (unmasked_ue neg : Bool) (x y : Magnitude) → 0 < denominator x → 0 < denominator y → Leq x y
    → half_of mode unmasked_ue neg x ≤ half_of mode unmasked_ue neg y
