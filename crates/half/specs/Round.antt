-- docs/RULES.md, R6.18 to R6.24: an exact magnitude rounded to a half, with its flags.
use Rattle.std.specs.Prelude.{ℕ, ◌+◌, ◌-◌, ◌*◌, ◌/◌, ◌^◌, Bool, not, ◌&&◌, ◌||◌, cond, leb, ltb}
use Rattle.std.proofs.Math.Dec.{compare_is_eq}
use Rattle.std.specs.Int.Bits.{bit_or}
use Rattle.std.specs.Float.Ieee.{size}
use Rattle.half.specs.Format.{with_sign}
use Rattle.half.specs.Exact.{Magnitude, denominator, against, whole, round_to, is_nearest, outward}
use Rattle.half.specs.declared.Mode.{Mode}
use Rattle.half.specs.declared.Outcome.{Outcome}

-- ---- R1.5: the flags, by their bits in the control word: 0 to 5

abbrev pub IE : ℕ
IE = 1

abbrev pub DE : ℕ
DE = 2

abbrev pub ZE : ℕ
ZE = 4

abbrev pub OE : ℕ
OE = 8

abbrev pub UE : ℕ
UE = 16

abbrev pub PE : ℕ
PE = 32

-- a flag, where it is raised, and none where it is not
abbrev pub flag : ℕ → Bool → ℕ
flag f raised = cond raised f 0

-- R6.5: a half and its flags
abbrev pub outcome : ℕ → ℕ → Outcome
outcome h f = record { half = h; flags = f }

-- ---- R6.18, R6.19: two roundings to 11 significant bits

-- x rounded to 11 significant bits, but to no unit finer than 2 ^ -l; a number of units 2 ^ -l. Where x holds fewer than 1,024 of them
-- its 11 bits would be finer; from 1,024 to 2,047 they are these units. In both cases s is 0.
unfoldable pub significant : ℕ → Mode → Bool → Magnitude → ℕ
significant l mode neg x =
    let s = size (whole x 1 (2 ^ l)) - 11 in
    round_to mode neg x (2 ^ s) (2 ^ l) * 2 ^ s

-- The unit 2 ^ -(fine x) is so fine that it sets no limit: an x above 0 with the denominator d, a ratio or a root, is at least
-- 1 / d, which is 2 ^ 24 of these units or more (crate half_laws, FinerLaw and ElevenBitsLaw).
abbrev pub fine : Magnitude → ℕ
fine x = 24 + size (denominator x)

-- R6.19: no exponent is too small or too large. In units of 2 ^ -(fine x).
abbrev pub unlimited : Mode → Bool → Magnitude → ℕ
unlimited mode neg x = significant (fine x) mode neg x

-- R6.18: what halves can hold, whose finest unit is 2 ^ -24. In these units.
abbrev pub delivered : Mode → Bool → Magnitude → ℕ
delivered mode neg x = significant 24 mode neg x

-- ---- what is told of them

-- R6.20: 65,536 is reached
abbrev pub overflows : Mode → Bool → Magnitude → Bool
overflows mode neg x = leb (65536 * 2 ^ fine x) (unlimited mode neg x)

-- R6.21: above 0, and 2 ^ -14 is not reached
abbrev pub tiny : Mode → Bool → Magnitude → Bool
tiny mode neg x = ltb 0 (unlimited mode neg x) && ltb (unlimited mode neg x * 2 ^ 14) (2 ^ fine x)

-- R6.22: what is delivered is not x
abbrev pub inexact : Mode → Bool → Magnitude → Bool
inexact mode neg x = not (compare_is_eq (against x (delivered mode neg x) (2 ^ 24)))

-- ---- the half

-- R6.18: the exponent and fraction fields of the half n * 2 ^ -24, for an n below 2 ^ 40 of 11 significant bits. A normal's n / 2 ^ s is
-- 1024 to 2047, and its 1024 makes the exponent field s + 1; a subnormal has s = 0.
unfoldable pub encode : ℕ → ℕ
encode n = let s = size n - 11 in s * 1024 + n / 2 ^ s

-- R6.20: the fields of an infinity, or of the largest finite half where the mode leads toward zero
abbrev pub overflow_fields : Mode → Bool → ℕ
overflow_fields mode neg = cond (is_nearest mode || outward mode neg) 0x7C00 0x7BFF

-- R6.20, R6.23: the half and its flags. R6.24: it has the sign of the exact outcome, also where it is a zero.
unfoldable pub rounded_half : Mode → Bool → Bool → Magnitude → Outcome
rounded_half mode unmasked_ue neg x =
    -- R6.20
    cond (overflows mode neg x) (outcome (with_sign neg (overflow_fields mode neg)) (bit_or OE PE))
    -- R6.18; R6.22, R6.23
    (outcome (with_sign neg (encode (delivered mode neg x)))
    (bit_or (flag PE (inexact mode neg x)) (flag UE (tiny mode neg x && (unmasked_ue || inexact mode neg x)))))
