-- docs/RULES.md, R6.5 to R6.15: the six operations. `unmasked_ue` says whether UE is unmasked.
use Rattle.std.specs.Prelude.{ℕ, ◌+◌, ◌-◌, ◌*◌, ◌^◌, Bool, false, not, ◌&&◌, ◌||◌, cond, List, [], ◌∷◌, ltb}
use Rattle.std.specs.Bool.{beq}
use Rattle.std.specs.Int.Bits.{bit_or}
use Rattle.lists.specs.Lists.{some}
use Rattle.half.specs.Format.{negative, is_finite, is_infinite, is_nan, is_signalling, is_zero, is_subnormal, units, with_sign, infinity}
use Rattle.half.specs.Format.{negated, quiet}
use Rattle.half.specs.Exact.{ratio, root_of}
use Rattle.half.specs.Round.{IE, DE, ZE, flag, outcome, rounded_half}
use Rattle.half.specs.declared.Mode.{Mode}
use Rattle.half.specs.declared.Mode.TheVariants.{Nearest, Down, Up, TowardZero}
use Rattle.half.specs.declared.Outcome.{Outcome}

-- ---- what the operations share

-- R6.6: the operands stand in the order of the list
abbrev pub first_nan : List ℕ → ℕ
first_nan [] = 0
first_nan (h ∷ hs) = cond (is_nan h) h (first_nan hs)

-- R6.6: the first NaN made quiet, and IE for a signalling one, wherever it stands
abbrev pub nan_result : List ℕ → Outcome
nan_result hs = outcome (quiet (first_nan hs)) (flag IE (some is_signalling hs))

abbrev pub unless_nan : List ℕ → Outcome → Outcome
unless_nan hs o = cond (some is_nan hs) (nan_result hs) o

-- R6.7: no number
abbrev pub invalid : Outcome
invalid = outcome 0xFE00 IE

-- R6.9: DE, added to the other flags, if some operand is subnormal
abbrev pub with_denormals : List ℕ → Outcome → Outcome
with_denormals hs o = outcome o.half (bit_or (flag DE (some is_subnormal hs)) o.flags)

-- R6.5: an infinity (R6.10) or a zero (R6.10, R6.12, R6.14) that is exact, without a flag of its own
abbrev pub exactly : ℕ → Outcome
exactly h = outcome h 0

-- R6.11: the operands have unlike signs
abbrev pub unlike : ℕ → ℕ → Bool
unlike a b = not (beq (negative a) (negative b))

-- R6.12: what terms of unlike signs give that come to zero
abbrev pub cancelled : Mode → ℕ
cancelled Nearest = 0x0000
cancelled Down = 0x8000
cancelled Up = 0x0000
cancelled TowardZero = 0x0000

-- R6.12: the sum of ± x / d and ± y / d, rounded
unfoldable pub exact_sum : Mode → Bool → Bool → ℕ → Bool → ℕ → ℕ → Outcome
exact_sum mode unmasked_ue sx x sy y d =
    cond (beq sx sy) (rounded_half mode unmasked_ue sx (ratio (x + y) d))
    (cond (ltb y x) (rounded_half mode unmasked_ue sx (ratio (x - y) d))
    (cond (ltb x y) (rounded_half mode unmasked_ue sy (ratio (y - x) d))
    (exactly (cancelled mode))))

-- ---- R6.5: the operations; R6.10 is in those lines that ask for infinities. `units h` is the magnitude of h times 2 ^ 24

-- R6.12, a + b. Invalid (R6.7): infinities of unlike signs.
unfoldable pub half_add : Mode → Bool → ℕ → ℕ → Outcome
half_add mode unmasked_ue a b =
    unless_nan (a ∷ b ∷ [])
    (cond (is_infinite a && is_infinite b && unlike a b) invalid
    (with_denormals (a ∷ b ∷ [])
    (cond (is_infinite a) (exactly a)
    (cond (is_infinite b) (exactly b)
    (exact_sum mode unmasked_ue (negative a) (units a) (negative b) (units b) (2 ^ 24))))))

-- R6.13: the sign of b turned; a NaN is handed back with its own
unfoldable pub half_subtract : Mode → Bool → ℕ → ℕ → Outcome
half_subtract mode unmasked_ue a b = unless_nan (a ∷ b ∷ []) (half_add mode unmasked_ue a (negated b))

-- R6.11, a * b. Invalid (R6.7): zero times infinity.
unfoldable pub half_multiply : Mode → Bool → ℕ → ℕ → Outcome
half_multiply mode unmasked_ue a b =
    unless_nan (a ∷ b ∷ [])
    (cond (is_zero a && is_infinite b || is_infinite a && is_zero b) invalid
    (with_denormals (a ∷ b ∷ [])
    (cond (is_infinite a || is_infinite b) (exactly (infinity (unlike a b)))
    (rounded_half mode unmasked_ue (unlike a b) (ratio (units a * units b) (2 ^ 48))))))

-- R6.11, a / b. Invalid (R6.7): zero over zero, infinity over infinity. R6.8: a finite half that is no zero, over zero.
unfoldable pub half_divide : Mode → Bool → ℕ → ℕ → Outcome
half_divide mode unmasked_ue a b =
    unless_nan (a ∷ b ∷ [])
    (cond (is_zero a && is_zero b || is_infinite a && is_infinite b) invalid
    (cond (is_finite a && not (is_zero a) && is_zero b) (outcome (infinity (unlike a b)) ZE)
    (with_denormals (a ∷ b ∷ [])
    (cond (is_infinite a) (exactly (infinity (unlike a b)))
    (cond (is_infinite b) (exactly (with_sign (unlike a b) 0))
    (rounded_half mode unmasked_ue (unlike a b) (ratio (units a) (units b))))))))

-- R6.14, the root of a. Invalid (R6.7): below zero.
unfoldable pub half_root : Mode → Bool → ℕ → Outcome
half_root mode unmasked_ue a =
    unless_nan (a ∷ [])
    (cond (negative a && not (is_zero a)) invalid
    (with_denormals (a ∷ [])
    (cond (is_zero a || is_infinite a) (exactly a)
    (rounded_half mode unmasked_ue false (root_of (units a) (2 ^ 24))))))

-- R6.15, a * b + c. Invalid (R6.7): zero times infinity, an infinite product and an infinite addend of unlike signs.
unfoldable pub half_multiply_add : Mode → Bool → ℕ → ℕ → ℕ → Outcome
half_multiply_add mode unmasked_ue a b c =
    unless_nan (a ∷ b ∷ c ∷ [])
    (cond (is_zero a && is_infinite b || is_infinite a && is_zero b) invalid
    (cond ((is_infinite a || is_infinite b) && is_infinite c && not (beq (unlike a b) (negative c))) invalid
    (with_denormals (a ∷ b ∷ c ∷ [])
    (cond (is_infinite a || is_infinite b) (exactly (infinity (unlike a b)))
    (cond (is_infinite c) (exactly c)
    (exact_sum mode unmasked_ue (unlike a b) (units a * units b) (negative c) (units c * 2 ^ 24) (2 ^ 48)))))))
