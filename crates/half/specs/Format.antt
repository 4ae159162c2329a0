-- docs/RULES.md, R6.1 to R6.3: a half and its fields, what kind of half it is, the number that it stands for. A half is a number below
-- 2 ^ 16.
use Rattle.std.specs.Prelude.{ℕ, ◌+◌, ◌-◌, ◌*◌, ◌/◌, ◌%◌, ◌^◌, Bool, true, false, not, ◌&&◌, cond, ltb, eqb, ℤ, pos, neg_ℤ}
use Rattle.std.specs.Int.Bits.{bit_or, bit_xor}

-- ---- R6.1: the sign is bit 15, the exponent field bits 14 to 10, the fraction bits 9 to 0

abbrev pub negative : ℕ → Bool
negative h = eqb (h / 32768) 1

abbrev pub exponent_field : ℕ → ℕ
exponent_field h = h / 1024 % 32

abbrev pub fraction_field : ℕ → ℕ
fraction_field h = h % 1024

-- ---- R6.2: the kinds of halves

abbrev pub is_finite : ℕ → Bool
is_finite h = not (eqb (exponent_field h) 31)

abbrev pub is_infinite : ℕ → Bool
is_infinite h = eqb (exponent_field h) 31 && eqb (fraction_field h) 0

abbrev pub is_nan : ℕ → Bool
is_nan h = eqb (exponent_field h) 31 && not (eqb (fraction_field h) 0)

-- a NaN that is not quiet: fraction bit 9 is clear
abbrev pub is_signalling : ℕ → Bool
is_signalling h = is_nan h && ltb (fraction_field h) 512

abbrev pub is_zero : ℕ → Bool
is_zero h = eqb (exponent_field h) 0 && eqb (fraction_field h) 0

abbrev pub is_subnormal : ℕ → Bool
is_subnormal h = eqb (exponent_field h) 0 && not (eqb (fraction_field h) 0)

-- ---- R6.3: the number that a finite half stands for

abbrev pub significand : ℕ → ℕ
significand h = cond (eqb (exponent_field h) 0) (fraction_field h) (1024 + fraction_field h)

-- How many units of 2 ^ -24 it is, the sign left out. It is asked of finite halves, and of infinities where halves are compared (R6.25).
-- Subtraction of natural numbers stops at 0, here and in Round.antt, so that the exponent field 0 counts as 1 does.
unfoldable pub units : ℕ → ℕ
units h = significand h * 2 ^ (exponent_field h - 1)

-- n with this sign, true for minus; the two zeros are one
abbrev pub signed : Bool → ℕ → ℤ
signed false n = pos n
signed true n = neg_ℤ (pos n)

-- R6.25: the number itself, in these units
abbrev pub value : ℕ → ℤ
value h = signed (negative h) (units h)

-- ---- halves made

-- R6.24: the half with this sign, and the exponent and fraction fields of m
abbrev pub with_sign : Bool → ℕ → ℕ
with_sign neg m = cond neg (32768 + m) m

-- R6.10: the infinity of a sign
abbrev pub infinity : Bool → ℕ
infinity neg = with_sign neg 0x7C00

-- R6.13: the sign turned
abbrev pub negated : ℕ → ℕ
negated h = bit_xor h 0x8000

-- R6.6: a NaN made quiet
abbrev pub quiet : ℕ → ℕ
quiet h = bit_or h 512
