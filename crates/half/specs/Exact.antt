-- docs/RULES.md, R6.16 and R6.17: exact results, and how they are rounded to a unit. `round_to` asks an exact magnitude
-- two things: how it compares with a ratio, and how many whole units it holds.
use Prim.Native.Nat.{ℕ, zero, suc, ◌+◌, ◌*◌, ◌/◌, ◌^◌, compare, Ordering}
use Rattle.std.specs.Prelude.{Bool, true, false, not, cond, leb}
use Rattle.std.specs.Float.Ieee.{size, nearest}
use Rattle.half.specs.declared.Mode.{Mode}
use Rattle.half.specs.declared.Mode.TheVariants.{Nearest, Down, Up, TowardZero}

-- ---- R6.16: exact magnitudes

-- the number n / d, or the square root of n / d; d is above 0
pub data Magnitude : Type 0 where
  ratio root_of : ℕ → ℕ → Magnitude

abbrev pub denominator : Magnitude → ℕ
denominator (ratio n d) = d
denominator (root_of n d) = d

-- How x compares with a / b, where b is above 0: lt is x < a / b, eq is x = a / b, gt is x > a / b. A root goes by its square.
unfoldable pub against : Magnitude → ℕ → ℕ → Ordering
against (ratio n d) a b = compare (n * b) (a * d)
against (root_of n d) a b = compare (n * (b * b)) (a * a * d)

-- the largest s + y, for a y below 2 ^ k, whose square is at most n, if s is such: binary digit by digit, from the highest
unfoldable pub root_from : ℕ → ℕ → ℕ → ℕ
root_from zero n s = s
root_from (suc k) n s = root_from k n (cond (leb ((s + 2 ^ k) * (s + 2 ^ k)) n) (s + 2 ^ k) s)

-- the largest number whose square is at most n; `size n` is the number of n's binary digits, and the root has no more
abbrev pub whole_root : ℕ → ℕ
whole_root n = root_from (size n) n 0

-- How many whole units a / b there are in x, where a is above 0: q such that q units are at most x and q + 1 are more (crate half_laws,
-- WholeUnitsLaw, also for the root, which is taken of a whole number).
unfoldable pub whole : Magnitude → ℕ → ℕ → ℕ
whole (ratio n d) a b = n * b / (d * a)
whole (root_of n d) a b = whole_root (n * (b * b) / (d * (a * a)))

-- ---- R6.17: rounding to a unit, to q of them or q + 1

abbrev pub is_nearest : Mode → Bool
is_nearest Nearest = true
is_nearest Down = false
is_nearest Up = false
is_nearest TowardZero = false

-- the mode leads away from zero for a number of this sign
abbrev pub outward : Mode → Bool → Bool
outward Nearest neg = false
outward Down neg = neg
outward Up neg = not neg
outward TowardZero neg = false

-- q, or q + 1 where x is above q units (it is never below)
abbrev pub ceiling : ℕ → Ordering → ℕ
ceiling q Ordering.lt = q
ceiling q Ordering.eq = q
ceiling q Ordering.gt = suc q

-- The magnitude x of a number of this sign, rounded to a whole number of units a / b, of which it holds q. The kit's `nearest` goes by
-- how x compares with the middle, q + 1/2 units: below it q, above it q + 1, and at it q + q % 2, the even one of the two.
unfoldable pub round_to : Mode → Bool → Magnitude → ℕ → ℕ → ℕ
round_to mode neg x a b =
    let q = whole x a b in
    cond (is_nearest mode) (nearest q (against x ((2 * q + 1) * a) (2 * b)))
    (cond (outward mode neg) (ceiling q (against x (q * a) b))
    q)
