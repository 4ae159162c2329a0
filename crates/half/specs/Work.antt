-- No clause: used by the code's private functions, and nothing here has to be believed. Laws tie it to the definitions
-- (proofs/Bridge.antt).
-- The place of a number v ≥ 0 among the whole numbers: 2 c where v is c, and 2 c + 1 where v lies between c and c + 1.
use Rattle.std.specs.Prelude.{ℕ, ◌+◌, ◌-◌, ◌*◌, ◌/◌, ◌%◌, ◌^◌, ◌<◌, ◌≤◌, min, Bool, ◌&&◌, ◌||◌, cond, [], ◌∷◌, ◌≡◌, ltb, ℤ}
use Rattle.std.specs.Bool.{beq}
use Rattle.std.proofs.Math.IntN.{sub_ℕ}
use Rattle.lists.specs.Lists.{some}
use Rattle.half.specs.Format.{negative, exponent_field, is_signalling, units}
use Rattle.half.specs.Exact.{root_from}
use Rattle.half.specs.Round.{outcome}
use Rattle.half.specs.Comparison.{relation, comparison_flags, holds}
use Rattle.half.specs.declared.Outcome.{Outcome}
use Rattle.half.specs.declared.comparison.Predicate.{Predicate}
use Rattle.half.specs.declared.product.Product.{Product}
use Rattle.half.specs.declared.product.Shift.{Shift}
use Rattle.half.specs.declared.product.Shift.TheVariants.{Above, Below}
use Rattle.half.specs.declared.normal.Sum.{Sum}

-- 1 where something is left, else 0
abbrev pub more : ℕ → ℕ
more r = min r 1

-- of the ratio n / d, for a d above 0
unfoldable pub place : ℕ → ℕ → ℕ
place n d = 2 * (n / d) + more (n % d)

-- of the square root of n, for an n below 2 ^ (2 * k)
unfoldable pub root_place : ℕ → ℕ → ℕ
root_place k n = let s = root_from k n 0 in 2 * s + more (n - s * s)

-- the unbiased exponent of a significand's lowest bit: -24 for a subnormal, and for a normal the exponent field less 25
abbrev pub scale : ℕ → ℤ
scale h = sub_ℕ (exponent_field h - 1) 24

-- a normal half, neither zero nor subnormal, infinite or a NaN: an operand of the short way
abbrev pub is_normal : ℕ → Bool
is_normal h = ltb 0 (exponent_field h) && ltb (exponent_field h) 31

-- the magnitude m / 2 ^ 48 is n units, which lie as far above 2 ^ -26 or below as the shift says
abbrev pub Shifted : ℕ → ℕ → Shift → Type 0
Shifted m n (Above k) = (k ≤ 38) × (m ≡ n * 2 ^ (k + 22))
Shifted m n (Below k) = (1 ≤ k) × (k ≤ 22) × (m * 2 ^ k ≡ n * 2 ^ 22)

-- p is the product of the significands of a and b, with its unit
pub record Scaled (a b : ℕ) (p : Product) : Type 0 where
  pub small : p.significand < 2 ^ 22
  pub shifted : Shifted (units a * units b) p.significand p.shift

-- the magnitude of ± x and ± y added, by whether their signs are like, and its sign where it is not 0
abbrev pub sum_magnitude : Bool → ℕ → ℕ → ℕ
sum_magnitude like x y = cond like (x + y) (cond (ltb x y) (y - x) (x - y))

abbrev pub sum_sign : Bool → ℕ → Bool → ℕ → Bool
sum_sign sx x sy y = cond (ltb x y) sy sx

-- s is ± x and ± y added, in units of 2 ^ -57
pub record Summed (sx : Bool) (x : ℕ) (sy : Bool) (y : ℕ) (s : Sum) : Type 0 where
  pub room : s.exponent < 64
  pub magnitude : s.digits * 2 ^ s.exponent ≡ sum_magnitude (beq sx sy) x y
  pub sign : s.neg ≡ sum_sign sx x sy y

-- the exponent and fraction fields, counted up from 2 ^ 15, or down with a minus
abbrev pub rank_of : ℕ → ℕ
rank_of h = cond (negative h) (2 ^ 15 - h % 2 ^ 15) (2 ^ 15 + h % 2 ^ 15)

-- R6.28's 1 or 0 where it is compared, and else a where the predicate says yes, and b where it says no
abbrev pub picked : Predicate → Bool → ℕ → ℕ → Outcome
picked p compares a b =
    let yes : Bool = holds p (relation a b) in
    outcome (cond compares (cond yes 1 0) (cond yes a b)) (comparison_flags (some is_signalling (a ∷ b ∷ []) || p.signals) a b)
