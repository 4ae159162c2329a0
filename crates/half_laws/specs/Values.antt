-- How the laws compare an exact value with ratios, with halves and with another exact value. No clause of docs/RULES.md speaks of these.
use Prim.Native.Nat.{Ordering}
use Rattle.std.specs.Prelude.{ℕ, ◌*◌, ◌^◌, ◌≤◌, Bool, true, false, not, ◌≢◌, ◌≡◌, ◌≤ℤ◌}
use Rattle.half.specs.Format.{negative, units, value}
use Rattle.half.specs.Exact.{Magnitude, ratio, root_of, against}

-- ---- an exact magnitude x and the ratio a / b: x ≤ a / b, x ≥ a / b, x = a / b, x > a / b, x < a / b

abbrev pub AtMost : Magnitude → ℕ → ℕ → Type 0
AtMost x a b = against x a b ≢ Ordering.gt

abbrev pub AtLeast : Magnitude → ℕ → ℕ → Type 0
AtLeast x a b = against x a b ≢ Ordering.lt

abbrev pub Equals : Magnitude → ℕ → ℕ → Type 0
Equals x a b = against x a b ≡ Ordering.eq

abbrev pub Above : Magnitude → ℕ → ℕ → Type 0
Above x a b = against x a b ≡ Ordering.gt

abbrev pub Below : Magnitude → ℕ → ℕ → Type 0
Below x a b = against x a b ≡ Ordering.lt

-- ---- two exact magnitudes, x ≤ y: by `against` where one is a ratio, and two roots by their squares
abbrev pub Leq : Magnitude → Magnitude → Type 0
Leq x (ratio m c) = AtMost x m c
Leq (ratio n d) (root_of m c) = AtLeast (root_of m c) n d
Leq (root_of n d) (root_of m c) = n * c ≤ m * d

-- ---- signed numbers: a sign, true for minus, and a magnitude; m is a number of units 2 ^ -24

-- ± m ≤ ± x. A minus is at most a plus; a plus is at most a minus only where both are zero.
abbrev pub NotAbove : Bool → ℕ → Bool → Magnitude → Type 0
NotAbove false m false x = AtLeast x m (2 ^ 24)
NotAbove true m true x = AtMost x m (2 ^ 24)
NotAbove true m false x = Unit
NotAbove false m true x = (m ≡ 0) × AtMost x 0 (2 ^ 24)

-- ± m ≥ ± x: the same with both signs turned
abbrev pub NotBelow : Bool → ℕ → Bool → Magnitude → Type 0
NotBelow s m t x = NotAbove (not s) m (not t) x

-- ---- halves, by the numbers that they stand for: h ≤ ± x, h ≥ ± x, h ≤ g. Comparisons go by the same order (half's Comparison.antt).

abbrev pub HalfNotAbove : ℕ → Bool → Magnitude → Type 0
HalfNotAbove h neg x = NotAbove (negative h) (units h) neg x

abbrev pub HalfNotBelow : ℕ → Bool → Magnitude → Type 0
HalfNotBelow h neg x = NotBelow (negative h) (units h) neg x

abbrev pub HalfLe : ℕ → ℕ → Type 0
HalfLe h g = value h ≤ℤ value g
