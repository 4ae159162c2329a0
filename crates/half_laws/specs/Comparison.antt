-- docs/RULES.md, R6.25, R6.26 and R6.28: infinities among the numbers, what minimum and maximum give, and how the predicates pair off.
-- proofs/Compared.antt has a proof of each law under the law's name.
use Rattle.std.specs.Prelude.{ℕ, true, false, not, [], ◌∷◌, ◌⊎◌, ◌≡◌}
use Rattle.std.specs.Int.Bits.{bit_xor}
use Rattle.lists.specs.Lists.{some}
use Rattle.half.specs.Format.{is_finite, is_nan, is_zero, infinity}
use Rattle.half.specs.Comparison.{less, greater, relation, half_minimum, half_maximum, predicate_of}
use Rattle.half.specs.declared.comparison.Predicate.{Predicate}
use Rattle.half_laws.specs.Values.{HalfLe}

-- ---- R6.25: an infinity is beyond every finite half
abbrev pub InfinityLaw : Type 0
InfinityLaw = (h : ℕ) → is_finite h ≡ true → (relation h (infinity false) ≡ less) × (relation h (infinity true) ≡ greater)

-- ---- R6.26: two halves of which neither is a NaN

-- m is one of the two, and at most either
pub record IsMinimum (a b m : ℕ) : Type 0 where
  pub one : (m ≡ a) ⊎ (m ≡ b)
  pub first : HalfLe m a
  pub second : HalfLe m b

-- m is one of the two, and at least either
pub record IsMaximum (a b m : ℕ) : Type 0 where
  pub one : (m ≡ a) ⊎ (m ≡ b)
  pub first : HalfLe a m
  pub second : HalfLe b m

abbrev pub MinimumLaw : Type 0
MinimumLaw = (a b : ℕ) → some is_nan (a ∷ b ∷ []) ≡ false → IsMinimum a b (half_minimum a b).half

abbrev pub MaximumLaw : Type 0
MaximumLaw = (a b : ℕ) → some is_nan (a ∷ b ∷ []) ≡ false → IsMaximum a b (half_maximum a b).half

-- ---- R6.26: with a NaN, or of two zeros, the second is handed back as it is
abbrev pub SecondLaw : Type 0
SecondLaw = (a b : ℕ) → (some is_nan (a ∷ b ∷ []) ≡ true) ⊎ ((is_zero a ≡ true) × (is_zero b ≡ true))
    → ((half_minimum a b).half ≡ b) × ((half_maximum a b).half ≡ b)

-- ---- R6.28: the table

-- every answer turned
abbrev pub opposite : Predicate → Predicate
opposite p =
    record {
      less = not p.less;
      equal = not p.equal;
      greater = not p.greater;
      unordered = not p.unordered;
      signals = p.signals;
    }

-- the same answers, and signalling turned
abbrev pub twin : Predicate → Predicate
twin p =
    record {
      less = p.less;
      equal = p.equal;
      greater = p.greater;
      unordered = p.unordered;
      signals = not p.signals;
    }

-- with bit 2 of its number turned a predicate is the opposite one, with bit 4 turned the twin
abbrev pub OppositeLaw : Type 0
OppositeLaw = (n : ℕ) → predicate_of (bit_xor n 4) ≡ opposite (predicate_of n)

abbrev pub TwinLaw : Type 0
TwinLaw = (n : ℕ) → predicate_of (bit_xor n 16) ≡ twin (predicate_of n)
