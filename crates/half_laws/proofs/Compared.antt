-- Each law of specs/Comparison.antt and its proof, in the order of that file.
use Prim.Native.Nat.{ℕ, ◌+◌, ◌-◌, ◌%◌, ◌^◌, ◌<◌}
use mathlib.Core.Bool.{Bool, true, false, cond, and-eq-true_iff, false≢true}
use mathlib.Core.List.{List, [], ◌∷◌}
use mathlib.Core.Logic.{inl, inr}
use mathlib.Core.Path.{◌≡◌, refl, sym, ap, ◌∙◌}
use native.Mathlib.Omega.{arith}
use native.Mathlib.Decide.{dec_lt}
use borrow.Author.Tests.{eqb-true, eq-eqb, lt-ltb, le-ltb, ltb-true, not-true}
use lib.Dec.{eqb}
use lib.Bits.{bit_xor, xor_mod}
use lib.IntN.{ℤ, pos, negsuc}
use lib.ListN.{get_or}
use lib.Signed.{lt_z, ◌≤ℤ◌, ≤ℤ_refl, lt_z_no}
use Rattle.lists.specs.Lists.{some, table}
use Rattle.lists.proofs.Tables.{get_or-table}
use Rattle.lists.proofs.Tests.{either}
use Rattle.half.specs.Format.{exponent_field, fraction_field, negative, is_nan, is_zero, units, value, infinity}
use Rattle.half.specs.Work.{rank_of}
use Rattle.half.proofs.Ranks.{ranked}
use Rattle.half.specs.Comparison.{less, equal, greater, unordered, relation, lesser, larger, half_minimum, half_maximum}
use Rattle.half.specs.Comparison.{predicates, predicate_of}
use Rattle.half.specs.declared.comparison.Predicate.{Predicate}
use Rattle.half_laws.specs.Comparison.{InfinityLaw, IsMinimum, IsMaximum, MinimumLaw, MaximumLaw, SecondLaw}
use Rattle.half_laws.specs.Comparison.{opposite, twin, OppositeLaw, TwinLaw}
use Rattle.half_laws.proofs.Signed.{zero_signed}

-- ---- infinities, by ranks: those of finite halves lie between

module _ (h : ℕ) (finite : eqb (exponent_field h) 31 ≡ false) where
  fields_below : h % 2 ^ 15 < 0x7C00
  fields_below =
      elim (dec_lt (h % 2 ^ 15) 0x7C00) [
        | yes l ↦ l
        | no l ↦ absurd (false≢true (sym finite ∙ eq-eqb (exponent_field h) 31 (omega arith)))
      ]

  rank_below : rank_of h < 2 ^ 15 + 0x7C00
  rank_below = either (λ n. n < 2 ^ 15 + 0x7C00) (negative h) (omega (arith, fields_below)) (omega (arith, fields_below))

  rank_above : 2 ^ 15 - 0x7C00 < rank_of h
  rank_above = either (λ n. 2 ^ 15 - 0x7C00 < n) (negative h) (omega (arith, fields_below)) (omega (arith, fields_below))

  between : (relation h (infinity false) ≡ less) × (relation h (infinity true) ≡ greater)
  unfolding relation
  between = (
    rw (finite, ← ranked h (infinity false), lt-ltb (rank_of h) (2 ^ 15 + 0x7C00) rank_below),
    rw (
      finite,
      ← ranked h (infinity true),
      ← ranked (infinity true) h,
      le-ltb (rank_of h) (2 ^ 15 - 0x7C00) (omega (arith, rank_above)),
      lt-ltb (2 ^ 15 - 0x7C00) (rank_of h) rank_above,
    ),
  )

pub infinities : InfinityLaw
infinities h f = between h (not-true _ f)

-- ---- at most one of two numbers is less than the other

asymmetric : (x y : ℤ) → lt_z x y ≡ true → lt_z y x ≡ false
asymmetric (pos m) (pos n) e = le-ltb n m (omega (arith, ltb-true m n e))
asymmetric (pos m) (negsuc n) e = absurd (false≢true e)
asymmetric (negsuc m) (pos n) e = refl
asymmetric (negsuc m) (negsuc n) e = le-ltb m n (omega (arith, ltb-true n m e))

-- ---- minimum and maximum, by the two tests of their numbers

not_above : (x y : ℤ) → lt_z x y ≡ false → y ≤ℤ x
not_above x y e = lt_z_no (rw e tt)

at_most : (x y : ℤ) → lt_z x y ≡ true → x ≤ℤ y
at_most x y e = not_above y x (asymmetric x y e)

module _ (a b : ℕ) where
  abbrev below : Bool
  below = lt_z (value a) (value b)

  abbrev above : Bool
  above = lt_z (value b) (value a)

  -- by whether a is less, and whether b is
  least : (l g : Bool) → below ≡ l → above ≡ g → IsMinimum a b (lesser (cond l less (cond g greater equal)) a b)
  least true g e f = record { one = inl refl; first = ≤ℤ_refl (value a); second = at_most (value a) (value b) e }
  least false true e f = record { one = inr refl; first = at_most (value b) (value a) f; second = ≤ℤ_refl (value b) }
  least false false e f = record { one = inr refl; first = not_above (value a) (value b) e; second = ≤ℤ_refl (value b) }

  greatest : (l g : Bool) → below ≡ l → above ≡ g → IsMaximum a b (larger (cond l less (cond g greater equal)) a b)
  greatest true g e f = record { one = inr refl; first = at_most (value a) (value b) e; second = ≤ℤ_refl (value b) }
  greatest false true e f = record { one = inl refl; first = ≤ℤ_refl (value a); second = at_most (value b) (value a) f }
  greatest false false e f = record { one = inr refl; first = not_above (value b) (value a) f; second = ≤ℤ_refl (value b) }

pub minimum : MinimumLaw
unfolding half_minimum relation
minimum a b n = rw n (least a b (below a b) (above a b) refl refl)

pub maximum : MaximumLaw
unfolding half_maximum relation
maximum a b n = rw n (greatest a b (below a b) (above a b) refl refl)

-- ---- the second handed back

zero_value : (h : ℕ) → is_zero h ≡ true → value h ≡ pos 0
unfolding units
zero_value h z =
    let t = (and-eq-true_iff _ _).0 z in
    rw (eqb-true (exponent_field h) 0 t.0, eqb-true (fraction_field h) 0 t.1) (zero_signed (negative h))

pub second : SecondLaw
unfolding half_minimum half_maximum relation
second a b (inl n) = rw n (refl, refl)
second a b (inr z) = rw (zero_value a z.0, zero_value b z.1) (go (some is_nan (a ∷ b ∷ [])))
  where
    go : (n : Bool) → (lesser (cond n unordered equal) a b ≡ b) × (larger (cond n unordered equal) a b ≡ b)
    go true = (refl, refl)
    go false = (refl, refl)

-- ---- the table: what holds of all 32 numbers holds of the lowest five bits of any

by_low : (i j : ℕ) → i % 32 ≡ j % 32 → predicate_of i ≡ predicate_of j
unfolding predicate_of
by_low i j e = rw e

turned_is : (turned : Predicate → Predicate) (m : ℕ) → table 32 (λ k. predicate_of (bit_xor k m)) ≡ table 32 (λ k. turned (predicate_of k))
    → (n : ℕ) → predicate_of (bit_xor n m) ≡ turned (predicate_of n)
turned_is turned m e n =
    let k : ℕ = n % 32 in
    let h : k < 32 = omega arith in
    let low : k % 32 ≡ n % 32 = omega arith in
    let same : bit_xor n m % 32 ≡ bit_xor k m % 32 = xor_mod n m 5 ∙ rw (xor_mod k m 5, low) in
    by_low (bit_xor n m) (bit_xor k m) same
    ∙ sym (get_or-table 32 (λ k. predicate_of (bit_xor k m)) k (predicate_of 0) h)
    ∙ ap (λ (ps : List Predicate). get_or ps k (predicate_of 0)) e
    ∙ get_or-table 32 (λ k. turned (predicate_of k)) k (predicate_of 0) h
    ∙ ap turned (by_low k n low)

pub opposites : OppositeLaw
unfolding predicates predicate_of table
opposites = turned_is opposite 4 refl

pub twins : TwinLaw
unfolding predicates predicate_of table
twins = turned_is twin 16 refl
