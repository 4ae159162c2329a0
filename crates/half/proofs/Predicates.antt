-- The table of predicates, packed into two numbers as the code has it; what one predicate picks; and minimum and maximum as what two of the
-- table pick.
use Prim.Native.Nat.{ℕ, ◌*◌, ◌/◌, ◌%◌, ◌^◌}
use mathlib.Core.Bool.{Bool, true, false, not, ◌&&◌, ◌||◌, cond, or-true, or-false}
use mathlib.Core.List.{[], ◌∷◌}
use mathlib.Core.Path.{◌≡◌, refl, sym, ap, ◌∙◌}
use native.Mathlib.Omega.{arith}
use lib.Bits.{bit_or}
use lib.Dec.{eqb}
use Rattle.lists.specs.Lists.{some, table}
use Rattle.lists.proofs.Tables.{get_or-table}
use Rattle.half.specs.Format.{is_nan, is_signalling, is_subnormal}
use Rattle.half.specs.Round.{IE, DE, flag}
use Rattle.half.specs.Comparison.{Relation, less, equal, greater, unordered, relation, comparison_flags, lesser, larger}
use Rattle.half.specs.Comparison.{half_minimum, half_maximum, holds, predicates, predicate_of, half_compare}
use Rattle.half.specs.declared.comparison.Predicate.{Predicate}
use Rattle.half.specs.Work.{picked}

-- ---- the table

abbrev bit : ℕ → Bool
bit x = eqb (x % 2) 1

-- predicate k, unpacked
abbrev packed : ℕ → Predicate
packed k =
    let answers : ℕ = 0xF465_0B9A_7CED_8312 / 2 ^ (k % 16 * 4) in
    record {
      less = bit answers;
      equal = bit (answers / 2 ^ 1);
      greater = bit (answers / 2 ^ 2);
      unordered = bit (answers / 2 ^ 3);
      signals = bit (0x9999_6666 / 2 ^ (k % 32));
    }

all_packed : predicates ≡ table 32 packed
unfolding predicates table
all_packed = refl

pub unpacked : (i : ℕ) → packed i ≡ predicate_of i
unfolding predicate_of
unpacked i =
    let low : i % 32 % 16 ≡ i % 16 = omega arith in
    let same : i % 32 % 32 ≡ i % 32 = omega arith in
    rw (all_packed, get_or-table 32 packed (i % 32) _ (omega arith), low, same)

-- ---- what the code's tests come to

-- by whether there is a NaN, a is less, and b is
pub holds_is : (p : Predicate) (n l g : Bool)
    → cond n p.unordered (cond l p.less (cond g p.greater p.equal))
    ≡ holds p (cond n unordered (cond l less (cond g greater equal)))
holds_is p true l g = refl
holds_is p false true g = refl
holds_is p false false true = refl
holds_is p false false false = refl

-- by whether there is a NaN, it is invalid, and there is a subnormal
one_flag : (n i d : Bool) → bit_or (flag IE (n && i)) (flag DE (not n && d)) ≡ cond n (flag IE i) (flag DE d)
one_flag true true d = refl
one_flag true false d = refl
one_flag false i true = refl
one_flag false i false = refl

pub flags_are : (a b : ℕ) (i : Bool) {n s t : Bool} {x y : ℕ} → n ≡ some is_nan (a ∷ b ∷ []) → s ≡ is_subnormal a → t ≡ is_subnormal b
    → x ≡ flag IE (n && i) → y ≡ flag DE (not n && (s || t)) → bit_or x y ≡ comparison_flags i a b
flags_are a b i {n} {s} {t} en es et ex ey =
    rw (ex, ey, ← en, ← es, ← et) (one_flag n i (s || t) ∙ ap (λ d. cond n (flag IE i) (flag DE (s || d))) (sym (or-false t)))

-- ---- minimum and maximum

picks_lesser : (r : Relation) (a b : ℕ) → cond (holds (predicate_of 1) r) a b ≡ lesser r a b
unfolding predicates predicate_of
picks_lesser less a b = refl
picks_lesser equal a b = refl
picks_lesser greater a b = refl
picks_lesser unordered a b = refl

picks_larger : (r : Relation) (a b : ℕ) → cond (holds (predicate_of 14) r) a b ≡ larger r a b
unfolding predicates predicate_of
picks_larger less a b = refl
picks_larger equal a b = refl
picks_larger greater a b = refl
picks_larger unordered a b = refl

both_signal : ((predicate_of 1).signals ≡ true) × ((predicate_of 14).signals ≡ true)
unfolding predicates predicate_of
both_signal = (refl, refl)

module _ (a b : ℕ) where
  pub minimum_is : picked (predicate_of 1) false a b ≡ half_minimum a b
  unfolding half_minimum
  minimum_is = rw (picks_lesser (relation a b) a b, both_signal.0, or-true (some is_signalling (a ∷ b ∷ [])))

  pub maximum_is : picked (predicate_of 14) false a b ≡ half_maximum a b
  unfolding half_maximum
  maximum_is = rw (picks_larger (relation a b) a b, both_signal.1, or-true (some is_signalling (a ∷ b ∷ [])))

  -- and comparison
  pub compare_is : (i : ℕ) → picked (predicate_of i) true a b ≡ half_compare i a b
  unfolding half_compare
  compare_is i = refl
