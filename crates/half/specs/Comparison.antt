-- docs/RULES.md, R6.25 to R6.28: how two halves compare, and what is made of it: minimum, maximum, the 32 predicates.
use Rattle.std.specs.Prelude.{ℕ, ◌%◌, Bool, true, false, ◌||◌, cond, List, [], ◌∷◌, get_or}
use Rattle.std.specs.Int.Signed.{lt_z}
use Rattle.lists.specs.Lists.{some}
use Rattle.half.specs.Format.{is_nan, is_signalling, is_subnormal, value}
use Rattle.half.specs.Round.{IE, DE, flag, outcome}
use Rattle.half.specs.declared.Outcome.{Outcome}
use Rattle.half.specs.declared.comparison.Predicate.{Predicate}

-- ---- R6.25: how a compares with b

pub data Relation : Type 0 where
  less equal greater unordered : Relation

-- As numbers, of which a NaN is none. An infinity counts as 2 ^ 40 units, 65,536, and every finite half has fewer. `lt_z` is < of signed
-- numbers.
unfoldable pub relation : ℕ → ℕ → Relation
relation a b =
    cond (some is_nan (a ∷ b ∷ [])) unordered
    (cond (lt_z (value a) (value b)) less
    (cond (lt_z (value b) (value a)) greater
    equal))

-- ---- R6.26: which of the two is handed back, by how a compares with b

-- a where it is less, and else b as it is
abbrev pub lesser : Relation → ℕ → ℕ → ℕ
lesser less a b = a
lesser equal a b = b
lesser greater a b = b
lesser unordered a b = b

-- a where it is greater, and else b as it is
abbrev pub larger : Relation → ℕ → ℕ → ℕ
larger less a b = b
larger equal a b = b
larger greater a b = a
larger unordered a b = b

-- ---- R6.27: the flags: IE or none where there is a NaN, by whether it is invalid, and else DE for a subnormal
abbrev pub comparison_flags : Bool → ℕ → ℕ → ℕ
comparison_flags invalid a b = cond (some is_nan (a ∷ b ∷ [])) (flag IE invalid) (flag DE (some is_subnormal (a ∷ b ∷ [])))

-- R6.26, R6.27: minimum and maximum, of which any NaN is invalid
unfoldable pub half_minimum : ℕ → ℕ → Outcome
half_minimum a b = outcome (lesser (relation a b) a b) (comparison_flags true a b)

unfoldable pub half_maximum : ℕ → ℕ → Outcome
half_maximum a b = outcome (larger (relation a b) a b) (comparison_flags true a b)

-- ---- R6.28: the predicates

-- what one answers
abbrev pub holds : Predicate → Relation → Bool
holds p less = p.less
holds p equal = p.equal
holds p greater = p.greater
holds p unordered = p.unordered

-- the words of the table: its columns in the order above, S for one that signals and Q for one that does not
abbrev predicate : Bool → Bool → Bool → Bool → Bool → Predicate
predicate l e g u s = record { less = l; equal = e; greater = g; unordered = u; signals = s }

abbrev yes : Bool
yes = true

abbrev no : Bool
no = false

abbrev S : Bool
S = true

abbrev Q : Bool
Q = false

-- by their numbers, from 0 on, with Intel's names
unfoldable pub predicates : List Predicate
predicates =
    predicate no yes no no Q  -- 0, EQ_OQ
    ∷ predicate yes no no no S  -- 1, LT_OS
    ∷ predicate yes yes no no S  -- 2, LE_OS
    ∷ predicate no no no yes Q  -- 3, UNORD_Q
    ∷ predicate yes no yes yes Q  -- 4, NEQ_UQ
    ∷ predicate no yes yes yes S  -- 5, NLT_US
    ∷ predicate no no yes yes S  -- 6, NLE_US
    ∷ predicate yes yes yes no Q  -- 7, ORD_Q
    ∷ predicate no yes no yes Q  -- 8, EQ_UQ
    ∷ predicate yes no no yes S  -- 9, NGE_US
    ∷ predicate yes yes no yes S  -- 10, NGT_US
    ∷ predicate no no no no Q  -- 11, FALSE_OQ
    ∷ predicate yes no yes no Q  -- 12, NEQ_OQ
    ∷ predicate no yes yes no S  -- 13, GE_OS
    ∷ predicate no no yes no S  -- 14, GT_OS
    ∷ predicate yes yes yes yes Q  -- 15, TRUE_UQ
    ∷ predicate no yes no no S  -- 16, EQ_OS
    ∷ predicate yes no no no Q  -- 17, LT_OQ
    ∷ predicate yes yes no no Q  -- 18, LE_OQ
    ∷ predicate no no no yes S  -- 19, UNORD_S
    ∷ predicate yes no yes yes S  -- 20, NEQ_US
    ∷ predicate no yes yes yes Q  -- 21, NLT_UQ
    ∷ predicate no no yes yes Q  -- 22, NLE_UQ
    ∷ predicate yes yes yes no S  -- 23, ORD_S
    ∷ predicate no yes no yes S  -- 24, EQ_US
    ∷ predicate yes no no yes Q  -- 25, NGE_UQ
    ∷ predicate yes yes no yes Q  -- 26, NGT_UQ
    ∷ predicate no no no no S  -- 27, FALSE_OS
    ∷ predicate yes no yes no S  -- 28, NEQ_OS
    ∷ predicate no yes yes no Q  -- 29, GE_OQ
    ∷ predicate no no yes no Q  -- 30, GT_OQ
    ∷ predicate yes yes yes yes S  -- 31, TRUE_US
    ∷ []

-- R3.15: the one whose number the lowest five bits of an immediate hold; the list has them all
unfoldable pub predicate_of : ℕ → Predicate
predicate_of immediate = get_or predicates (immediate % 32) (predicate no no no no Q)

-- R6.27, R6.28: 1 where the predicate answers yes, and else 0. A signalling NaN is invalid, and a quiet one where the predicate signals.
unfoldable pub half_compare : ℕ → ℕ → ℕ → Outcome
half_compare immediate a b =
    let p : Predicate = predicate_of immediate in
    outcome (cond (holds p (relation a b)) 1 0) (comparison_flags (some is_signalling (a ∷ b ∷ []) || p.signals) a b)
