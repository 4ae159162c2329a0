-- What is delivered without overflow is a half. From 2 ^ -14 on the half grid has the units of the rounding with no exponent limit, so
-- overflow may be tested on either.
use Prim.Native.Nat.{ℕ, ◌+◌, ◌*◌, ◌/◌, ◌%◌, ◌^◌, ◌≤◌, ◌<◌}
use mathlib.Core.Bool.{Bool, true, false, ◌&&◌, ◌||◌, cond}
use mathlib.Core.Path.{◌≡◌, refl, sym, ap, ◌∙◌}
use native.Mathlib.Omega.{arith}
use native.Mathlib.Nat.{mul_assoc, lt_of_le_of_lt, div-lt_iff_lt-mul}
use lib.Bits.{bit_or}
use lib.Dec.{leb, ltb, eqb, is_le}
use lib.Pow.{pow_pos, pow-add}
use lib.Ieee.{size}
use borrow.Author.Tests.{lt-leb, leb-true, leb-false, ltb-true, ltb-false}
use Rattle.half.specs.Format.{with_sign, units}
use Rattle.half.specs.Exact.{Magnitude, denominator, whole, is_nearest, outward, round_to}
use Rattle.half.specs.Round.{OE, UE, PE, flag, outcome}
use Rattle.half.specs.Round.{significant, delivered, overflows, tiny, inexact, encode, overflow_fields, rounded_half}
use Rattle.half.specs.declared.Mode.{Mode}
use Rattle.half.specs.declared.Outcome.{Outcome}
use Rattle.half.proofs.Compare.{cmp_scale}
use Rattle.half.proofs.Cuts.{round_to_le, round_to_ge}
use Rattle.half.proofs.Bridge.{encode_is, significant_finer, significant_le, whole_finer, over_test}
use Rattle.half_laws.specs.Laws.{half_of, raises, StandsFor}
use Rattle.half_laws.proofs.Grid.{shift, kept_lt, kept_small}
use Rattle.half_laws.proofs.Fields.{units_fields, signed_lt, signed_negative, signed_finite, signed_units}

module _ (mode : Mode) (neg : Bool) (x : Magnitude) (hd : 0 < denominator x) where
  abbrev D : ℕ
  D = delivered mode neg x

  abbrev Q : ℕ
  Q = round_to mode neg x (2 ^ shift 24 x) (2 ^ 24)

  Q_le : Q ≤ 2048
  Q_le = omega (arith, round_to_le mode neg x (2 ^ shift 24 x) (2 ^ 24), kept_lt 24 x hd)

  Q_small : Q < 1024 → shift 24 x ≡ 0
  Q_small h = kept_small 24 x hd (lt_of_le_of_lt (round_to_ge mode neg x (2 ^ shift 24 x) (2 ^ 24)) h)

  encoded : encode D ≡ shift 24 x * 1024 + Q
  unfolding significant
  encoded = encode_is (shift 24 x) Q Q_le Q_small

  -- below 65,536 the fields are a finite half's
  pub fields_fit : D < 2 ^ 40 → encode D < 31744
  unfolding significant
  fields_fit h = rw encoded (go (ltb Q 1024) refl)
    where
      go : (b : Bool) → ltb Q 1024 ≡ b → shift 24 x * 1024 + Q < 31744
      go true e = let l : Q < 1024 = ltb-true _ _ e in let z : shift 24 x ≡ 0 = Q_small l in omega arith
      go false e =
          let l : 1024 ≤ Q = ltb-false _ _ e in
          let o : leb (2 ^ 80) (Q * 2 ^ (shift 24 x + 40)) ≡ leb 31744 (shift 24 x * 1024 + Q) = over_test (shift 24 x) Q l Q_le in
          let d : Q * 2 ^ shift 24 x * 2 ^ 40 ≡ Q * 2 ^ (shift 24 x + 40) =
          mul_assoc Q (2 ^ shift 24 x) (2 ^ 40) ∙ ap (λ (y : ℕ). Q * y) (sym (pow-add 2 (shift 24 x) 40)) in
          let n : leb (2 ^ 80) (Q * 2 ^ shift 24 x * 2 ^ 40) ≡ false =
          ap is_le (cmp_scale (2 ^ 40) (Q * 2 ^ shift 24 x) (2 ^ 40) (omega arith)) ∙ lt-leb (2 ^ 40) (Q * 2 ^ shift 24 x) h in
          leb-false 31744 (shift 24 x * 1024 + Q) (sym o ∙ ap (λ (y : ℕ). leb (2 ^ 80) y) (sym d) ∙ n)

  -- and stand for the number delivered
  pub delivered_is : D < 2 ^ 40 → units (encode D) ≡ D
  unfolding significant
  delivered_is h =
      let f : encode D < 31744 = fields_fit h in
      let e : encode D ≡ shift 24 x * 1024 + Q = encoded in
      rw e (units_fields (shift 24 x) Q Q_le Q_small (omega arith))

  -- ---- overflow: from 2 ^ -14 on the two roundings agree, below it neither reaches 65,536

  over_at : (j : ℕ) → leb (65536 * 2 ^ (24 + j)) (significant (24 + j) mode neg x) ≡ leb (2 ^ 40) D
  over_at j = go (leb (2 ^ 10) (whole x 1 (2 ^ 24))) refl
    where
      p : 65536 * 2 ^ (24 + j) ≡ 2 ^ 40 * 2 ^ j
      p = omega (arith, pow-add 2 24 j)

      go : (b : Bool) → leb (2 ^ 10) (whole x 1 (2 ^ 24)) ≡ b
          → leb (65536 * 2 ^ (24 + j)) (significant (24 + j) mode neg x) ≡ leb (2 ^ 40) D
      go true e =
          ap (λ (y : ℕ). leb (65536 * 2 ^ (24 + j)) y) (significant_finer x hd mode neg 24 j (leb-true _ _ e))
          ∙ ap (λ (y : ℕ). leb y (D * 2 ^ j)) p ∙ ap is_le (cmp_scale (2 ^ 40) D (2 ^ j) (pow_pos j))
      go false e =
          let h : whole x 1 (2 ^ 24) < 2 ^ 10 = leb-false _ _ e in
          let a : D ≤ 2 ^ 10 = significant_le x hd mode neg 24 10 h in
          let w : whole x 1 (2 ^ (24 + j)) < 2 ^ 10 * 2 ^ j = (div-lt_iff_lt-mul (pow_pos j)).0 (rw (whole_finer x hd 24 j) at h) in
          let b : significant (24 + j) mode neg x ≤ 2 ^ (10 + j) = significant_le x hd mode neg (24 + j) (10 + j) (rw (pow-add 2 10 j) w) in
          lt-leb (65536 * 2 ^ (24 + j)) (significant (24 + j) mode neg x) (omega (arith, pow-add 2 24 j, pow-add 2 10 j, pow_pos j, b))
          ∙ sym (lt-leb (2 ^ 40) D (omega (arith, a)))

  pub overflows_is : overflows mode neg x ≡ leb (2 ^ 40) D
  overflows_is = over_at (size (denominator x))

  module _ (fits : overflows mode neg x ≡ false) where
    pub below_top : D < 2 ^ 40
    below_top = leb-false (2 ^ 40) D (sym overflows_is ∙ fits)

    pub rounded_is : (unmasked_ue : Bool) → rounded_half mode unmasked_ue neg x
        ≡ outcome (with_sign neg (encode D))
        (bit_or (flag PE (inexact mode neg x)) (flag UE (tiny mode neg x && (unmasked_ue || inexact mode neg x))))
    unfolding rounded_half
    rounded_is unmasked_ue = rw fits

    pub half_is : (unmasked_ue : Bool) → half_of mode unmasked_ue neg x ≡ with_sign neg (encode D)
    half_is unmasked_ue = ap (λ (o : Outcome). o.half) (rounded_is unmasked_ue)

    pub stands : (unmasked_ue : Bool) → StandsFor neg D (half_of mode unmasked_ue neg x)
    stands unmasked_ue = rw (half_is unmasked_ue) (
        let f : encode D < 31744 = fields_fit below_top in
        let g : encode D < 32768 = omega arith in
        record {
          small = signed_lt neg (encode D) g;
          finite = signed_finite neg (encode D) f;
          sign = signed_negative neg (encode D) g;
          number = signed_units neg (encode D) ∙ delivered_is below_top;
        }
        )

    -- PE, bit 5, says whether what is delivered differs from the exact value
    pub inexact_flag : (unmasked_ue : Bool) → raises PE mode unmasked_ue neg x ≡ inexact mode neg x
    inexact_flag unmasked_ue = rw (rounded_is unmasked_ue) (go (inexact mode neg x) (tiny mode neg x && (unmasked_ue || inexact mode neg x)))
      where
        go : (i u : Bool) → eqb (bit_or (flag PE i) (flag UE u) / PE % 2) 1 ≡ i
        go true true = refl
        go true false = refl
        go false true = refl
        go false false = refl

-- UE, bit 4, by the definition and by PE
pub underflow_flag : (mode : Mode) (unmasked_ue neg : Bool) (x : Magnitude) → overflows mode neg x ≡ false
    → raises UE mode unmasked_ue neg x ≡ (tiny mode neg x && (unmasked_ue || raises PE mode unmasked_ue neg x))
unfolding rounded_half
underflow_flag mode unmasked_ue neg x e = rw e (go (inexact mode neg x) (tiny mode neg x))
  where
    go : (i t : Bool)
        → eqb (bit_or (flag PE i) (flag UE (t && (unmasked_ue || i))) / UE % 2) 1
        ≡ (t && (unmasked_ue || eqb (bit_or (flag PE i) (flag UE (t && (unmasked_ue || i))) / PE % 2) 1))
    go i false = low i
      where
        low : (i : Bool) → eqb (bit_or (flag PE i) 0 / UE % 2) 1 ≡ false
        low true = refl
        low false = refl
    go i true = both unmasked_ue i
      where
        both : (u i : Bool) → eqb (bit_or (flag PE i) (flag UE (u || i)) / UE % 2) 1
            ≡ (u || eqb (bit_or (flag PE i) (flag UE (u || i)) / PE % 2) 1)
        both true true = refl
        both true false = refl
        both false true = refl
        both false false = refl

-- ---- with overflow

pub over_is : (mode : Mode) (unmasked_ue neg : Bool) (x : Magnitude) → overflows mode neg x ≡ true
    → rounded_half mode unmasked_ue neg x ≡ outcome (with_sign neg (overflow_fields mode neg)) (bit_or OE PE)
unfolding rounded_half
over_is mode unmasked_ue neg x e = rw e

pub over_half : (mode : Mode) (unmasked_ue neg : Bool) (x : Magnitude) → overflows mode neg x ≡ true
    → half_of mode unmasked_ue neg x ≡ with_sign neg (overflow_fields mode neg)
over_half mode unmasked_ue neg x e = ap (λ (o : Outcome). o.half) (over_is mode unmasked_ue neg x e)

-- the fields are those of the infinity or of the largest half
pub overflow_ge : (mode : Mode) (neg : Bool) → 31743 ≤ overflow_fields mode neg
overflow_ge mode neg = go (is_nearest mode || outward mode neg)
  where
    go : (b : Bool) → 31743 ≤ cond b 31744 31743
    go true = omega arith
    go false = omega arith

-- ---- the flags, with overflow or without

pub flags_are : (mode : Mode) (unmasked_ue neg : Bool) (x : Magnitude) → (rounded_half mode unmasked_ue neg x).flags
    ≡ cond (overflows mode neg x) (bit_or OE PE)
    (bit_or (flag PE (inexact mode neg x)) (flag UE (tiny mode neg x && (unmasked_ue || inexact mode neg x))))
unfolding rounded_half
flags_are mode unmasked_ue neg x = inside (overflows mode neg x) _ _
  where
    inside : (o : Bool) (p q : Outcome) → (cond o p q).flags ≡ cond o p.flags q.flags
    inside true p q = refl
    inside false p q = refl

-- OE, bit 3, says whether there was overflow
pub overflow_flag : (mode : Mode) (unmasked_ue neg : Bool) (x : Magnitude) → raises OE mode unmasked_ue neg x ≡ overflows mode neg x
overflow_flag mode unmasked_ue neg x =
    rw (flags_are mode unmasked_ue neg x)
    (go (overflows mode neg x) (inexact mode neg x) (tiny mode neg x && (unmasked_ue || inexact mode neg x)))
  where
    go : (o i u : Bool) → eqb (cond o (bit_or OE PE) (bit_or (flag PE i) (flag UE u)) / OE % 2) 1 ≡ o
    go true i u = refl
    go false true true = refl
    go false true false = refl
    go false false true = refl
    go false false false = refl
