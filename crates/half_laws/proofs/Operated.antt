-- Each law of specs/Operations.antt and its proof, in the order of that file.
use Prim.Native.Nat.{ℕ, ◌*◌, ◌^◌, ◌<◌}
use mathlib.Core.Bool.{Bool, true, false, not, beq}
use mathlib.Core.List.{List, [], ◌∷◌}
use mathlib.Core.Path.{◌≡◌, refl, sym, ap, ◌∙◌}
use native.Mathlib.Omega.{arith}
use lib.IntN.{◌+ℤ◌}
use Rattle.half.specs.Format.{is_subnormal, negative, negated, units, signed}
use Rattle.half.specs.Exact.{ratio}
use Rattle.half.specs.Round.{rounded_half}
use Rattle.half.specs.Operations.{with_denormals, unlike, exact_sum}
use Rattle.half.specs.declared.Mode.{Mode}
use Rattle.half.specs.declared.Outcome.{Outcome}
use Rattle.half.proofs.Units.{finite_no_nan, units_pos}
use Rattle.half.proofs.Cases.{finite_add, finite_multiply, finite_divide, finite_root, finite_multiply_add, again}
use Rattle.half.proofs.Special.{subtract_adds}
use Rattle.half_laws.specs.Operations.{RoundsRatio, zero_sign}
use Rattle.half_laws.specs.Operations.{AddLaw, SubtractLaw, MultiplyLaw, QuotientLaw, DivideLaw, RootLaw, MultiplyAddLaw}
use Rattle.half_laws.proofs.Signed.{sum_number, own_sign, scaled, product}
use Rattle.half_laws.proofs.Signed.{negative-negated, finite_negated, subnormal_negated, value-negated}

module _ (mode : Mode) (unmasked_ue : Bool) (operands : List ℕ) {o : Outcome} (d : ℕ) (hd : 0 < d) where
  sum_rounds : (s : Bool) (x : ℕ) (t : Bool) (y : ℕ) → o ≡ with_denormals operands (exact_sum mode unmasked_ue s x t y d)
      → RoundsRatio mode unmasked_ue operands (signed s x +ℤ signed t y) d (zero_sign mode s t) o
  sum_rounds s x t y h = record { above = hd; outcome = h ∙ ap (with_denormals operands) (sum_number mode unmasked_ue d hd s x t y) }

  rounds : (s : Bool) (n : ℕ) → o ≡ with_denormals operands (rounded_half mode unmasked_ue s (ratio n d))
      → RoundsRatio mode unmasked_ue operands (signed s n) d s o
  rounds s n h = record { above = hd; outcome = h ∙ ap (with_denormals operands) (sym (own_sign mode unmasked_ue d hd s n)) }

pub add : AddLaw
add mode unmasked_ue a b fa fb =
    sum_rounds mode unmasked_ue (a ∷ b ∷ []) (2 ^ 24) (omega arith) (negative a) (units a) (negative b) (units b)
    (finite_add mode unmasked_ue a b (rw (fa, fb)))

-- it is a + (-b)
pub subtract : SubtractLaw
subtract mode unmasked_ue a b fa fb small =
    let sum = add mode unmasked_ue a (negated b) fa (finite_negated b ∙ fb) in
    record {
      above = omega arith;
      outcome = sym (subtract_adds a b mode unmasked_ue (rw (finite_no_nan b fb)) refl)
          ∙ (rw (subnormal_negated b, value-negated b small, negative-negated b small) at sum.outcome);
    }

pub multiply : MultiplyLaw
multiply mode unmasked_ue a b fa fb =
    rw (product (negative a) (units a) (negative b) (units b))
    (rounds mode unmasked_ue (a ∷ b ∷ []) (2 ^ 48) (omega arith) (unlike a b) (units a * units b)
    (finite_multiply mode unmasked_ue a b (rw (fa, fb))))

pub quotient : QuotientLaw
quotient a b =
    product (unlike a b) (units a) (negative b) (units b) ∙ ap (λ (s : Bool). signed s (units a * units b)) (back (negative a) (negative b))
    ∙ sym (scaled (negative a) (units a) (units b))
  where
    back : (s t : Bool) → not (beq (not (beq s t)) t) ≡ s
    back true true = refl
    back true false = refl
    back false true = refl
    back false false = refl

pub divide : DivideLaw
divide mode unmasked_ue a b fa fb nz =
    rounds mode unmasked_ue (a ∷ b ∷ []) (units b) (units_pos b nz) (unlike a b) (units a)
    (finite_divide mode unmasked_ue a b (rw (fa, fb, nz)))

pub root : RootLaw
root mode unmasked_ue a fa plus nz =
    record {
      above = omega arith;
      outcome = rw (← again (is_subnormal a), ← again (is_subnormal a)) (finite_root a (rw (fa, plus, nz)) mode unmasked_ue);
    }

pub multiply_add : MultiplyAddLaw
multiply_add mode unmasked_ue a b c fa fb fc =
    rw (product (negative a) (units a) (negative b) (units b), scaled (negative c) (units c) (2 ^ 24))
    (sum_rounds mode unmasked_ue (a ∷ b ∷ c ∷ []) (2 ^ 48) (omega arith) (unlike a b) (units a * units b) (negative c) (units c * 2 ^ 24)
    (finite_multiply_add mode unmasked_ue a b c (rw (fa, fb, fc))))
