-- Quotients as the code works them out: in the smaller one of the operands' units, and with one division.
use Prim.Native.Nat.{ℕ, ◌+◌, ◌-◌, ◌*◌, ◌/◌, ◌%◌, ◌^◌, ◌≤◌, ◌<◌, min}
use mathlib.Core.Bool.{Bool, true, false}
use mathlib.Core.Path.{◌≡◌, refl, sym, ◌∙◌}
use native.Mathlib.Omega.{arith}
use native.Mathlib.Nat.{mul-pos}
use lib.Dec.{leb}
use lib.Pow.{pow_pos}
use borrow.Author.Tests.{leb-true, leb-false}
use Rattle.half.specs.Format.{exponent_field, is_zero, significand, units}
use Rattle.half.specs.Exact.{ratio}
use Rattle.half.specs.Round.{rounded_half}
use Rattle.half.specs.Operations.{unlike, half_divide}
use Rattle.half.specs.Work.{more, place, is_normal}
use Rattle.half.specs.declared.Mode.{Mode}
use Rattle.half.specs.declared.Outcome.{Outcome}
use Rattle.half.proofs.Units.{lift, lift_le, significand_lt, significand_pos, raised_exact}
use Rattle.half.proofs.Places.{pow_join, place_ge}
use Rattle.half.proofs.Sticky.{rounded_scale}
use Rattle.half.proofs.Digits.{digits}
use Rattle.half.proofs.Normals.{normal_ge, normal_lt, normal_divide}

-- ---- the place of n / y
module _ (n y : ℕ) where
  pub place_even : n % y ≡ 0 → n / y * 2 ≡ place n y
  unfolding place
  place_even e = rw e (omega arith)

  pub place_odd : (n % y ≡ 0 → ⊥) → n / y * 2 + 1 ≡ place n y
  unfolding place
  place_odd e = let m : more (n % y) ≡ 1 = omega arith in rw m (omega arith)

-- ---- the significand of a in the smaller one of two units
abbrev beside : ℕ → ℕ → ℕ
beside a b = significand a * 2 ^ (lift a - lift b)

-- as the code works it out
module _ (a b : ℕ) {s i j : ℕ} (hs : s ≡ significand a) (hi : i ≡ lift a) (hj : j ≡ lift b) where
  pub not_raised : i ≤ j → s ≡ beside a b
  not_raised l = let z : lift a - lift b ≡ 0 = omega arith in rw (z, ← hs) (omega arith)

  pub raised_by : s * 2 ^ (i - j) % 2 ^ 64 ≡ beside a b
  raised_by = rw (← hs, ← hi, ← hj) (raised_exact a s (i - j) hs (omega (arith, lift_le a)))

in-units : (a b c : ℕ) → c ≡ min (lift a) (lift b) → beside a b * 2 ^ c ≡ units a
unfolding units
in-units a b c e = pow_join (significand a) (lift a - lift b) c (let f : lift a - lift b + c ≡ lift a = omega arith in f)

module _ (a b : ℕ) {x y : ℕ} (hx : x ≡ beside a b) (hy : y ≡ beside b a) where
  pub divisor_pos : is_zero b ≡ false → 0 < y
  divisor_pos z = rw hy (mul-pos {m = significand b} {n = 2 ^ (lift b - lift a)} (significand_pos b z) (pow_pos (lift b - lift a)))

  pub one_small : min x y < 2 ^ 11
  one_small = go (leb (lift a) (lift b)) refl
    where
      go : (t : Bool) → leb (lift a) (lift b) ≡ t → min x y < 2 ^ 11
      go true e =
          let l : lift a ≤ lift b = leb-true _ _ e in let f : x ≡ significand a = hx ∙ sym (not_raised a b refl refl refl l) in omega
          (arith, significand_lt a)
      go false e =
          let l : lift b < lift a = leb-false _ _ e in let f : y ≡ significand b = hy ∙ sym (not_raised b a refl refl refl (omega arith))
          in omega (arith, significand_lt b)

  pub quotient_units : (mode : Mode) (unmasked_ue neg : Bool) → is_zero b ≡ false → {o : Outcome}
      → o ≡ rounded_half mode unmasked_ue neg (ratio x y) → o ≡ rounded_half mode unmasked_ue neg (ratio (units a) (units b))
  quotient_units mode unmasked_ue neg z h =
      let c : ℕ = min (lift a) (lift b) in
      h ∙ sym (rounded_scale mode unmasked_ue neg x y (2 ^ c) (divisor_pos z) (pow_pos c))
      ∙ rw (hx, hy, in-units a b c refl, in-units b a c (omega arith))

-- ---- normal operands: t has 22 or 23 digits
module _ (a b : ℕ) (na : is_normal a ≡ true) (nb : is_normal b ≡ true) {x y t : ℕ} (hx : (x ≡ significand a) × (1024 ≤ x) × (x < 2048))
    (hy : (y ≡ significand b) × (1024 ≤ y) × (y < 2048)) (ht : t ≡ place (x * 2 ^ 21) y) where
  y_pos : 0 < y
  y_pos = omega (arith, hy.1)

  pub quotient_ge : 2 ^ 21 ≤ t
  quotient_ge = rw ht (place_ge (x * 2 ^ 21) y (2 ^ 20) y_pos (omega (arith, hx.1, hy.2)))

  pub quotient_rounds : (mode : Mode) (unmasked_ue : Bool) {i j : ℕ} {neg : Bool} {o : Outcome} → i ≡ exponent_field a → j ≡ exponent_field b
      → neg ≡ unlike a b
      → o ≡ rounded_half mode unmasked_ue neg (ratio (t * 2 ^ (i + 35 - j)) (2 ^ 57)) → o ≡ half_divide mode unmasked_ue a b
  unfolding units
  quotient_rounds mode unmasked_ue {i} {j} {neg} hi hj hn h =
      let e : ℕ = i + 35 - j in
      let c : ℕ = 56 - lift b in
      let n : x * 2 ^ 21 * 2 ^ e ≡ x * 2 ^ lift a * 2 ^ c =
      pow_join x 21 e refl ∙ sym (pow_join x (lift a) c
      (let f : lift a + c ≡ 21 + e = omega (arith, normal_ge a na, normal_ge b nb, normal_lt b nb) in f)) in
      let d : y * 2 ^ 56 ≡ y * 2 ^ lift b * 2 ^ c =
      sym (pow_join y (lift b) c (let f : lift b + c ≡ 56 = omega (arith, normal_lt b nb) in f)) in
      let s : rounded_half mode unmasked_ue neg (ratio (x * 2 ^ 21 * 2 ^ e) (y * 2 ^ 56)) ≡ rounded_half mode unmasked_ue neg
      (ratio (x * 2 ^ lift a) (y * 2 ^ lift b)) =
      rw (n, d) (rounded_scale mode unmasked_ue neg (x * 2 ^ lift a) (y * 2 ^ lift b) (2 ^ c) (mul-pos y_pos (pow_pos (lift b)))
      (pow_pos c)) in
      h ∙ sym (digits mode unmasked_ue neg (x * 2 ^ 21) y t y_pos ht (omega (arith, quotient_ge)) e 56) ∙ s ∙ rw (hx.0, hy.0, hn)
      (sym (normal_divide mode unmasked_ue a b na nb))
