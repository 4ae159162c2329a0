-- Thirteen digits are enough: a magnitude that is a normal half or more rounds by them, the last of which says whether something is left
-- below. So the short way works with digits and an exponent apart.
use Prim.Native.Nat.{ℕ, suc, ◌+◌, ◌-◌, ◌*◌, ◌/◌, ◌%◌, ◌^◌, ◌≤◌, ◌<◌}
use mathlib.Core.Bool.{Bool, true, false, not, ◌&&◌, cond}
use mathlib.Core.Path.{◌≡◌, refl, sym, ap, ◌∙◌, subst}
use native.Mathlib.Omega.{arith}
use native.Mathlib.Nat.{mul_assoc, mul_comm, mul-pos, le_trans, le_of_eq, lt_of_lt_of_le, mul-le-mul_right, mul-lt-mul_of_pos_right}
use native.Mathlib.Nat.{le-div_iff_mul-le, div-lt_iff_lt-mul, mod-eq_of_lt, pow-succ', zero-mul, pos_of_ne-zero}
use lib.Bits.{bit_or, or_zero_r}
use lib.Dec.{leb, ltb, eqb}
use lib.Pow.{pow_pos, pow-add, pow_mono}
use lib.Count.{count_leading_zeros}
use lib.Ieee.{size}
use lib.Ieee.Digits.{size-lt, size_reaches}
use borrow.Author.Tests.{le-leb, lt-leb, le-ltb, leb-true, leb-false, eqb-true, eqb-false, not-true}
use Rattle.half.specs.Format.{with_sign}
use Rattle.half.specs.Exact.{Magnitude, ratio, denominator}
use Rattle.half.specs.Round.{OE, PE, flag, outcome, overflow_fields, rounded_half}
use Rattle.half.specs.Work.{place}
use Rattle.half.specs.declared.Mode.{Mode}
use Rattle.half.specs.declared.Outcome.{Outcome}
use Rattle.half.proofs.Compare.{and_false}
use Rattle.half.proofs.Places.{pow_join, size_is, size_large, zeros_size, place_scale, place-place, place_two, place_ge, place_lt}
use Rattle.half.proofs.Cases.{and_left, and_right}
use Rattle.half.proofs.Bridge.{steps, steps_ge, Placed, coarse, bridge}
use Rattle.half.proofs.Sticky.{of_place, sticky_shift, sticky_ratio, rounded_scale}

-- ---- z / 4 in steps of 2 ^ (k - 24), for a z of 13 digits: a normal half, or too large
unfoldable kept : Mode → Bool → ℕ → ℕ → Outcome
kept mode neg k z =
    cond (leb 31744 (k * 1024 + steps mode neg z)) (outcome (with_sign neg (overflow_fields mode neg)) (bit_or OE PE))
    (outcome (with_sign neg (k * 1024 + steps mode neg z)) (flag PE (not (eqb (z % 4) 0))))

-- the place T has the 13 digits z, and k + 1 more
module _ (T k z : ℕ) (e : z ≡ place T (2 ^ (k + 2))) (lo : 2 ^ 12 ≤ z) (hi : z < 2 ^ 13) where
  whole_z : T / 2 ^ (k + 2) ≡ z / 2
  unfolding place
  whole_z = omega arith

  T_ge : 2 ^ (k + 13) ≤ T
  T_ge =
      omega (
        arith,
        pow-add 2 k 2,
        pow-add 2 k 13,
        (le-div_iff_mul-le {k = 2 ^ (k + 2)} {x = 2 ^ 11} {y = T} (pow_pos (k + 2))).0
            (omega (arith, whole_z)),
      )

  T_lt : T < 2 ^ suc (k + 13)
  T_lt =
      omega (
        arith,
        pow-add 2 k 2,
        pow-add 2 k 13,
        pow-succ' 2 (k + 13),
        (div-lt_iff_lt-mul {k = 2 ^ (k + 2)} {x = T} {y = 2 ^ 12}
            (pow_pos (k + 2))).0 (omega (arith, whole_z)),
      )

  coarse-kept : (mode : Mode) (unmasked_ue neg : Bool) → coarse mode unmasked_ue neg T ≡ kept mode neg k z
  unfolding coarse kept
  coarse-kept mode unmasked_ue neg =
      let a : size T - 14 ≡ k = let l : size T ≡ suc (k + 13) = size_is T (k + 13) T_ge T_lt in omega arith in
      let b : ltb (steps mode neg T) 2048 ≡ false =
      le-ltb (steps mode neg T) 2048 (omega (arith, steps_ge mode neg T, T_ge, pow-add 2 k 13, pow_pos k)) in
      rw (a, ← e, b, and_false (ltb 0 T), or_zero_r)

-- ---- digits below the thirteenth may be joined to it: t is the place of T in units that are 2 ^ k times as large
module _ (t k T : ℕ) (hk : 1 ≤ k) (e : t ≡ place T (2 * 2 ^ k)) (lo : 2 ^ 12 ≤ t) where
  abbrev s : ℕ
  s = size t - 13

  abbrev z : ℕ
  z = place t (2 * 2 ^ s)

  size-t : size t ≡ s + 13
  size-t = let l : 12 < size t = size_large t 12 lo in omega arith

  z_ge : 2 ^ 12 ≤ z
  z_ge =
      place_ge t (2 * 2 ^ s) (2 ^ 11) (omega (arith, pow_pos s))
      (omega (arith, pow-add 2 s 12, size_reaches t (s + 12) (omega (arith, size-t))))

  z_lt : z < 2 ^ 13
  z_lt =
      place_lt t (2 * 2 ^ s) (2 ^ 12) (omega (arith, pow_pos s))
      (omega (arith, pow-add 2 s 13, subst (λ (n : ℕ). t < 2 ^ n) size-t (size-lt t)))

  -- the unit of z
  unit : 2 * 2 ^ s * 2 ^ k ≡ 2 ^ (s + k - 1 + 2)
  unit =
      sym (ap (λ (n : ℕ). 2 ^ n) (let f : s + k - 1 + 2 ≡ s + 1 + k = omega arith in f) ∙ pow-add 2 (s + 1) k ∙ ap (λ (n : ℕ). n * 2 ^ k)
      (let f : 2 ^ (s + 1) ≡ 2 * 2 ^ s = omega (arith, pow-add 2 s 1) in f))

  of_t : z ≡ place (t * 2 ^ k) (2 ^ (s + k - 1 + 2))
  of_t = sym (place_scale t (2 * 2 ^ s) (2 ^ k) (omega (arith, pow_pos s)) (pow_pos k)) ∙ ap (λ (d : ℕ). place (t * 2 ^ k) d) unit

  of_T : z ≡ place T (2 ^ (s + k - 1 + 2))
  of_T =
      ap (λ (n : ℕ). place n (2 * 2 ^ s)) e ∙ place-place T (2 * 2 ^ k) (2 ^ s) (omega (arith, pow_pos k)) (pow_pos s)
      ∙ ap (λ (d : ℕ). place T d) (sym (mul_assoc (2 ^ s) 2 (2 ^ k)) ∙ ap (λ (n : ℕ). n * 2 ^ k) (mul_comm (2 ^ s) 2) ∙ unit)

  wide : (mode : Mode) (unmasked_ue neg : Bool) → coarse mode unmasked_ue neg T ≡ coarse mode unmasked_ue neg (t * 2 ^ k)
  wide mode unmasked_ue neg =
      coarse-kept T (s + k - 1) z of_T z_ge z_lt mode unmasked_ue neg
      ∙ sym (coarse-kept (t * 2 ^ k) (s + k - 1) z of_t z_ge z_lt mode unmasked_ue neg)

  pub sticky_wide : (mode : Mode) (unmasked_ue neg : Bool) (x : Magnitude) → 0 < denominator x → Placed x T
      → rounded_half mode unmasked_ue neg x ≡ rounded_half mode unmasked_ue neg (ratio (t * 2 ^ k) (2 ^ 27))
  sticky_wide mode unmasked_ue neg x hd p =
      bridge x T hd p mode neg unmasked_ue ∙ wide mode unmasked_ue neg ∙ sym (of_place mode unmasked_ue neg (t * 2 ^ k))

-- ---- the shared law: of a ratio N / D, scaled by a power of two, 13 digits or more of its place t may stand for it
module _ (mode : Mode) (unmasked_ue neg : Bool) (N D t : ℕ) (hd : 0 < D) (ht : t ≡ place N D) where
  -- in units of 2 ^ -26 or more, a place of a place
  far : (e m j : ℕ) → m ≡ j + (e + 26) → place (N * 2 ^ e * 2 ^ 26) (D * 2 ^ m) ≡ place (t * 2 ^ e * 2 ^ 26) (2 * 2 ^ m)
  far e m j h =
      rw (pow_join N e 26 refl, pow_join t e 26 refl, sym (pow_join D j (e + 26) (sym h)), sym (pow_join 2 j (e + 26) (sym h)))
      (place_scale N (D * 2 ^ j) (2 ^ (e + 26)) (mul-pos hd (pow_pos j)) (pow_pos (e + 26))
      ∙ ap (λ (d : ℕ). place N d) (mul_comm D (2 ^ j))
      ∙ sym (place-place N D (2 ^ j) hd (pow_pos j))
      ∙ ap (λ (n : ℕ). place n (2 * 2 ^ j)) (sym ht)
      ∙ sym (place_scale t (2 * 2 ^ j) (2 ^ (e + 26)) (omega (arith, pow_pos j)) (pow_pos (e + 26))))

  -- in finer units t is the place of a place with k digits more
  of_finer : (k : ℕ) → t ≡ place (place (N * 2 ^ k) D) (2 * 2 ^ k)
  of_finer k =
      ht ∙ sym (place-place (N * 2 ^ k) D (2 ^ k) hd (pow_pos k) ∙ ap (λ (d : ℕ). place (N * 2 ^ k) d) (mul_comm (2 ^ k) D) ∙ place_scale N
      D (2 ^ k) hd (pow_pos k))

  pub digits : 2 ^ 12 ≤ t → (e m : ℕ)
      → rounded_half mode unmasked_ue neg (ratio (N * 2 ^ e) (D * 2 ^ m)) ≡ rounded_half mode unmasked_ue neg (ratio (t * 2 ^ e) (2 * 2 ^ m))
  digits lo e m = go (leb (e + 26) m) refl
    where
      go : (b : Bool) → leb (e + 26) m ≡ b
          → rounded_half mode unmasked_ue neg (ratio (N * 2 ^ e) (D * 2 ^ m))
          ≡ rounded_half mode unmasked_ue neg (ratio (t * 2 ^ e) (2 * 2 ^ m))
      go true f =
          let l : e + 26 ≤ m = leb-true _ _ f in
          sticky_ratio mode unmasked_ue neg (N * 2 ^ e) (D * 2 ^ m) (mul-pos hd (pow_pos m))
          ∙ ap (λ (n : ℕ). rounded_half mode unmasked_ue neg (ratio n (2 ^ 27))) (far e m (m - (e + 26)) (omega arith))
          ∙ sym (sticky_ratio mode unmasked_ue neg (t * 2 ^ e) (2 * 2 ^ m) (omega (arith, pow_pos m)))
      go false f =
          let l : m < e + 26 = leb-false _ _ f in
          let k : ℕ = e + 26 - m in
          let at : (n d : ℕ) → 0 < d → place (n * 2 ^ e * 2 ^ 26) (d * 2 ^ m) ≡ place (n * 2 ^ k) d = λ (n d : ℕ) (h : 0 < d).
          ap (λ (y : ℕ). place y (d * 2 ^ m)) (pow_join n e 26 refl ∙ sym (pow_join n k m (let g : k + m ≡ e + 26 = omega arith in g)))
          ∙ place_scale (n * 2 ^ k) d (2 ^ m) h (pow_pos m) in
          sticky_ratio mode unmasked_ue neg (N * 2 ^ e) (D * 2 ^ m) (mul-pos hd (pow_pos m))
          ∙ ap (λ (n : ℕ). rounded_half mode unmasked_ue neg (ratio n (2 ^ 27))) (at N D hd)
          ∙ of_place mode unmasked_ue neg (place (N * 2 ^ k) D)
          ∙ wide t k (place (N * 2 ^ k) D) (omega arith) (of_finer k) lo mode unmasked_ue neg
          ∙ sym (of_place mode unmasked_ue neg (t * 2 ^ k))
          ∙ ap (λ (n : ℕ). rounded_half mode unmasked_ue neg (ratio n (2 ^ 27))) (sym (at t 2 (omega arith) ∙ place_two (t * 2 ^ k)))
          ∙ sym (sticky_ratio mode unmasked_ue neg (t * 2 ^ e) (2 * 2 ^ m) (omega (arith, pow_pos m)))

-- ---- 13 digits packed, as the code works it out: q steps
module _ (mode : Mode) (neg : Bool) (z k : ℕ) (lo : 2 ^ 12 ≤ z) (hi : z < 2 ^ 13) {q : ℕ} (hq : q ≡ steps mode neg z) where
  rounds : (unmasked_ue : Bool) → rounded_half mode unmasked_ue neg (ratio (z * 2 ^ k) (2 ^ 26)) ≡ kept mode neg k z
  rounds unmasked_ue =
      let u : 2 ^ (k + 2) ≡ 2 * 2 ^ (k + 1) = omega (arith, pow-add 2 k 2, pow-add 2 k 1) in
      let p : place (z * 2 ^ (k + 1)) (2 ^ (k + 2)) ≡ z =
      ap (λ (d : ℕ). place (z * 2 ^ (k + 1)) d) u ∙ place_scale z 2 (2 ^ (k + 1)) (omega arith) (pow_pos (k + 1)) ∙ place_two z in
      sym (rounded_scale mode unmasked_ue neg (z * 2 ^ k) (2 ^ 26) 2 (omega arith) (omega arith))
      ∙ ap (λ (m : ℕ). rounded_half mode unmasked_ue neg (ratio m (2 ^ 27))) (pow_join z k 1 refl)
      ∙ of_place mode unmasked_ue neg (z * 2 ^ (k + 1))
      ∙ coarse-kept (z * 2 ^ (k + 1)) k z (sym p) lo hi mode unmasked_ue neg

  pub packed_over : 31744 ≤ k * 1024 + q → {o : Outcome} → o ≡ outcome (with_sign neg (overflow_fields mode neg)) (bit_or OE PE)
      → (unmasked_ue : Bool) → o ≡ rounded_half mode unmasked_ue neg (ratio (z * 2 ^ k) (2 ^ 26))
  unfolding kept
  packed_over g ho unmasked_ue = ho ∙ sym (rounds unmasked_ue ∙ rw (← hq, le-leb 31744 (k * 1024 + q) g))

  pub packed_fits : k * 1024 + q < 31744 → {h f : ℕ} → h ≡ with_sign neg (k * 1024 + q) → f ≡ flag PE (not (eqb (z % 4) 0))
      → (unmasked_ue : Bool) → outcome h f ≡ rounded_half mode unmasked_ue neg (ratio (z * 2 ^ k) (2 ^ 26))
  unfolding kept
  packed_fits g hh hf unmasked_ue = sym (rounds unmasked_ue ∙ rw (← hq, lt-leb 31744 (k * 1024 + q) g, ← hh, ← hf))

-- ---- m * 2 ^ e in units of 2 ^ -57
pub large_from : (i m e : ℕ) → 2 ^ i ≤ m → 43 ≤ i + e → 2 ^ 43 ≤ m * 2 ^ e
large_from i m e h g = le_trans (pow_mono {i = 43} {j = i + e} g) (le_trans (le_of_eq (pow-add 2 i e)) (mul-le-mul_right (2 ^ e) h))

-- v are the leading zeros of m
module _ (m e : ℕ) (fits : m < 2 ^ 64) {v : ℕ} (hv : v ≡ count_leading_zeros 64 m) where
  zeros : v + size m ≡ 64
  zeros = ap (λ (n : ℕ). n + size m) hv ∙ zeros_size m fits

  small_to : e + 20 < v → m * 2 ^ e < 2 ^ 43
  small_to h =
      lt_of_lt_of_le (mul-lt-mul_of_pos_right (size-lt m) (pow_pos e))
      (le_trans (le_of_eq (sym (pow-add 2 (size m) e))) (pow_mono {i = size m + e} {j = 43} (omega (arith, zeros))))

  pub large_test : (not (eqb m 0) && leb v (e + 20)) ≡ leb (2 ^ 43) (m * 2 ^ e)
  large_test = go (eqb m 0) (leb v (e + 20)) refl refl
    where
      go : (p q : Bool) → eqb m 0 ≡ p → leb v (e + 20) ≡ q → (not p && q) ≡ leb (2 ^ 43) (m * 2 ^ e)
      go true q f g = let z : m ≡ 0 = eqb-true m 0 f in sym (lt-leb (2 ^ 43) (m * 2 ^ e) (rw (z, zero-mul (2 ^ e)) (omega arith)))
      go false true f g =
          let n : 0 < m = let d : (m ≡ 0 → ⊥) = eqb-false m 0 f in omega arith in
          let l : v ≤ e + 20 = leb-true _ _ g in
          let s : 1 ≤ size m = size_large m 0 n in
          sym (le-leb (2 ^ 43) (m * 2 ^ e) (large_from (size m - 1) m e (size_reaches m (size m - 1) (omega arith)) (omega (arith, zeros))))
      go false false f g = sym (lt-leb (2 ^ 43) (m * 2 ^ e) (small_to (leb-false _ _ g)))

  module _ (large : 2 ^ 43 ≤ m * 2 ^ e) where
    held : (not (eqb m 0) && leb v (e + 20)) ≡ true
    held = large_test ∙ le-leb (2 ^ 43) (m * 2 ^ e) large

    size_pos : 1 ≤ size m
    size_pos = size_large m 0 (pos_of_ne-zero (eqb-false m 0 (not-true (eqb m 0) (and_left (not (eqb m 0)) (leb v (e + 20)) held))))

    pub zeros_le : v ≤ e + 20
    zeros_le = leb-true v (e + 20) (and_right (not (eqb m 0)) (leb v (e + 20)) held)

    tops : (2 ^ 63 ≤ m * 2 ^ v) × (m * 2 ^ v < 2 ^ 64)
    tops =
        let g : 2 ^ (size m - 1) ≤ m = size_reaches m (size m - 1) (omega (arith, size_pos)) in
        let a : 2 ^ 63 ≡ 2 ^ (size m - 1) * 2 ^ v =
        ap (λ (n : ℕ). 2 ^ n) (let f : 63 ≡ size m - 1 + v = omega (arith, zeros, size_pos) in f) ∙ pow-add 2 (size m - 1) v in
        let b : 2 ^ size m * 2 ^ v ≡ 2 ^ 64 =
        sym (pow-add 2 (size m) v) ∙ ap (λ (n : ℕ). 2 ^ n) (let f : size m + v ≡ 64 = omega (arith, zeros) in f) in
        (le_trans (le_of_eq a) (mul-le-mul_right (2 ^ v) g), lt_of_lt_of_le (mul-lt-mul_of_pos_right (size-lt m) (pow_pos v)) (le_of_eq b))

    module _ {z : ℕ} (hz : z ≡ place (m * 2 ^ v % 2 ^ 64) (2 ^ 52)) where
      z_is : z ≡ place (m * 2 ^ v) (2 ^ 52)
      z_is = hz ∙ ap (λ (n : ℕ). place n (2 ^ 52)) (mod-eq_of_lt tops.1)

      pub large_digits : (2 ^ 12 ≤ z) × (z < 2 ^ 13)
      large_digits = (
        rw z_is (place_ge (m * 2 ^ v) (2 ^ 52) (2 ^ 11) (omega arith) (omega (arith, tops.0))),
        rw z_is
            (place_lt (m * 2 ^ v) (2 ^ 52) (2 ^ 12) (omega arith) (omega (arith, tops.1))),
      )

      pub large_rounds : (mode : Mode) (neg : Bool) {o : Outcome}
          → ((unmasked_ue : Bool) → o ≡ rounded_half mode unmasked_ue neg (ratio (z * 2 ^ (e + 20 - v)) (2 ^ 26))) → (unmasked_ue : Bool)
          → o ≡ rounded_half mode unmasked_ue neg (ratio (m * 2 ^ e) (2 ^ 57))
      large_rounds mode neg ho unmasked_ue =
          let k : ℕ = e + 20 - v in
          let f : m * 2 ^ v * 2 ^ k ≡ m * 2 ^ e * 2 ^ 20 =
          pow_join m v k (let g : v + k ≡ e + 20 = omega (arith, zeros_le) in g) ∙ sym (pow_join m e 20 refl) in
          ho unmasked_ue ∙ sym (digits mode unmasked_ue neg (m * 2 ^ v) (2 ^ 52) z (omega arith) z_is large_digits.0 k 25)
          ∙ ap (λ (n : ℕ). rounded_half mode unmasked_ue neg (ratio n (2 ^ 77))) f
          ∙ rounded_scale mode unmasked_ue neg (m * 2 ^ e) (2 ^ 57) (2 ^ 20) (omega arith) (omega arith)

-- where the half may be subnormal, by its place
pub small_rounds : (mode : Mode) (unmasked_ue neg : Bool) (m e : ℕ) → e < 31 → {p : ℕ} {o : Outcome} → p ≡ place m (2 ^ (31 - e))
    → o ≡ rounded_half mode unmasked_ue neg (ratio p (2 ^ 27)) → o ≡ rounded_half mode unmasked_ue neg (ratio (m * 2 ^ e) (2 ^ 57))
small_rounds mode unmasked_ue neg m e l hp h =
    let d : 2 ^ (31 - e + 26) * 2 ^ e ≡ 2 ^ 57 =
    sym (pow-add 2 (31 - e + 26) e) ∙ ap (λ (n : ℕ). 2 ^ n) (let f : 31 - e + 26 + e ≡ 57 = omega arith in f) in
    h ∙ ap (λ (n : ℕ). rounded_half mode unmasked_ue neg (ratio n (2 ^ 27))) hp
    ∙ sym (sticky_shift mode unmasked_ue neg m (31 - e))
    ∙ sym (rounded_scale mode unmasked_ue neg m (2 ^ (31 - e + 26)) (2 ^ e) (pow_pos (31 - e + 26)) (pow_pos e))
    ∙ ap (λ (n : ℕ). rounded_half mode unmasked_ue neg (ratio (m * 2 ^ e) n)) d
