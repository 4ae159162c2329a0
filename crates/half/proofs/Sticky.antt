-- Rounding turns on the place among the multiples of 2 ^ -26 alone: what lies below may be joined to one bit. What the operations' proofs
-- cite.
use Prim.Native.Nat.{ℕ, ◌+◌, ◌-◌, ◌*◌, ◌/◌, ◌^◌, ◌≤◌, ◌<◌}
use mathlib.Core.Bool.{Bool, true, false}
use mathlib.Core.Path.{◌≡◌, refl, sym, ap, ◌∙◌, subst}
use native.Mathlib.Omega.{arith}
use native.Mathlib.Nat.{add-mul, mul-pos, mul_comm, mul_right_comm, mul-sub, mul-le-mul_right, mul-lt-mul_of_pos_right, le-div_iff_mul-le}
use lib.Bits.{bit_or}
use lib.Dec.{ltb}
use lib.Pow.{pow_pos, pow-add}
use lib.Ieee.{size}
use borrow.Author.Tests.{lt-ltb, le-ltb, le-leb, ltb-true, ltb-false}
use Rattle.half.specs.Format.{with_sign}
use Rattle.half.specs.Exact.{Magnitude, ratio, denominator, against}
use Rattle.half.specs.Round.{OE, PE, outcome, overflow_fields, rounded_half}
use Rattle.half.specs.Operations.{exact_sum}
use Rattle.half.specs.Work.{place}
use Rattle.half.specs.declared.Mode.{Mode}
use Rattle.half.specs.declared.Outcome.{Outcome}
use Rattle.half.proofs.Places.{size_large, place_scale, place_two, place_ge, place_cut}
use Rattle.half.proofs.Bridge.{steps, Placed, coarse, bridge}

-- ---- places

pub ratio_placed : (n d : ℕ) → 0 < d → Placed (ratio n d) (place (n * 2 ^ 26) d)
unfolding against
ratio_placed n d hd c = place_cut (n * 2 ^ 26) d c hd

-- the place of n / 2 ^ (k + 26), also where k is 1 and n its own place
pub shift_placed : (n k : ℕ) → Placed (ratio n (2 ^ (k + 26))) (place n (2 ^ k))
shift_placed n k =
    subst (λ (t : ℕ). Placed (ratio n (2 ^ (k + 26))) t)
    (ap (λ (d : ℕ). place (n * 2 ^ 26) d) (pow-add 2 k 26) ∙ place_scale n (2 ^ k) (2 ^ 26) (pow_pos k) (omega arith))
    (ratio_placed n (2 ^ (k + 26)) (pow_pos (k + 26)))

pub own_place : (t : ℕ) → Placed (ratio t (2 ^ 27)) t
own_place t = subst (λ (s : ℕ). Placed (ratio t (2 ^ 27)) s) (place_two t) (shift_placed t 1)

module _ (mode : Mode) (unmasked_ue neg : Bool) where
  pub of_place : (t : ℕ) → rounded_half mode unmasked_ue neg (ratio t (2 ^ 27)) ≡ coarse mode unmasked_ue neg t
  of_place t = bridge (ratio t (2 ^ 27)) t (omega arith) (own_place t) mode neg unmasked_ue

  -- a magnitude with the place t rounds as t / 2 ^ 27
  pub sticky : (x : Magnitude) (t : ℕ) → 0 < denominator x → Placed x t
      → rounded_half mode unmasked_ue neg x ≡ rounded_half mode unmasked_ue neg (ratio t (2 ^ 27))
  sticky x t hd p = bridge x t hd p mode neg unmasked_ue ∙ sym (of_place t)

  pub sticky_ratio : (n d : ℕ) → 0 < d
      → rounded_half mode unmasked_ue neg (ratio n d) ≡ rounded_half mode unmasked_ue neg (ratio (place (n * 2 ^ 26) d) (2 ^ 27))
  sticky_ratio n d hd = sticky (ratio n d) (place (n * 2 ^ 26) d) hd (ratio_placed n d hd)

  pub sticky_shift : (n k : ℕ)
      → rounded_half mode unmasked_ue neg (ratio n (2 ^ (k + 26))) ≡ rounded_half mode unmasked_ue neg (ratio (place n (2 ^ k)) (2 ^ 27))
  sticky_shift n k = sticky (ratio n (2 ^ (k + 26))) (place n (2 ^ k)) (pow_pos (k + 26)) (shift_placed n k)

  pub placed_ratio : (n d : ℕ) → 0 < d → {t : ℕ} {o : Outcome} → t ≡ place (n * 2 ^ 26) d
      → o ≡ rounded_half mode unmasked_ue neg (ratio t (2 ^ 27)) → o ≡ rounded_half mode unmasked_ue neg (ratio n d)
  placed_ratio n d hd ht h = h ∙ rw ht (sym (sticky_ratio n d hd))

  -- a ratio written larger
  pub rounded_scale : (n d c : ℕ) → 0 < d → 0 < c
      → rounded_half mode unmasked_ue neg (ratio (n * c) (d * c)) ≡ rounded_half mode unmasked_ue neg (ratio n d)
  rounded_scale n d c hd hc =
      let e : place (n * c * 2 ^ 26) (d * c) ≡ place (n * 2 ^ 26) d =
      rw (mul_right_comm n c (2 ^ 26)) (place_scale (n * 2 ^ 26) d c hd hc) in
      sticky_ratio (n * c) (d * c) (mul-pos hd hc) ∙ ap (λ (t : ℕ). rounded_half mode unmasked_ue neg (ratio t (2 ^ 27))) e
      ∙ sym (sticky_ratio n d hd)

  -- a quotient of 2 ^ 20 or more overflows
  pub far_too_large : (x y : ℕ) → 0 < y → y ≤ x / 2 ^ 20
      → rounded_half mode unmasked_ue neg (ratio x y) ≡ outcome (with_sign neg (overflow_fields mode neg)) (bit_or OE PE)
  unfolding coarse
  far_too_large x y hy g =
      let l : y * 2 ^ 20 ≤ x = (le-div_iff_mul-le {k = 2 ^ 20} {x = y} {y = x} (omega arith)).0 g in
      let t : ℕ = place (x * 2 ^ 26) y in
      let a : 2 * 2 ^ 46 ≤ t = place_ge (x * 2 ^ 26) y (2 ^ 46) hy (omega arith) in
      let s : 46 < size t = size_large t 46 (omega arith) in
      bridge (ratio x y) t hy (ratio_placed x y hy) mode neg unmasked_ue
      ∙ rw (le-leb 31744 ((size t - 14) * 1024 + steps mode neg (place t (2 ^ (size t - 14 + 2)))) (omega arith))

-- ---- a sum in units that are c times as small
pub less_scale : (a b c : ℕ) → a * c - b * c ≡ (a - b) * c
less_scale a b c = sym (mul_comm (a - b) c ∙ mul-sub c a b ∙ rw (mul_comm c a, mul_comm c b))

pub ltb_scale : (x y c : ℕ) → 0 < c → ltb (x * c) (y * c) ≡ ltb x y
ltb_scale x y c h = go (ltb x y) refl
  where
    go : (b : Bool) → ltb x y ≡ b → ltb (x * c) (y * c) ≡ b
    go true e = lt-ltb (x * c) (y * c) (mul-lt-mul_of_pos_right (ltb-true _ _ e) h)
    go false e = le-ltb (x * c) (y * c) (mul-le-mul_right c (ltb-false _ _ e))

pub sum_scale : (mode : Mode) (unmasked_ue sx : Bool) (x : ℕ) (sy : Bool) (y d c : ℕ) → 0 < d → 0 < c
    → exact_sum mode unmasked_ue sx (x * c) sy (y * c) (d * c) ≡ exact_sum mode unmasked_ue sx x sy y d
unfolding exact_sum
sum_scale mode unmasked_ue sx x sy y d c hd hc =
    let p : rounded_half mode unmasked_ue sx (ratio (x * c + y * c) (d * c)) ≡ rounded_half mode unmasked_ue sx (ratio (x + y) d) =
    rw (← add-mul x y c) (rounded_scale mode unmasked_ue sx (x + y) d c hd hc) in
    let q : rounded_half mode unmasked_ue sx (ratio (x * c - y * c) (d * c)) ≡ rounded_half mode unmasked_ue sx (ratio (x - y) d) =
    rw (less_scale x y c) (rounded_scale mode unmasked_ue sx (x - y) d c hd hc) in
    let r : rounded_half mode unmasked_ue sy (ratio (y * c - x * c) (d * c)) ≡ rounded_half mode unmasked_ue sy (ratio (y - x) d) =
    rw (less_scale y x c) (rounded_scale mode unmasked_ue sy (y - x) d c hd hc) in
    rw (p, q, r, ltb_scale x y c hc, ltb_scale y x c hc)
