-- Signed exponents, and products with theirs.
use Prim.Native.Nat.{ℕ, zero, suc, ◌+◌, ◌-◌, ◌*◌, ◌%◌, ◌^◌, ◌≤◌, ◌<◌}
use mathlib.Core.Bool.{Bool, true, false, cond}
use mathlib.Core.Path.{◌≡◌, refl, sym, ap, ◌∙◌}
use native.Mathlib.Omega.{arith}
use native.Mathlib.Nat.{add-zero, sub-zero, sub_self, mul-mul-mul_comm, mul_assoc, mul-le-mul, lt_of_le_of_lt, lt_of_lt_of_le, mod-eq_of_lt}
use native.Mathlib.Nat.{mul_comm, eq_of_mul-eq-mul_right}
use lib.Dec.{ltb, lit<, T}
use lib.IntN.{ℤ, pos, negsuc, neg_ℤ, sub_ℕ, nat_abs, ◌+ℤ◌, ◌-ℤ◌, +ℤ_assoc, +ℤ_comm, neg_ℤ-+ℤ, +ℤ_idr}
use lib.Signed.{mag, le_z, non_neg}
use lib.Pow.{pow-add, pow_pos, pow_mono, shl_exact, shl_lt}
use borrow.Author.Tests.{leb-false, lt-ltb, le-ltb, ltb-true, ltb-false}
use mir.Syntax.{w32}
use mir.Val.{SFits, Fits, to_z, of_z}
use mir.Facts.{to_z-of_z}
use Rattle.half.specs.Work.{Shifted, place, scale, Scaled}
use Rattle.half.specs.declared.product.Shift.TheVariants.{Above, Below}
use Rattle.half.specs.Format.{significand, units}
use Rattle.half.proofs.Places.{pow_join, place_scale, place_two}
use Rattle.half.proofs.Units.{lift, lift_le, significand_lt}

diff_is : (a b : ℕ) → sub_ℕ a b ≡ pos a +ℤ neg_ℤ (pos b)
diff_is a zero = rw (le-ltb a 0 (omega arith)) (ap pos (sub-zero a ∙ sym (add-zero a)))
diff_is a (suc b) = refl

regroup : (x y z w : ℤ) → (x +ℤ y) +ℤ (z +ℤ w) ≡ (x +ℤ z) +ℤ (y +ℤ w)
regroup x y z w =
    +ℤ_assoc x y (z +ℤ w)
    ∙ ap (λ (e : ℤ). x +ℤ e) (sym (+ℤ_assoc y z w) ∙ ap (λ (e : ℤ). e +ℤ w) (+ℤ_comm y z) ∙ +ℤ_assoc z y w)
    ∙ sym (+ℤ_assoc x z (y +ℤ w))

pub sub_sum : (a b c d : ℕ) → sub_ℕ a b +ℤ sub_ℕ c d ≡ sub_ℕ (a + c) (b + d)
sub_sum a b c d =
    ap (λ (e : ℤ). e +ℤ sub_ℕ c d) (diff_is a b) ∙ ap (λ (e : ℤ). (pos a +ℤ neg_ℤ (pos b)) +ℤ e) (diff_is c d)
    ∙ regroup (pos a) (neg_ℤ (pos b)) (pos c) (neg_ℤ (pos d))
    ∙ ap (λ (e : ℤ). pos (a + c) +ℤ e) (sym (neg_ℤ-+ℤ (pos b) (pos d)))
    ∙ sym (diff_is (a + c) (b + d))

pub sub_of_ge : (a b : ℕ) → b ≤ a → sub_ℕ a b ≡ pos (a - b)
sub_of_ge a b h = rw (le-ltb a b h)

pub sub_of_lt : (a b : ℕ) → a < b → sub_ℕ a b ≡ negsuc (b - suc a)
sub_of_lt a b h = rw (lt-ltb a b h)

-- both numbers small: an i32 holds the difference
pub sub_fits : (a b : ℕ) → a < 2 ^ 31 → b < 2 ^ 31 → SFits w32 (sub_ℕ a b)
sub_fits a b ha hb = record { sfits = go (ltb a b) }
  where
    go : (t : Bool) → mag (cond t (negsuc (b - suc a)) (pos (a - b))) < 2 ^ 31
    go true = omega arith
    go false = omega arith

pub sub_whole : (a b : ℕ) → a < 2 ^ 31 → b < 2 ^ 31 → to_z w32 (of_z w32 (sub_ℕ a b)) ≡ sub_ℕ a b
sub_whole a b ha hb = to_z-of_z (sub_fits a b ha hb)

pub sub_nonneg : (a b : ℕ) → le_z (pos 0) (sub_ℕ a b) ≡ true → b ≤ a
sub_nonneg a b h = go (ltb a b) refl h
  where
    go : (t : Bool) → ltb a b ≡ t → le_z (pos 0) (cond t (negsuc (b - suc a)) (pos (a - b))) ≡ true → b ≤ a
    go true e f = absurd (let z : ◌≡◌ {A = ℕ} 0 1 = cc in omega arith)
    go false e f = ltb-false a b e

pub sub_negative : (a b : ℕ) → le_z (pos 0) (sub_ℕ a b) ≡ false → a < b
sub_negative a b h = go (ltb a b) refl h
  where
    go : (t : Bool) → ltb a b ≡ t → le_z (pos 0) (cond t (negsuc (b - suc a)) (pos (a - b))) ≡ false → a < b
    go true e f = ltb-true a b e
    go false e f = absurd (let l : a - b < 0 = leb-false 0 (a - b) f in omega arith)

sub_shift : (a b c : ℕ) → sub_ℕ (a + c) (b + c) ≡ sub_ℕ a b
sub_shift a b c =
    sym (sub_sum a b c c) ∙ ap (λ (e : ℤ). sub_ℕ a b +ℤ e) (sub_of_ge c c (omega arith) ∙ ap pos (sub_self c)) ∙ +ℤ_idr (sub_ℕ a b)

pub scale_fits : (h : ℕ) → SFits w32 (scale h)
scale_fits h = sub_fits (lift h) 24 (omega (arith, lift_le h)) (omega arith)

module _ (a b : ℕ) {x y : ℤ} (hx : x ≡ scale a) (hy : y ≡ scale b) where
  pub two : to_z w32 (of_z w32 x) +ℤ to_z w32 (of_z w32 y) ≡ sub_ℕ (lift a + lift b) 48
  two =
      ap (λ (e : ℤ). to_z w32 (of_z w32 e) +ℤ to_z w32 (of_z w32 y)) hx ∙ ap (λ (e : ℤ). to_z w32 (of_z w32 (scale a)) +ℤ to_z w32 (of_z w32 e)) hy
      ∙ ap (λ (e : ℤ). e +ℤ to_z w32 (of_z w32 (scale b))) (to_z-of_z (scale_fits a)) ∙ ap (λ (e : ℤ). scale a +ℤ e) (to_z-of_z (scale_fits b))
      ∙ sub_sum (lift a) 24 (lift b) 24

  pub two_fits : SFits w32 (to_z w32 (of_z w32 x) +ℤ to_z w32 (of_z w32 y))
  two_fits = rw two (sub_fits (lift a + lift b) 48 (omega (arith, lift_le a, lift_le b)) (omega arith))

  pub three : to_z w32 (of_z w32 (to_z w32 (of_z w32 x) +ℤ to_z w32 (of_z w32 y))) +ℤ pos 26 ≡ sub_ℕ (lift a + lift b) 22
  three =
      ap (λ (e : ℤ). e +ℤ pos 26) (to_z-of_z two_fits ∙ two)
      ∙ sub_sum (lift a + lift b) 48 26 0
      ∙ sub_shift (lift a + lift b) 22 26

pub distance_up : (n b : ℕ) → b ≤ n → nat_abs (sub_ℕ n b) ≡ n - b
distance_up n b h = ap nat_abs (sub_of_ge n b h)

pub distance_down : (n b : ℕ) → n < b → nat_abs (sub_ℕ n b) ≡ b - n
distance_down n b h = ap nat_abs (sub_of_lt n b h) ∙ omega arith

distance_mag : (n b : ℕ) → n < 900 → b < 900 → mag (sub_ℕ n b) < 1000
distance_mag n b ha hb = go (ltb n b)
  where
    go : (t : Bool) → mag (cond t (negsuc (b - suc n)) (pos (n - b))) < 1000
    go true = omega arith
    go false = omega arith

clash : true ≡ false → ⊥
clash w = let u : ◌≡◌ {A = ℕ} 0 1 = ap (λ (b : Bool). cond b 0 1) w in omega arith

-- ---- casts of an i32 to a u32
-- minus e, for an e below 0
abbrev Minus : ℤ → ℤ → Type 0
Minus e m = SFits w32 m × T (non_neg m) × Fits w32 (nat_abs m) × (nat_abs m ≡ nat_abs e)

minus : (e : ℤ) → mag e < 1000 → le_z (pos 0) e ≡ false → Minus e (pos 0 -ℤ e)
minus (pos n) h l = absurd (let g : n < 0 = leb-false 0 n l in omega arith)
minus (negsuc n) h l = (record { sfits = omega arith }, tt, record { fits = omega arith }, omega arith)

module _ (e : ℤ) (f : SFits w32 e) (h : mag e < 1000) (l : le_z (pos 0) (to_z w32 (of_z w32 e)) ≡ false) where
  whole : Minus e (pos 0 -ℤ to_z w32 (of_z w32 e))
  whole = rw (to_z-of_z f) (minus e h (rw (to_z-of_z f) at l))

  pub minus_fits : SFits w32 (pos 0 -ℤ to_z w32 (of_z w32 e))
  minus_fits = whole.0

  pub minus_is : nat_abs (to_z w32 (of_z w32 (pos 0 -ℤ to_z w32 (of_z w32 e)))) ≡ nat_abs e
  minus_is = rw (to_z-of_z minus_fits) whole.3

-- ---- products, as the code works them out: x and y are the significands, e the signed scale
module _ (a b : ℕ) {x y : ℕ} (hx : x ≡ significand a) (hy : y ≡ significand b) where
  pub product_lt : x * y < 2 ^ 22
  product_lt =
      lt_of_le_of_lt (mul-le-mul {n₁ = x} {m₁ = y} {n₂ = 2047} {m₂ = 2047} (omega (arith, significand_lt a))
      (omega (arith, significand_lt b))) (lit< tt)

  pub joined : units a * units b ≡ x * y * 2 ^ (lift a + lift b)
  unfolding units
  joined = rw (← hx, ← hy) (mul-mul-mul_comm x (2 ^ lift a) y (2 ^ lift b) ∙ ap (λ (e : ℕ). x * y * e) (sym (pow-add 2 (lift a) (lift b))))

  module _ {e : ℤ} (he : e ≡ sub_ℕ (lift a + lift b) 22) where
    e_same : to_z w32 (of_z w32 e) ≡ sub_ℕ (lift a + lift b) 22
    e_same = rw he (sub_whole (lift a + lift b) 22 (omega (arith, lift_le a, lift_le b)) (omega arith))

    pub raised : le_z (pos 0) (to_z w32 (of_z w32 e)) ≡ true
        → Scaled a b (record { significand = x * y; shift = Above (nat_abs (to_z w32 (of_z w32 e))) })
    raised l =
        let g : 22 ≤ lift a + lift b = sub_nonneg (lift a + lift b) 22 (rw e_same at l) in
        let k : nat_abs (to_z w32 (of_z w32 e)) ≡ lift a + lift b - 22 = rw e_same (distance_up (lift a + lift b) 22 g) in
        record {
          small = product_lt;
          shifted = (
            omega (arith, lift_le a, lift_le b),
            joined ∙ ap (λ (n : ℕ). x * y * 2 ^ n)
                (let f : lift a + lift b ≡ nat_abs (to_z w32 (of_z w32 e)) + 22 = omega arith in f),
          );
        }

    e_fits : SFits w32 e
    e_fits = rw he (sub_fits (lift a + lift b) 22 (omega (arith, lift_le a, lift_le b)) (omega arith))

    e_small : mag e < 1000
    e_small = rw he (distance_mag (lift a + lift b) 22 (omega (arith, lift_le a, lift_le b)) (omega arith))

    -- below, the distance is minus e
    module _ (l : le_z (pos 0) (to_z w32 (of_z w32 e)) ≡ false) where
      abbrev down : ℤ
      down = pos 0 -ℤ to_z w32 (of_z w32 e)

      pub lowered : Scaled a b (record { significand = x * y; shift = Below (nat_abs (to_z w32 (of_z w32 down))) })
      lowered =
          let k : ℕ = nat_abs (to_z w32 (of_z w32 down)) in
          let g : lift a + lift b < 22 = sub_negative (lift a + lift b) 22 (rw e_same at l) in
          let d : k ≡ 22 - (lift a + lift b) = minus_is e e_fits e_small l ∙ rw he (distance_down (lift a + lift b) 22 g) in
          record {
            small = product_lt;
            shifted = (
              omega arith,
              omega arith,
              ap (λ (n : ℕ). n * 2 ^ k) joined ∙ pow_join (x * y) (lift a + lift b) k (let f : lift a + lift b + k ≡ 22 = omega arith in f),
            );
          }

-- ---- what a scaled product is used for: n units for the magnitude m
module _ (m n : ℕ) (n_lt : n < 2 ^ 22) (k : ℕ) where
  module _ (s : Shifted m n (Above k)) where
    shl_up : 2 * n * 2 ^ k % 2 ^ 64 ≡ 2 * n * 2 ^ k
    shl_up = shl_exact {a = 2 * n} 23 k 64 (omega arith) (omega (arith, s.0))

    pub up_lt : 2 * n * 2 ^ k % 2 ^ 64 < 2 ^ 61
    up_lt = rw shl_up (lt_of_lt_of_le (shl_lt {a = 2 * n} 23 k (omega arith)) (pow_mono {i = 23 + k} {j = 61} (omega (arith, s.0))))

    pub up_units : 2 * n * 2 ^ k % 2 ^ 64 * 2 ^ 21 ≡ m
    up_units = rw (shl_up, s.1, pow-add 2 k 22) (omega arith)

    pub up_place : 2 * n * 2 ^ k % 2 ^ 64 ≡ place m (2 ^ 22)
    up_place =
        sym (ap (λ (v : ℕ). place v (2 ^ 22)) (sym up_units) ∙ place_scale (2 * n * 2 ^ k % 2 ^ 64) 2 (2 ^ 21)
        (omega arith) (omega arith) ∙ place_two (2 * n * 2 ^ k % 2 ^ 64))

  module _ (s : Shifted m n (Below k)) where
    pub down_place : place n (2 ^ k) ≡ place m (2 ^ 22)
    down_place =
        sym (place_scale n (2 ^ k) (2 ^ 22) (pow_pos k) (omega arith))
        ∙ rw (← s.2, mul_comm (2 ^ k) (2 ^ 22)) (place_scale m (2 ^ 22) (2 ^ k) (omega arith) (pow_pos k))

    shifted : n * 2 ^ (22 - k) ≡ m
    shifted =
        let w : 2 ^ 22 ≡ 2 ^ (22 - k) * 2 ^ k =
        ap (λ (v : ℕ). 2 ^ v) (let f : 22 ≡ 22 - k + k = omega (arith, s.1) in f) ∙ pow-add 2 (22 - k) k in
        eq_of_mul-eq-mul_right (2 ^ k) (pow_pos k) (n * 2 ^ (22 - k)) m
        (mul_assoc n (2 ^ (22 - k)) (2 ^ k) ∙ ap (λ (v : ℕ). n * v) (sym w) ∙ sym s.2)

    pub down_units : (n * 2 ^ (22 - k) % 2 ^ 64 ≡ m) × (m < 2 ^ 44)
    down_units =
        let w : n * 2 ^ (22 - k) < 2 ^ 44 =
        lt_of_lt_of_le (shl_lt {a = n} 22 (22 - k) n_lt) (pow_mono {i = 22 + (22 - k)} {j = 44} (omega (arith, s.0))) in
        (mod-eq_of_lt (omega arith) ∙ shifted, rw (← shifted) w)
