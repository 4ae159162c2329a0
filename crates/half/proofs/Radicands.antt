-- Roots as the code works them out: from the place of the root of a radicand N that has 23 or 24 digits, which has 13.
use Prim.Native.Nat.{ℕ, ◌+◌, ◌-◌, ◌*◌, ◌/◌, ◌%◌, ◌^◌, ◌≤◌, ◌<◌, compare}
use mathlib.Core.Bool.{Bool, true, false}
use mathlib.Core.Path.{◌≡◌, refl, sym, ap, ◌∙◌}
use native.Mathlib.Omega.{arith}
use native.Mathlib.Nat.{mul_assoc, mul-le-mul, mod-eq_of_lt}
use lib.Pow.{pow_pos, pow-add, pow_mono}
use lib.Ieee.{size}
use lib.Ieee.Digits.{size-le}
use Rattle.half.specs.Format.{exponent_field, significand, is_finite, is_zero, units}
use Rattle.half.specs.Exact.{ratio, root_of, against}
use Rattle.half.specs.Round.{rounded_half}
use Rattle.half.specs.Work.{place, root_place, is_normal}
use Rattle.half.specs.declared.Mode.{Mode}
use Rattle.half.specs.declared.Outcome.{Outcome}
use Rattle.half.proofs.Compare.{cmp_scale}
use Rattle.half.proofs.Places.{pow_join}
use Rattle.half.proofs.Roots.{root_cut, root_place_cut, root_large, root_place_lt, N_lt, N_ge, N_square}
use Rattle.half.proofs.Units.{lift, finite_lt, units_pos}
use Rattle.half.proofs.Bridge.{Placed}
use Rattle.half.proofs.Sticky.{rounded_scale}
use Rattle.half.proofs.Digits.{sticky_wide}
use Rattle.half.proofs.Normals.{normal_ge, normal_finite}

root_placed : (n : ℕ) → n < 2 ^ 40 → Placed (root_of n (2 ^ 24)) (root_place 34 (n * 2 ^ 28))
unfolding against
root_placed n h c =
    let e : n * (2 ^ 26 * 2 ^ 26) ≡ n * 2 ^ 28 * 2 ^ 24 = sym (mul_assoc n (2 ^ 28) (2 ^ 24)) in
    ap (λ (y : ℕ). compare y (c * c * 2 ^ 24)) e ∙ cmp_scale (n * 2 ^ 28) (c * c) (2 ^ 24) (omega arith) ∙ root_cut 34 (n * 2 ^ 28) c
    (omega arith)

-- n / 2 ^ 24 is N * 2 ^ (2 k - 50), and z the place of N's root
pub record Radicand (n N k z : ℕ) : Type 0 where
  pub n_lt : n < 2 ^ 40
  pub square : n * 2 ^ 28 ≡ N * (2 ^ (k + 1) * 2 ^ (k + 1))
  pub N_from : 2 ^ 22 ≤ N
  pub N_to : N < 2 ^ 24
  pub z_is : z ≡ root_place 12 N

module _ {n N k z : ℕ} (r : Radicand n N k z) where
  pub root_digits : (2 ^ 12 ≤ z) × (z < 2 ^ 13)
  root_digits = (rw r.z_is (root_large 12 N r.N_from (omega (arith, r.N_to))), root_place_lt 12 N r.N_to r.z_is)

  sticky_root : (mode : Mode) (unmasked_ue neg : Bool)
      → rounded_half mode unmasked_ue neg (root_of n (2 ^ 24)) ≡ rounded_half mode unmasked_ue neg (ratio (z * 2 ^ (k + 1)) (2 ^ 27))
  sticky_root mode unmasked_ue neg =
      let c : root_place 12 N ≡ place (root_place 34 (n * 2 ^ 28)) (2 * 2 ^ (k + 1)) =
      sym (rw r.square (root_place_cut 34 12 N (2 ^ (k + 1)) (pow_pos (k + 1)) (rw (← r.square) (omega (arith, r.n_lt)))
      (omega (arith, r.N_to)))) in
      sticky_wide z (k + 1) (root_place 34 (n * 2 ^ 28)) (omega arith) (r.z_is ∙ c) root_digits.0 mode unmasked_ue neg
      (root_of n (2 ^ 24)) (omega arith) (root_placed n r.n_lt)

  pub root_rounds : (mode : Mode) (neg : Bool) {o : Outcome}
      → ((unmasked_ue : Bool) → o ≡ rounded_half mode unmasked_ue neg (ratio (z * 2 ^ k) (2 ^ 26))) → (unmasked_ue : Bool)
      → o ≡ rounded_half mode unmasked_ue neg (root_of n (2 ^ 24))
  root_rounds mode neg h unmasked_ue =
      h unmasked_ue ∙ sym (rounded_scale mode unmasked_ue neg (z * 2 ^ k) (2 ^ 26) 2 (omega arith) (omega arith))
      ∙ ap (λ (m : ℕ). rounded_half mode unmasked_ue neg (ratio m (2 ^ 27))) (pow_join z k 1 refl)
      ∙ sym (sticky_root mode unmasked_ue neg)

-- ---- the radicand of any finite half above 0, by half the exponent of its highest digit
module _ (a x j : ℕ) (hx : x ≡ units a) (hf : is_finite a ≡ true) (hz : is_zero a ≡ false) (hj : j ≡ (size x - 1) / 2) where
  above_zero : 0 < x
  above_zero = rw hx (units_pos a hz)

  x_lt : x < 2 ^ 40
  x_lt = rw hx (finite_lt a hf)

  pub exponent_le : j ≤ 19
  exponent_le = let s : size x ≤ 40 = size-le x 40 x_lt in omega arith

  shl_x : x * 2 ^ 22 % 2 ^ 64 / 2 ^ (2 * j) ≡ x * 2 ^ 22 / 2 ^ (2 * j)
  shl_x = ap (λ (n : ℕ). n / 2 ^ (2 * j)) (mod-eq_of_lt (omega (arith, x_lt)))

  pub radicand_lt : x * 2 ^ 22 % 2 ^ 64 / 2 ^ (2 * j) < 2 ^ 24
  radicand_lt = rw shl_x (N_lt a x j hx above_zero hj)

  pub finite_radicand : {z : ℕ} → z ≡ root_place 12 (x * 2 ^ 22 % 2 ^ 64 / 2 ^ (2 * j))
      → Radicand (units a) (x * 2 ^ 22 / 2 ^ (2 * j)) (j + 2) z
  finite_radicand h =
      record {
        n_lt = finite_lt a hf;
        square = rw (← hx, let f : j + 2 + 1 ≡ j + 3 = omega arith in f) (N_square a x j hx above_zero hj);
        N_from = N_ge a x j hx above_zero hj;
        N_to = N_lt a x j hx above_zero hj;
        z_is = h ∙ ap (λ (n : ℕ). root_place 12 n) shl_x;
      }

-- ---- and of a normal half above 0, by its exponent field
module _ (a : ℕ) (na : is_normal a ≡ true) {s e : ℕ} (hs : (s ≡ significand a) × (1024 ≤ s) × (s < 2048)) (he : e ≡ exponent_field a) where
  N_from_is : 2 ^ 22 ≤ s * 2 ^ (13 - e % 2)
  N_from_is =
      mul-le-mul {n₁ = 2 ^ 10} {m₁ = 2 ^ 12} {n₂ = s} {m₂ = 2 ^ (13 - e % 2)} (omega (arith, hs.1))
      (pow_mono {i = 12} {j = 13 - e % 2} (omega arith))

  N_to_is : s * 2 ^ (13 - e % 2) < 2 ^ 24
  N_to_is =
      let l : s * 2 ^ (13 - e % 2) ≤ 2047 * 2 ^ 13 =
      mul-le-mul {n₁ = s} {m₁ = 2 ^ (13 - e % 2)} {n₂ = 2047} {m₂ = 2 ^ 13} (omega (arith, hs.2))
      (pow_mono {i = 13 - e % 2} {j = 13} (omega arith)) in
      omega arith

  shl_s : s * 2 ^ (13 - e % 2) % 2 ^ 64 ≡ s * 2 ^ (13 - e % 2)
  shl_s = mod-eq_of_lt (omega (arith, N_to_is))

  pub normal_radicand_lt : s * 2 ^ (13 - e % 2) % 2 ^ 64 < 2 ^ 24
  normal_radicand_lt = rw shl_s N_to_is

  square_is : units a * 2 ^ 28 ≡ s * 2 ^ (13 - e % 2) * (2 ^ ((e + 13) / 2 + 1) * 2 ^ ((e + 13) / 2 + 1))
  unfolding units
  square_is =
      let i : ℕ = 13 - e % 2 in
      let k : ℕ = (e + 13) / 2 + 1 in
      let f : lift a + 28 ≡ i + (k + k) = omega (arith, normal_ge a na) in
      ap (λ (m : ℕ). m * 2 ^ lift a * 2 ^ 28) (sym hs.0) ∙ pow_join s (lift a) 28 f ∙ sym (pow_join s i (k + k) refl)
      ∙ ap (λ (m : ℕ). s * 2 ^ i * m) (pow-add 2 k k)

  pub normal_radicand : {z : ℕ} → z ≡ root_place 12 (s * 2 ^ (13 - e % 2) % 2 ^ 64)
      → Radicand (units a) (s * 2 ^ (13 - e % 2)) ((e + 13) / 2) z
  normal_radicand h =
      record {
        n_lt = finite_lt a (normal_finite a na);
        square = square_is;
        N_from = N_from_is;
        N_to = N_to_is;
        z_is = h ∙ ap (λ (n : ℕ). root_place 12 n) shl_s;
      }
