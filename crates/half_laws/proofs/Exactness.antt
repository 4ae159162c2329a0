-- Numbers that the grid holds are delivered as they are, and the unit that stands for no exponent limit is fine enough.
use Prim.Native.Nat.{ℕ, suc, ◌+◌, ◌*◌, ◌^◌, ◌≤◌, ◌<◌}
use mathlib.Core.Bool.{Bool, true, false}
use mathlib.Core.Path.{◌≡◌, refl, sym, ap, ◌∙◌}
use native.Mathlib.Omega.{arith}
use native.Mathlib.Nat.{le_antisymm, le_of_eq, le_trans, lt_of_not-le, le_of_suc-le-suc, mul-le-mul_right, zero-mul}
use lib.Dec.{ltb}
use lib.Pow.{pow_pos, pow-add}
use lib.Ieee.{size}
use lib.Ieee.Digits.{size-lt}
use borrow.Author.Tests.{ltb-true, ltb-false}
use Rattle.half.specs.Exact.{Magnitude, ratio, root_of, denominator, whole, is_nearest, outward}
use Rattle.half.specs.Round.{significant, fine, unlimited, delivered}
use Rattle.half.specs.declared.Mode.{Mode}
use Rattle.half.proofs.Places.{size_large}
use Rattle.half.proofs.Cuts.{left, right, weight, left_scale, right_scale, scale_ge, whole_ge}
use Rattle.half.proofs.Bridge.{significant_finer, significant_zero}
use Rattle.half_laws.specs.Laws.{ElevenBits}
use Rattle.half_laws.proofs.Sides.{right_back}
use Rattle.half_laws.proofs.Grid.{OnGrid, shift, kept_lt, kept_ge, toward_zero, away_from_zero, none_nearer}

-- ---- an x that is m * 2 ^ -24, for an m on the grid
module _ (mode : Mode) (neg : Bool) (x : Magnitude) (hd : 0 < denominator x) (m : ℕ) (g : OnGrid m) (e : left x (2 ^ 24) ≡ right x m) where
  abbrev D : ℕ
  D = delivered mode neg x

  twice : left x (2 ^ 25) ≡ right x (m * 2)
  twice = left_scale x (2 ^ 24) 2 ∙ ap (λ (z : ℕ). z * weight x 2) e ∙ sym (right_scale x m 2)

  pub held : D ≡ m
  held = go (is_nearest mode) (outward mode neg) refl refl
    where
      go : (a o : Bool) → is_nearest mode ≡ a → outward mode neg ≡ o → D ≡ m
      go true o i f =
          let n = none_nearer 24 x hd mode neg i m g in
          le_antisymm
          (le_of_suc-le-suc (lt_of_not-le (λ (h : suc m ≤ D). let l : D + m ≤ m * 2 = right_back x hd (D + m) (m * 2)
          (le_trans (n.1 h) (le_of_eq twice)) in absurd (omega arith))))
          (le_of_suc-le-suc (lt_of_not-le (λ (h : suc D ≤ m). let l : m * 2 ≤ D + m = right_back x hd (m * 2) (D + m)
          (le_trans (le_of_eq (sym twice)) (n.0 h)) in absurd (omega arith))))
      go false true i f =
          let t = away_from_zero 24 x hd mode neg i f in
          le_antisymm (t.1 m g (le_of_eq e)) (right_back x hd m D (le_trans (le_of_eq (sym e)) t.0))
      go false false i f =
          let t = toward_zero 24 x hd mode neg i f in
          le_antisymm (right_back x hd D m (le_trans t.0 (le_of_eq e))) (t.1 m g (le_of_eq (sym e)))

-- ---- an x above 0 is at least 1 / d, so 2 ^ 24 or more of the fine units

at_least_one : (x : Magnitude) → 0 < left x 1 → right x 1 ≤ left x (2 ^ size (denominator x))
at_least_one (ratio n d) h =
    let c : 1 * 2 ^ size d ≤ n * 2 ^ size d = mul-le-mul_right {m = 1} {n = n} (2 ^ size d) (omega arith) in omega (arith, size-lt d)
at_least_one (root_of n d) h =
    let P : ℕ = 2 ^ size d in
    let e : 1 * P ≤ P * P = mul-le-mul_right {m = 1} {n = P} P (pow_pos (size d)) in
    let c : 1 * (P * P) ≤ n * (P * P) = mul-le-mul_right {m = 1} {n = n} (P * P) (omega arith) in
    omega (arith, size-lt d)

module _ (mode : Mode) (neg : Bool) (x : Magnitude) (hd : 0 < denominator x) where
  many : 0 < left x 1 → 2 ^ 24 ≤ whole x 1 (2 ^ fine x)
  many h =
      let s : ℕ = size (denominator x) in
      let f : 2 ^ fine x ≡ 2 ^ s * 2 ^ 24 = omega (arith, pow-add 2 24 s) in
      whole_ge x 1 (2 ^ fine x) hd (omega arith) (2 ^ 24) (rw f (scale_ge x 1 (2 ^ s) (2 ^ 24) (at_least_one x h)))

  pub finer : (j : ℕ) → significant (fine x + j) mode neg x ≡ unlimited mode neg x * 2 ^ j
  finer j = go (ltb 0 (left x 1)) refl
    where
      go : (b : Bool) → ltb 0 (left x 1) ≡ b → significant (fine x + j) mode neg x ≡ unlimited mode neg x * 2 ^ j
      go true e = significant_finer x hd mode neg (fine x) j (le_trans (let y : 2 ^ 10 ≤ 2 ^ 24 = omega arith in y) (many (ltb-true _ _ e)))
      go false e =
          let z : left x 1 ≡ 0 = let l : left x 1 ≤ 0 = ltb-false _ _ e in omega arith in
          rw (significant_zero x hd mode neg (fine x + j) z, significant_zero x hd mode neg (fine x) z) (sym (zero-mul (2 ^ j)))

  pub eleven : 0 < left x 1 → ElevenBits mode neg x
  unfolding significant
  eleven h =
      let l : 25 ≤ size (whole x 1 (2 ^ fine x)) = size_large (whole x 1 (2 ^ fine x)) 24 (many h) in
      record { shift = shift (fine x) x; least = kept_ge (fine x) x hd (omega arith); most = kept_lt (fine x) x hd; rounds = refl }
