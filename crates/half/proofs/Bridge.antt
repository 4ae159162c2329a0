-- The rounding that is defined, and as the code works it out: from the place among the multiples of 2 ^ -26.
use Prim.Native.Nat.{ℕ, zero, suc, ◌+◌, ◌-◌, ◌*◌, ◌/◌, ◌%◌, ◌^◌, ◌≤◌, ◌<◌, compare, Ordering}
use mathlib.Core.Bool.{Bool, true, false, not, ◌&&◌, ◌||◌, cond}
use mathlib.Core.Path.{◌≡◌, refl, sym, ap, ◌∙◌}
use native.Mathlib.Omega.{arith}
use native.Mathlib.Nat.{mul_assoc, mul_comm, mul-pos, mul-le-mul, mul-le-mul_right, mul-lt-mul_of_pos_right, le_trans, le_of_eq}
use native.Mathlib.Nat.{lt_of_lt_of_le, lt_of_le_of_lt, not-le_of_lt, mul-one, one-mul, zero-mul, mod-lt, pow-succ'}
use lib.Bits.{bit_or}
use lib.Dec.{leb, ltb, eqb, is_le, compare_is_eq, lit<}
use lib.Pow.{pow_pos, pow_mono, pow-add, shl-shr, split}
use lib.Ieee.{size}
use lib.Ieee.Digits.{size-lt, size-le, size_reaches}
use borrow.Author.Tests.{le-leb, lt-leb, le-ltb, lt-ltb, eq-eqb, ne_eqb, leb-true, leb-false, ltb-true, ltb-false, eqb-true, eqb-false}
use Rattle.half.specs.Format.{with_sign}
use Rattle.half.specs.Exact.{Magnitude, ratio, root_of, denominator, against, whole, round_to}
use Rattle.half.specs.Round.{OE, UE, PE, flag, outcome, significant, overflows, inexact, tiny, encode, overflow_fields, rounded_half}
use Rattle.half.specs.Work.{place}
use Rattle.half.specs.declared.Mode.{Mode}
use Rattle.half.specs.declared.Outcome.{Outcome}
use Rattle.half.proofs.Compare.{and_false, cmp_scale, same_le, same_lt, same_ge, same_below}
use Rattle.half.proofs.Places.{pow_join, size_is, size_shift, size_large, place_two, place_ge, place_lt, place_cut}
use Rattle.half.proofs.Cuts.{left, right, weight, against_is, against_scale, left_scale, weight_pos, right_mono, whole_spec}
use Rattle.half.proofs.Cuts.{whole_is, whole_le, whole_ge, whole_scale, round_to_scale, round_to_same, round_to_ge, round_to_le}
use Rattle.half.proofs.Cuts.{round_to_exact, scale_lt, lt_scale, ge_scale}

-- ---- the fields of q * 2 ^ k
pub encode_is : (k q : ℕ) → q ≤ 2048 → (q < 1024 → k ≡ 0) → encode (q * 2 ^ k) ≡ k * 1024 + q
unfolding encode
encode_is k q hi lo = go (ltb q 1024) (ltb q 2048) refl refl
  where
    go : (a b : Bool) → ltb q 1024 ≡ a → ltb q 2048 ≡ b
        → (size (q * 2 ^ k) - 11) * 1024 + q * 2 ^ k / 2 ^ (size (q * 2 ^ k) - 11) ≡ k * 1024 + q
    go true b e f =
        let l : q < 1024 = ltb-true _ _ e in
        let z : k ≡ 0 = lo l in
        let s : size (q * 2 ^ 0) - 11 ≡ 0 = let w : size (q * 2 ^ 0) ≤ 10 = size-le (q * 2 ^ 0) 10 (omega arith) in omega arith in
        rw (z, s) (omega arith)
    go false true e f =
        let l : 1024 ≤ q = ltb-false _ _ e in
        let h : q < 2048 = ltb-true _ _ f in
        let w : size (q * 2 ^ k) ≡ suc (10 + k) =
        size_is (q * 2 ^ k) (10 + k) (le_trans (le_of_eq (pow-add 2 10 k)) (mul-le-mul_right (2 ^ k) l))
        (omega (arith, pow-add 2 10 k, mul-lt-mul_of_pos_right {m = q} {n = 2048} {k = 2 ^ k} h (pow_pos k))) in
        let s : size (q * 2 ^ k) - 11 ≡ k = omega arith in
        rw (s, shl-shr q k)
    go false false e f =
        let l : 2048 ≤ q = ltb-false _ _ f in
        let q2 : q ≡ 2048 = omega arith in
        let w : size (2048 * 2 ^ k) ≡ suc (11 + k) =
        size_is (2048 * 2 ^ k) (11 + k) (le_of_eq (pow-add 2 11 k)) (omega (arith, pow-add 2 11 k, pow_pos k)) in
        let s : size (2048 * 2 ^ k) - 11 ≡ suc k = omega arith in
        let n : 2048 * 2 ^ k ≡ 1024 * 2 ^ suc k = omega (arith, pow-succ' 2 k) in
        rw (q2, s, n, shl-shr 1024 (suc k)) (omega arith)

-- ---- one rounding at two limits

module _ (x : Magnitude) (hd : 0 < denominator x) where
  -- in units that are 2 ^ j times as small
  pub whole_finer : (l j : ℕ) → whole x 1 (2 ^ l) ≡ whole x 1 (2 ^ (l + j)) / 2 ^ j
  whole_finer l j =
      let w : ℕ = whole x 1 (2 ^ (l + j)) in
      let s = whole_spec x 1 (2 ^ (l + j)) hd (omega arith) in
      let e : 2 ^ (l + j) ≡ 2 ^ l * 2 ^ j = pow-add 2 l j in
      let f : w / 2 ^ j * 2 ^ j + w % 2 ^ j ≡ w = split w j in
      let g : w % 2 ^ j < 2 ^ j = mod-lt w (pow_pos j) in
      whole_is x 1 (2 ^ l) hd (omega arith) (w / 2 ^ j)
      (ge_scale x (w / 2 ^ j * 1) (2 ^ l) (2 ^ j) (pow_pos j)
      (rw (← e) (le_trans (right_mono x {a = w / 2 ^ j * 1 * 2 ^ j} {c = w * 1} (omega arith)) s.0)))
      (lt_scale x ((w / 2 ^ j + 1) * 1) (2 ^ l) (2 ^ j)
      (rw (← e) (lt_of_lt_of_le s.1 (right_mono x {a = (w + 1) * 1} {c = (w / 2 ^ j + 1) * 1 * 2 ^ j} (omega arith)))))

  -- 11 significant bits are 11 significant bits
  pub significant_finer : (mode : Mode) (neg : Bool) (l j : ℕ) → 2 ^ 10 ≤ whole x 1 (2 ^ l)
      → significant (l + j) mode neg x ≡ significant l mode neg x * 2 ^ j
  unfolding significant
  significant_finer mode neg l j h =
      let s : ℕ = size (whole x 1 (2 ^ l)) - 11 in
      let a : 11 ≤ size (whole x 1 (2 ^ l)) = size_large (whole x 1 (2 ^ l)) 10 h in
      let b : size (whole x 1 (2 ^ l)) ≡ size (whole x 1 (2 ^ (l + j))) - j =
      ap size (whole_finer l j) ∙ size_shift (whole x 1 (2 ^ (l + j))) j in
      let c : size (whole x 1 (2 ^ (l + j))) - 11 ≡ size (whole x 1 (2 ^ l)) - 11 + j = omega arith in
      let d : round_to mode neg x (2 ^ (s + j)) (2 ^ (l + j)) ≡ round_to mode neg x (2 ^ s) (2 ^ l) =
      rw (pow-add 2 s j, pow-add 2 l j) (round_to_scale mode neg x (2 ^ s) (2 ^ l) (2 ^ j) hd (pow_pos s) (pow_pos j)) in
      ap (λ (y : ℕ). round_to mode neg x (2 ^ y) (2 ^ (l + j)) * 2 ^ y) c
      ∙ ap (λ (y : ℕ). y * 2 ^ (s + j)) d
      ∙ ap (λ (y : ℕ). round_to mode neg x (2 ^ s) (2 ^ l) * y) (pow-add 2 s j)
      ∙ sym (mul_assoc (round_to mode neg x (2 ^ s) (2 ^ l)) (2 ^ s) (2 ^ j))

  pub significant_le : (mode : Mode) (neg : Bool) (l e : ℕ) → whole x 1 (2 ^ l) < 2 ^ e → significant l mode neg x ≤ 2 ^ e
  unfolding significant
  significant_le mode neg l e h =
      let w : ℕ = whole x 1 (2 ^ l) in
      let n : ℕ = size w in
      let s : ℕ = n - 11 in
      let f : 2 ^ (n - s + s) ≡ 2 ^ n = ap (λ (y : ℕ). 2 ^ y) (omega arith) in
      let g : 2 ^ (n - s) * 2 ^ s ≡ 2 ^ n = sym (pow-add 2 (n - s) s) ∙ f in
      let b : whole x (2 ^ s) (2 ^ l) + 1 ≤ 2 ^ (n - s) =
      (let k : suc (2 ^ (n - s) - 1) ≡ 2 ^ (n - s) = omega (arith, pow_pos (n - s)) in
      let m : whole x (2 ^ s) (2 ^ l) ≤ 2 ^ (n - s) - 1 =
      whole_le x (2 ^ s) (2 ^ l) hd (pow_pos s) (2 ^ (n - s) - 1)
      (lt_of_lt_of_le (whole_spec x 1 (2 ^ l) hd (omega arith)).1 (right_mono x {a = (w + 1) * 1} {c = (2 ^ (n - s) - 1 + 1) * 2 ^ s}
      (le_trans (let z : (w + 1) * 1 ≤ 2 ^ n = omega (arith, size-lt w) in z)
      (le_of_eq (sym g ∙ ap (λ (y : ℕ). y * 2 ^ s) (let y : 2 ^ (n - s) ≡ 2 ^ (n - s) - 1 + 1 = omega arith in y)))))) in omega arith) in
      le_trans (mul-le-mul_right (2 ^ s) (le_trans (round_to_le mode neg x (2 ^ s) (2 ^ l)) b))
      (le_trans (le_of_eq g) (pow_mono (size-le w e h)))

  pub significant_pos : (mode : Mode) (neg : Bool) (l : ℕ) → 0 < whole x 1 (2 ^ l) → 0 < significant l mode neg x
  unfolding significant
  significant_pos mode neg l h =
      let w : ℕ = whole x 1 (2 ^ l) in
      let s : ℕ = size w - 11 in
      let a : 1 ≤ size w = size_large w 0 h in
      let b : 2 ^ s ≤ w = size_reaches w s (omega arith) in
      let c : 1 ≤ whole x (2 ^ s) (2 ^ l) =
      whole_ge x (2 ^ s) (2 ^ l) hd (pow_pos s) 1
      (le_trans (right_mono x {a = 1 * 2 ^ s} {c = w * 1} (omega arith)) (whole_spec x 1 (2 ^ l) hd (omega arith)).0) in
      mul-pos {m = round_to mode neg x (2 ^ s) (2 ^ l)} {n = 2 ^ s} (le_trans c (round_to_ge mode neg x (2 ^ s) (2 ^ l))) (pow_pos s)

-- ---- zero
pub left_one : (x : Magnitude) (b : ℕ) → left x b ≡ left x 1 * weight x b
left_one x b = ap (λ (y : ℕ). left x y) (sym (one-mul b)) ∙ left_scale x 1 b

pub right_zero : (x : Magnitude) → right x 0 ≡ 0
right_zero (ratio n d) = omega arith
right_zero (root_of n d) = omega arith

pub significant_zero : (x : Magnitude) → 0 < denominator x → (mode : Mode) (neg : Bool) (l : ℕ) → left x 1 ≡ 0
    → significant l mode neg x ≡ 0
unfolding significant
significant_zero x hd mode neg l h =
    let s : ℕ = size (whole x 1 (2 ^ l)) - 11 in
    let z : left x (2 ^ l) ≡ 0 = left_one x (2 ^ l) ∙ ap (λ (y : ℕ). y * weight x (2 ^ l)) h ∙ zero-mul (weight x (2 ^ l)) in
    ap (λ (y : ℕ). y * 2 ^ s) (round_to_exact mode neg x (2 ^ s) (2 ^ l) hd (pow_pos s) 0
    (ap (λ (y : ℕ). right x y) (zero-mul (2 ^ s)) ∙ right_zero x ∙ sym z)) ∙ zero-mul (2 ^ s)

-- the fine unit is fine enough
pub fine_enough : (x : Magnitude) → 0 < left x 1 → right x 1 ≤ left x (2 ^ (24 + size (denominator x)))
fine_enough (ratio n d) h =
    let a : d < 2 ^ size d = size-lt d in
    let b : 2 ^ size d ≤ 2 ^ (24 + size d) = pow_mono (omega arith) in
    let c : 1 * 2 ^ (24 + size d) ≤ n * 2 ^ (24 + size d) =
    mul-le-mul_right {m = 1} {n = n} (2 ^ (24 + size d)) (omega arith) in omega arith
fine_enough (root_of n d) h =
    let a : d < 2 ^ size d = size-lt d in
    let P : ℕ = 2 ^ (24 + size d) in
    let b : 2 ^ size d ≤ P = pow_mono (omega arith) in
    let e : 1 * P ≤ P * P = mul-le-mul_right {m = 1} {n = P} P (pow_pos (24 + size d)) in
    let c : 1 * (P * P) ≤ n * (P * P) = mul-le-mul_right {m = 1} {n = n} (P * P) (omega arith) in omega arith

-- ---- z / 4 rounded to a whole number

abbrev pub steps : Mode → Bool → ℕ → ℕ
steps mode neg z = round_to mode neg (ratio z 4) 1 1

module _ (mode : Mode) (neg : Bool) (z : ℕ) where
  pub quarter : whole (ratio z 4) 1 1 ≡ z / 4
  unfolding whole
  quarter = ap (λ (n : ℕ). n / 4) (mul-one z)

  pub steps_ge : z / 4 ≤ steps mode neg z
  steps_ge = omega (arith, round_to_ge mode neg (ratio z 4) 1 1, quarter)

  pub steps_le : steps mode neg z ≤ z / 4 + 1
  steps_le = omega (arith, round_to_le mode neg (ratio z 4) 1 1, quarter)

  -- it differs from z / 4 exactly if something is left
  pub steps_left : not (eqb z (2 * (2 * steps mode neg z))) ≡ not (eqb (z % 4) 0)
  steps_left = go (eqb (z % 4) 0) refl
    where
      go : (b : Bool) → eqb (z % 4) 0 ≡ b → not (eqb z (2 * (2 * steps mode neg z))) ≡ not b
      go true e =
          let r : z % 4 ≡ 0 = eqb-true _ _ e in
          let s : steps mode neg z ≡ z / 4 = round_to_exact mode neg (ratio z 4) 1 1 (omega arith) (omega arith) (z / 4) (omega arith) in
          rw (eq-eqb z (2 * (2 * steps mode neg z)) (omega arith))
      go false e =
          let r : (z % 4 ≡ 0 → ⊥) = eqb-false _ _ e in
          rw (ne_eqb z (2 * (2 * steps mode neg z)) (λ (f : z ≡ 2 * (2 * steps mode neg z)). r (omega arith)))

-- ---- t is the place of x among the multiples of 2 ^ -26: it tells how x compares with each of them
abbrev pub Placed : Magnitude → ℕ → Type 0
Placed x t = (c : ℕ) → against x c (2 ^ 26) ≡ compare t (2 * c)

module _ (x : Magnitude) (t : ℕ) (hd : 0 < denominator x) (p : Placed x t) where
  cut : (c : ℕ) → compare (left x (2 ^ 26)) (right x c) ≡ compare t (2 * c)
  cut c = sym (against_is x c (2 ^ 26)) ∙ p c

  pub at_least : (c : ℕ) → 2 * c ≤ t → right x c ≤ left x (2 ^ 26)
  at_least c h = same_ge (left x (2 ^ 26)) (right x c) t (2 * c) (cut c) h

  pub below : (c : ℕ) → t < 2 * c → left x (2 ^ 26) < right x c
  below c h = same_below (left x (2 ^ 26)) (right x c) t (2 * c) (cut c) h

  -- x and the place z of its half steps h compare alike with each half step
  at_steps : (h c : ℕ) → 0 < h → against x (c * h) (2 ^ 26) ≡ compare (place t (2 * h)) (2 * c)
  at_steps h c hh =
      p (c * h) ∙ ap (λ (n : ℕ). compare t n) (let e : 2 * (c * h) ≡ c * (2 * h) = omega arith in e) ∙ place_cut t (2 * h) c (omega arith)

  pub round_steps : (mode : Mode) (neg : Bool) (h : ℕ) → 0 < h → round_to mode neg x (2 * h) (2 ^ 26) ≡ steps mode neg (place t (2 * h))
  unfolding against
  round_steps mode neg h hh =
      round_to_same x (ratio (place t (2 * h)) 4) hd (omega arith) (2 * h) (2 ^ 26) 1 1 (omega arith) (omega arith) same mode neg
    where
      same : (n : ℕ) → against x (n * (2 * h)) (2 ^ 27) ≡ compare (place t (2 * h) * 2) (n * 1 * 4)
      same n =
          ap (λ (m : ℕ). against x m (2 ^ 27)) (let e : n * (2 * h) ≡ n * h * 2 = omega arith in e)
          ∙ against_scale x (n * h) (2 ^ 26) 2 (omega arith) ∙ at_steps h n hh
          ∙ sym (cmp_scale (place t (2 * h)) (2 * n) 2 (omega arith))
          ∙ ap (λ (m : ℕ). compare (place t (2 * h) * 2) m) (let e : 2 * n * 2 ≡ n * 1 * 4 = omega arith in e)

-- ---- when a magnitude is too large: a q of 11 digits, or 2 ^ 11, in steps of 2 ^ (S + 40)
pub over_test : (S q : ℕ) → 1024 ≤ q → q ≤ 2048 → leb (2 ^ 80) (q * 2 ^ (S + 40)) ≡ leb 31744 (S * 1024 + q)
over_test S q lo hi = go (leb S 28) (leb 30 S) refl refl
  where
    small : S ≤ 28 → q * 2 ^ (S + 40) < 2 ^ 80
    small h = lt_of_le_of_lt (mul-le-mul hi (pow_mono {i = S + 40} {j = 68} (omega arith))) (lit< tt)

    large : 30 ≤ S → 2 ^ 80 ≤ q * 2 ^ (S + 40)
    large h = mul-le-mul {n₁ = 1024} {m₁ = 2 ^ 70} lo (pow_mono {i = 70} {j = S + 40} (omega arith))

    middle : (b : Bool) → leb 2048 q ≡ b → S ≡ 29 → leb (2 ^ 80) (q * 2 ^ (S + 40)) ≡ leb 31744 (S * 1024 + q)
    middle true e s =
        let g : 2048 ≤ q = leb-true _ _ e in rw s
        (le-leb (2 ^ 80) (q * 2 ^ 69) (omega arith) ∙ sym (le-leb 31744 (29 * 1024 + q) (omega arith)))
    middle false e s =
        let g : q < 2048 = leb-false _ _ e in rw s
        (lt-leb (2 ^ 80) (q * 2 ^ 69) (omega arith) ∙ sym (lt-leb 31744 (29 * 1024 + q) (omega arith)))

    go : (a b : Bool) → leb S 28 ≡ a → leb 30 S ≡ b → leb (2 ^ 80) (q * 2 ^ (S + 40)) ≡ leb 31744 (S * 1024 + q)
    go true b e f = let h : S ≤ 28 = leb-true _ _ e in lt-leb _ _ (small h) ∙ sym (lt-leb 31744 (S * 1024 + q) (omega arith))
    go false true e f = let h : 30 ≤ S = leb-true _ _ f in le-leb _ _ (large h) ∙ sym (le-leb 31744 (S * 1024 + q) (omega arith))
    go false false e f = middle (leb 2048 q) refl (let h : 28 < S = leb-false _ _ e in let g : S < 30 = leb-false _ _ f in omega arith)

-- ---- the code's way
unfoldable pub coarse : Mode → Bool → Bool → ℕ → Outcome
coarse mode unmasked_ue neg t =
    let k = size t - 14 in
    let z = place t (2 ^ (k + 2)) in
    let m = k * 1024 + steps mode neg z in
    let left = not (eqb (z % 4) 0) in
    cond (leb 31744 m) (outcome (with_sign neg (overflow_fields mode neg)) (bit_or OE PE))
    (outcome (with_sign neg m) (bit_or (flag PE left) (flag UE ((ltb 0 t && ltb (steps mode neg t) 2048) && (unmasked_ue || left)))))

-- ---- the bridge
module _ (x : Magnitude) (t : ℕ) (hd : 0 < denominator x) (p : Placed x t) (mode : Mode) (neg : Bool) where
  whole24 : whole x 1 (2 ^ 24) ≡ t / 8
  whole24 =
      sym (whole_scale x 1 (2 ^ 24) 4 hd (omega arith) (omega arith)) ∙ whole_is x 4 (2 ^ 26) hd (omega arith) (t / 8)
      (at_least x t hd p (t / 8 * 4) (omega arith)) (below x t hd p ((t / 8 + 1) * 4) (omega arith))

  whole25 : whole x 1 (2 ^ 25) ≡ t / 4
  whole25 =
      sym (whole_scale x 1 (2 ^ 25) 2 hd (omega arith) (omega arith)) ∙ whole_is x 2 (2 ^ 26) hd (omega arith) (t / 4)
      (at_least x t hd p (t / 4 * 2) (omega arith)) (below x t hd p ((t / 4 + 1) * 2) (omega arith))

  round_at : (k : ℕ) → round_to mode neg x (2 ^ k) (2 ^ 24) ≡ steps mode neg (place t (2 ^ (k + 2)))
  round_at k =
      let e : 2 ^ k * 4 ≡ 2 * 2 ^ (k + 1) = omega (arith, pow-add 2 k 1) in
      let f : 2 * 2 ^ (k + 1) ≡ 2 ^ (k + 2) = omega (arith, pow-add 2 k 1, pow-add 2 k 2) in
      sym (round_to_scale mode neg x (2 ^ k) (2 ^ 24) 4 hd (pow_pos k) (omega arith))
      ∙ ap (λ (y : ℕ). round_to mode neg x y (2 ^ 26)) e
      ∙ round_steps x t hd p mode neg (2 ^ (k + 1)) (pow_pos (k + 1))
      ∙ ap (λ (y : ℕ). steps mode neg (place t y)) f

  sig24 : significant 24 mode neg x ≡ steps mode neg (place t (2 ^ (size t - 14 + 2))) * 2 ^ (size t - 14)
  unfolding significant
  sig24 =
      let e : size (whole x 1 (2 ^ 24)) - 11 ≡ size t - 14 =
      ap (λ (y : ℕ). size y - 11) whole24 ∙ (let s : size (t / 2 ^ 3) ≡ size t - 3 = size_shift t 3 in let r : size (t / 8) - 11 ≡ size t -
      14 = omega arith in r) in
      ap (λ (y : ℕ). round_to mode neg x (2 ^ y) (2 ^ 24) * 2 ^ y) e ∙ ap (λ (y : ℕ). y * 2 ^ (size t - 14)) (round_at (size t - 14))

  inexact_at : (k : ℕ)
      → not (compare_is_eq (against x (steps mode neg (place t (2 ^ (k + 2))) * 2 ^ k) (2 ^ 24))) ≡ not (eqb (place t (2 ^ (k + 2)) % 4) 0)
  inexact_at k =
      let f : 2 * 2 ^ (k + 1) ≡ 2 ^ (k + 2) = omega (arith, pow-add 2 k 1, pow-add 2 k 2) in
      let q : ℕ = steps mode neg (place t (2 ^ (k + 2))) in
      let g : q * 2 ^ k * 4 ≡ 2 * q * 2 ^ (k + 1) =
      ap (λ (y : ℕ). y * 4) (mul_comm q (2 ^ k)) ∙ (let e : 2 ^ k * q * 4 ≡ 2 * q * (2 ^ k * 2 ^ 1) = omega arith in e)
      ∙ ap (λ (y : ℕ). 2 * q * y) (sym (pow-add 2 k 1)) in
      let a : against x (q * 2 ^ k) (2 ^ 24) ≡ compare (place t (2 ^ (k + 2))) (2 * (2 * q)) =
      sym (against_scale x (q * 2 ^ k) (2 ^ 24) 4 (omega arith)) ∙ ap (λ (y : ℕ). against x y (2 ^ 26)) g ∙ at_steps x t hd p (2 ^ (k + 1))
      (2 * q) (pow_pos (k + 1)) ∙ ap (λ (y : ℕ). compare (place t y) (2 * (2 * q))) f in
      ap (λ (o : Ordering). not (compare_is_eq o)) a ∙ steps_left mode neg (place t (2 ^ (k + 2)))

  -- the significand that is kept
  kept_le : steps mode neg (place t (2 ^ (size t - 14 + 2))) ≤ 2048
  kept_le =
      let k : ℕ = size t - 14 in
      let h : t < 4096 * 2 ^ (k + 2) = lt_of_lt_of_le (size-lt t)
      (le_trans (pow_mono {i = size t} {j = 12 + (k + 2)} (omega arith)) (le_of_eq (pow-add 2 12 (k + 2)))) in
      omega (arith, place_lt t (2 ^ (k + 2)) 4096 (pow_pos (k + 2)) h, steps_le mode neg (place t (2 ^ (k + 2))))

  kept_ge : 2 ^ 13 ≤ t → 1024 ≤ steps mode neg (place t (2 ^ (size t - 14 + 2)))
  kept_ge h =
      let k : ℕ = size t - 14 in
      let s : 14 ≤ size t = size_large t 13 h in
      let r : 2 ^ (11 + (k + 2)) ≤ t = size_reaches t (11 + (k + 2)) (omega arith) in
      omega (
        arith,
        place_ge t (2 ^ (k + 2)) 2048 (pow_pos (k + 2)) (le_trans (le_of_eq (sym (pow-add 2 11 (k + 2)))) r),
        steps_ge mode neg
            (place t (2 ^ (k + 2))),
      )

  kept_small : steps mode neg (place t (2 ^ (size t - 14 + 2))) < 1024 → size t - 14 ≡ 0
  kept_small h = go (leb (2 ^ 13) t) refl
    where
      go : (b : Bool) → leb (2 ^ 13) t ≡ b → size t - 14 ≡ 0
      go true e = absurd (not-le_of_lt h (kept_ge (leb-true _ _ e)))
      go false e = let s : size t ≤ 13 = size-le t 13 (leb-false _ _ e) in omega arith

  encoded : encode (significant 24 mode neg x) ≡ (size t - 14) * 1024 + steps mode neg (place t (2 ^ (size t - 14 + 2)))
  encoded = ap encode sig24 ∙ encode_is (size t - 14) (steps mode neg (place t (2 ^ (size t - 14 + 2)))) kept_le kept_small

  at25 : t < 2 ^ 13 → significant 25 mode neg x ≡ steps mode neg t
  unfolding significant
  at25 hi =
      let s : size (whole x 1 (2 ^ 25)) - 11 ≡ 0 =
      let w : size (whole x 1 (2 ^ 25)) ≤ 11 = size-le (whole x 1 (2 ^ 25)) 11 (rw whole25 (omega arith)) in omega arith in
      ap (λ (y : ℕ). round_to mode neg x (2 ^ y) (2 ^ 25) * 2 ^ y) s
      ∙ mul-one (round_to mode neg x 1 (2 ^ 25))
      ∙ sym (round_to_scale mode neg x 1 (2 ^ 25) 2 hd (omega arith) (omega arith))
      ∙ round_steps x t hd p mode neg 1 (omega arith)
      ∙ ap (λ (y : ℕ). steps mode neg y) (place_two t)

  zero_left : t ≡ 0 → left x 1 ≡ 0
  zero_left e =
      let a : left x (2 ^ 26) ≤ right x 0 = same_le (left x (2 ^ 26)) (right x 0) t (2 * 0) (cut x t hd p 0) (omega arith) in
      let b : left x 1 * weight x (2 ^ 26) ≤ 0 = rw (← left_one x (2 ^ 26)) (le_trans a (le_of_eq (right_zero x))) in
      go (left x 1) b
    where
      go : (n : ℕ) → n * weight x (2 ^ 26) ≤ 0 → n ≡ 0
      go zero h = refl
      go (suc n) h =
          absurd (not-le_of_lt (mul-pos {m = suc n} {n = weight x (2 ^ 26)} (omega arith) (weight_pos x (2 ^ 26) (omega arith))) h)

  pos_left : 0 < t → 0 < left x 1
  pos_left h =
      let a : right x 0 < left x (2 ^ 26) = same_lt (left x (2 ^ 26)) (right x 0) t (2 * 0) (cut x t hd p 0) (omega arith) in
      go (left x 1) (rw (← left_one x (2 ^ 26)) (lt_of_le_of_lt (omega arith) a))
    where
      go : (n : ℕ) → 0 < n * weight x (2 ^ 26) → 0 < n
      go zero h = absurd (let z : 0 < 0 * weight x (2 ^ 26) = h in omega arith)
      go (suc n) h = omega arith

  -- ---- overflow and tininess: with the fine unit 2 ^ -(25 + j)
  module _ (j : ℕ) where
    abbrev free : ℕ
    free = significant (25 + j) mode neg x

    -- x below c * 2 ^ -25 has fewer than c * 2 ^ j fine units
    few : (e : ℕ) → t < 2 * (2 * 2 ^ e) → whole x 1 (2 ^ (25 + j)) < 2 ^ (e + j)
    few e h =
        let a : left x (2 ^ 26) < right x (2 * 2 ^ e) = below x t hd p (2 * 2 ^ e) h in
        let b : left x (2 ^ 26 * 2 ^ j) < right x (2 * 2 ^ e * 2 ^ j) = scale_lt x (2 * 2 ^ e) (2 ^ 26) (2 ^ j) (pow_pos j) a in
        let f : 2 ^ 26 * 2 ^ j ≡ 2 ^ (25 + j) * 2 = omega (arith, pow-add 2 25 j) in
        let g : 2 * 2 ^ e * 2 ^ j ≡ 2 ^ (e + j) * 2 =
        mul_assoc 2 (2 ^ e) (2 ^ j) ∙ mul_comm 2 (2 ^ e * 2 ^ j) ∙ ap (λ (y : ℕ). y * 2) (sym (pow-add 2 e j)) in
        let c : left x (2 ^ (25 + j) * 2) < right x (2 ^ (e + j) * 2) = rw (← f, ← g) b in
        let d : left x (2 ^ (25 + j)) < right x (2 ^ (e + j)) = lt_scale x (2 ^ (e + j)) (2 ^ (25 + j)) 2 c in
        let m : suc (2 ^ (e + j) - 1) ≡ 2 ^ (e + j) = omega (arith, pow_pos (e + j)) in
        let n : (2 ^ (e + j) - 1 + 1) * 1 ≡ 2 ^ (e + j) = omega arith in
        let w : whole x 1 (2 ^ (25 + j)) ≤ 2 ^ (e + j) - 1 = whole_le x 1 (2 ^ (25 + j)) hd (omega arith) (2 ^ (e + j) - 1) (rw n d) in
        omega arith

    -- at least 2 ^ -14
    normal : 2 ^ 13 ≤ t → free ≡ significant 24 mode neg x * 2 ^ suc j
    normal h =
        ap (λ (y : ℕ). significant y mode neg x) (let e : 25 + j ≡ 24 + suc j = omega arith in e) ∙ significant_finer x hd mode neg 24
        (suc j) (rw whole24 (omega arith))

    -- at least 2 ^ -15, below 2 ^ -14
    middle : 2 ^ 12 ≤ t → t < 2 ^ 13 → free ≡ steps mode neg t * 2 ^ j
    middle lo hi = significant_finer x hd mode neg 25 j (rw whole25 (omega arith)) ∙ ap (λ (y : ℕ). y * 2 ^ j) (at25 hi)

    over_is : leb (65536 * 2 ^ (25 + j)) free ≡ leb 31744 ((size t - 14) * 1024 + steps mode neg (place t (2 ^ (size t - 14 + 2))))
    over_is = go (leb (2 ^ 13) t) refl
      where
        q : ℕ
        q = steps mode neg (place t (2 ^ (size t - 14 + 2)))

        go : (b : Bool) → leb (2 ^ 13) t ≡ b
            → leb (65536 * 2 ^ (25 + j)) free ≡ leb 31744 ((size t - 14) * 1024 + steps mode neg (place t (2 ^ (size t - 14 + 2))))
        go true e =
            let h : 2 ^ 13 ≤ t = leb-true _ _ e in
            let k : ℕ = size t - 14 in
            let n : ℕ = steps mode neg (place t (2 ^ (size t - 14 + 2))) * 2 ^ (size t - 14) in
            let f : free ≡ n * 2 ^ suc j = normal h ∙ ap (λ (y : ℕ). y * 2 ^ suc j) sig24 in
            let g : 65536 * 2 ^ (25 + j) ≡ 2 ^ 40 * 2 ^ suc j = omega (arith, pow-add 2 25 j) in
            let c : leb (2 ^ 40 * 2 ^ suc j) (n * 2 ^ suc j) ≡ leb (2 ^ 40) n =
            ap is_le (cmp_scale (2 ^ 40) n (2 ^ suc j) (pow_pos (suc j))) in
            let d : n * 2 ^ 40 ≡ steps mode neg (place t (2 ^ (size t - 14 + 2))) * 2 ^ (k + 40) =
            pow_join (steps mode neg (place t (2 ^ (size t - 14 + 2)))) k 40 refl in
            let o : leb (2 ^ 40) n ≡ leb (2 ^ 80) (n * 2 ^ 40) = sym (ap is_le (cmp_scale (2 ^ 40) n (2 ^ 40) (omega arith))) in
            ap (λ (y : ℕ). leb (65536 * 2 ^ (25 + j)) y) f ∙ ap (λ (y : ℕ). leb y (n * 2 ^ suc j)) g ∙ c ∙ o
            ∙ ap (λ (y : ℕ). leb (2 ^ 80) y) d
            ∙ over_test k (steps mode neg (place t (2 ^ (size t - 14 + 2)))) (kept_ge h) kept_le
        go false e =
            let h : t < 2 ^ 13 = leb-false _ _ e in
            let a : free ≤ 2 ^ (11 + j) = significant_le x hd mode neg (25 + j) (11 + j) (few 11 h) in
            let s : size t ≤ 13 = size-le t 13 h in
            lt-leb (65536 * 2 ^ (25 + j)) free (omega (arith, pow-add 2 25 j, pow-add 2 11 j, pow_pos j, a))
            ∙ sym (lt-leb 31744 ((size t - 14) * 1024 + steps mode neg (place t (2 ^ (size t - 14 + 2)))) (omega (arith, kept_le)))

    tiny_at : (0 < left x 1 → right x 1 ≤ left x (2 ^ (25 + j)))
        → (ltb 0 free && ltb (free * 2 ^ 14) (2 ^ (25 + j))) ≡ (ltb 0 t && ltb (steps mode neg t) 2048)
    tiny_at fine = go (leb (2 ^ 13) t) (leb (2 ^ 12) t) refl refl
      where
        zero_same : (b : Bool) → ltb 0 t ≡ b → ltb 0 free ≡ b
        zero_same true e =
            let h : 0 < t = ltb-true _ _ e in
            lt-ltb 0 free (significant_pos x hd mode neg (25 + j) (whole_ge x 1 (2 ^ (25 + j)) hd (omega arith) 1 (fine (pos_left h))))
        zero_same false e =
            let h : t ≡ 0 = let l : t ≤ 0 = ltb-false _ _ e in omega arith in
            ap (λ (y : ℕ). ltb 0 y) (significant_zero x hd mode neg (25 + j) (zero_left h))

        same : (y : ℕ) → ltb (y * 2 ^ j * 2 ^ 14) (2 ^ (25 + j)) ≡ ltb y 2048
        same y = inner (ltb y 2048) refl
          where
            inner : (b : Bool) → ltb y 2048 ≡ b → ltb (y * 2 ^ j * 2 ^ 14) (2 ^ (25 + j)) ≡ b
            inner true e =
                let m : suc y * 2 ^ j ≤ 2048 * 2 ^ j = mul-le-mul_right (2 ^ j) (ltb-true _ _ e) in lt-ltb (y * 2 ^ j * 2 ^ 14)
                (2 ^ (25 + j)) (omega (arith, pow-add 2 25 j, pow_pos j))
            inner false e =
                let m : 2048 * 2 ^ j ≤ y * 2 ^ j = mul-le-mul_right (2 ^ j) (ltb-false _ _ e) in le-ltb (y * 2 ^ j * 2 ^ 14) (2 ^ (25 + j))
                (omega (arith, pow-add 2 25 j))

        go : (b c : Bool) → leb (2 ^ 13) t ≡ b → leb (2 ^ 12) t ≡ c
            → (ltb 0 free && ltb (free * 2 ^ 14) (2 ^ (25 + j))) ≡ (ltb 0 t && ltb (steps mode neg t) 2048)
        go true c e g =
            let h : 2 ^ 13 ≤ t = leb-true _ _ e in
            let k : ℕ = size t - 14 in
            let q : ℕ = steps mode neg (place t (2 ^ (size t - 14 + 2))) in
            let f : free ≡ q * 2 ^ k * 2 ^ suc j = normal h ∙ ap (λ (y : ℕ). y * 2 ^ suc j) sig24 in
            let m : 1024 * 1 ≤ q * 2 ^ k = mul-le-mul {n₁ = 1024} {m₁ = 1} {n₂ = q} {m₂ = 2 ^ k} (kept_ge h) (pow_pos k) in
            let n : 1024 * 2 ^ suc j ≤ q * 2 ^ k * 2 ^ suc j = mul-le-mul_right (2 ^ suc j) m in
            let a : ltb (free * 2 ^ 14) (2 ^ (25 + j)) ≡ false = le-ltb (free * 2 ^ 14) (2 ^ (25 + j)) (omega (arith, pow-add 2 25 j, f)) in
            let b : ltb (steps mode neg t) 2048 ≡ false = le-ltb (steps mode neg t) 2048 (omega (arith, steps_ge mode neg t)) in
            ap (λ (y : Bool). ltb 0 free && y) a ∙ and_false (ltb 0 free) ∙ sym (ap (λ (y : Bool). ltb 0 t && y) b ∙ and_false (ltb 0 t))
        go false true e g =
            let h : t < 2 ^ 13 = leb-false _ _ e in
            let l : 2 ^ 12 ≤ t = leb-true _ _ g in
            let f : free ≡ steps mode neg t * 2 ^ j = middle l h in
            let a : ltb (free * 2 ^ 14) (2 ^ (25 + j)) ≡ ltb (steps mode neg t) 2048 =
            ap (λ (y : ℕ). ltb (y * 2 ^ 14) (2 ^ (25 + j))) f ∙ same (steps mode neg t) in
            ap (λ (y : Bool). ltb 0 free && y) a ∙ ap (λ (y : Bool). y && ltb (steps mode neg t) 2048) (zero_same (ltb 0 t) refl)
        go false false e g =
            let l : t < 2 ^ 12 = leb-false _ _ g in
            let f : free ≤ 2 ^ (10 + j) = significant_le x hd mode neg (25 + j) (10 + j) (few 10 l) in
            let a : ltb (free * 2 ^ 14) (2 ^ (25 + j)) ≡ true =
            lt-ltb (free * 2 ^ 14) (2 ^ (25 + j)) (omega (arith, pow-add 2 25 j, pow-add 2 10 j, pow_pos j, f)) in
            let b : ltb (steps mode neg t) 2048 ≡ true = lt-ltb (steps mode neg t) 2048 (omega (arith, steps_le mode neg t)) in
            ap (λ (y : Bool). ltb 0 free && y) a ∙ ap (λ (y : Bool). y && true) (zero_same (ltb 0 t) refl)
            ∙ ap (λ (y : Bool). ltb 0 t && y) (sym b)

  abbrev z14 : ℕ
  z14 = place t (2 ^ (size t - 14 + 2))

  -- what is told of x, and what the code tells of t
  pub inexact_is : inexact mode neg x ≡ not (eqb (z14 % 4) 0)
  inexact_is = ap (λ (y : ℕ). not (compare_is_eq (against x y (2 ^ 24)))) sig24 ∙ inexact_at (size t - 14)

  fine_is : 24 + size (denominator x) ≡ 25 + (size (denominator x) - 1)
  fine_is = let l : 1 ≤ size (denominator x) = size_large (denominator x) 0 hd in omega arith

  pub tiny_is : tiny mode neg x ≡ (ltb 0 t && ltb (steps mode neg t) 2048)
  tiny_is = rw fine_is (tiny_at (size (denominator x) - 1) (λ (h : 0 < left x 1). rw (← fine_is) (fine_enough x h)))

  pub overflows_is : overflows mode neg x ≡ leb 31744 ((size t - 14) * 1024 + steps mode neg z14)
  overflows_is = rw fine_is (over_is (size (denominator x) - 1))

  pub bridge : (unmasked_ue : Bool) → rounded_half mode unmasked_ue neg x ≡ coarse mode unmasked_ue neg t
  unfolding rounded_half coarse
  bridge unmasked_ue = rw (overflows_is, inexact_is, encoded, tiny_is)
