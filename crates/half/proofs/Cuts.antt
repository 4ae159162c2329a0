-- An exact magnitude x compares with a / b as the number left x b does with right x a. All that is proved of magnitudes goes by this.
use Prim.Native.Nat.{ℕ, suc, ◌+◌, ◌*◌, ◌/◌, ◌^◌, ◌≤◌, ◌<◌, compare, Ordering}
use mathlib.Core.Bool.{Bool, true, false, cond}
use mathlib.Core.Path.{◌≡◌, refl, sym, ap, ◌∙◌}
use native.Mathlib.Omega.{arith}
use native.Mathlib.Nat.{mul_assoc, mul_comm, mul_right_comm, mul-mul-mul_comm, mul-pos, mul-le-mul, mul-le-mul_right}
use native.Mathlib.Nat.{mul-lt-mul_of_pos_right, le_of_mul-le-mul_right, lt_of_mul-lt-mul_right, le_trans, le_of_eq, lt_of_lt_of_le}
use native.Mathlib.Nat.{lt_of_le_of_lt, lt_of_not-le, not-le_of_lt, le_of_suc-le-suc, le_antisymm, mul-one, div-lt_iff_lt-mul}
use native.Mathlib.Nat.{div-mul-le_self}
use lib.Pow.{pow_pos}
use lib.Ieee.{size, nearest}
use lib.Ieee.Digits.{size-lt}
use Rattle.half.specs.Exact.{Magnitude, ratio, root_of, denominator, against, whole_root, whole, is_nearest, outward, ceiling, round_to}
use Rattle.half.specs.declared.Mode.{Mode}
use Rattle.half.proofs.Compare.{cmp_lt, cmp_eq, cmp_scale, same_ge, same_below}
use Rattle.half.proofs.Roots.{Root, root_of_lem}

-- ---- the two sides

abbrev pub left : Magnitude → ℕ → ℕ
left (ratio n d) b = n * b
left (root_of n d) b = n * (b * b)

abbrev pub right : Magnitude → ℕ → ℕ
right (ratio n d) a = a * d
right (root_of n d) a = a * a * d

abbrev pub weight : Magnitude → ℕ → ℕ
weight (ratio n d) c = c
weight (root_of n d) c = c * c

pub against_is : (x : Magnitude) (a b : ℕ) → against x a b ≡ compare (left x b) (right x a)
unfolding against
against_is (ratio n d) a b = refl
against_is (root_of n d) a b = refl

pub left_scale : (x : Magnitude) (b c : ℕ) → left x (b * c) ≡ left x b * weight x c
left_scale (ratio n d) b c = sym (mul_assoc n b c)
left_scale (root_of n d) b c = ap (λ (z : ℕ). n * z) (mul-mul-mul_comm b c b c) ∙ sym (mul_assoc n (b * b) (c * c))

pub right_scale : (x : Magnitude) (a c : ℕ) → right x (a * c) ≡ right x a * weight x c
right_scale (ratio n d) a c = mul_right_comm a c d
right_scale (root_of n d) a c = ap (λ (z : ℕ). z * d) (mul-mul-mul_comm a c a c) ∙ mul_right_comm (a * a) (c * c) d

pub weight_pos : (x : Magnitude) (c : ℕ) → 0 < c → 0 < weight x c
weight_pos (ratio n d) c h = h
weight_pos (root_of n d) c h = mul-pos h h

pub right_mono : (x : Magnitude) {a c : ℕ} → a ≤ c → right x a ≤ right x c
right_mono (ratio n d) h = mul-le-mul_right d h
right_mono (root_of n d) h = mul-le-mul_right d (mul-le-mul h h)

pub right_strict : (x : Magnitude) → 0 < denominator x → {a c : ℕ} → a < c → right x a < right x c
right_strict (ratio n d) hd h = mul-lt-mul_of_pos_right h hd
right_strict (root_of n d) hd {a} {c} h = mul-lt-mul_of_pos_right (let p : suc a * suc a ≤ c * c = mul-le-mul h h in omega arith) hd

pub against_scale : (x : Magnitude) (a b c : ℕ) → 0 < c → against x (a * c) (b * c) ≡ against x a b
against_scale x a b c h =
    against_is x (a * c) (b * c) ∙ rw (left_scale x b c, right_scale x a c)
    (cmp_scale (left x b) (right x a) (weight x c) (weight_pos x c h)) ∙ sym (against_is x a b)

-- ---- the order of ratios around x: x ≤ a / b and so on, also across denominators
pub le_scale : (x : Magnitude) (a b c : ℕ) → 0 < c → left x (b * c) ≤ right x (a * c) → left x b ≤ right x a
le_scale x a b c h l =
    le_of_mul-le-mul_right {k = weight x c} (le_trans (le_of_eq (sym (left_scale x b c))) (le_trans l (le_of_eq (right_scale x a c))))
    (weight_pos x c h)

pub ge_scale : (x : Magnitude) (a b c : ℕ) → 0 < c → right x (a * c) ≤ left x (b * c) → right x a ≤ left x b
ge_scale x a b c h l =
    le_of_mul-le-mul_right {k = weight x c} (le_trans (le_of_eq (sym (right_scale x a c))) (le_trans l (le_of_eq (left_scale x b c))))
    (weight_pos x c h)

pub scale_le : (x : Magnitude) (a b c : ℕ) → left x b ≤ right x a → left x (b * c) ≤ right x (a * c)
scale_le x a b c l = rw (left_scale x b c, right_scale x a c) (mul-le-mul_right (weight x c) l)

pub scale_ge : (x : Magnitude) (a b c : ℕ) → right x a ≤ left x b → right x (a * c) ≤ left x (b * c)
scale_ge x a b c l = rw (left_scale x b c, right_scale x a c) (mul-le-mul_right (weight x c) l)

pub scale_lt : (x : Magnitude) (a b c : ℕ) → 0 < c → left x b < right x a → left x (b * c) < right x (a * c)
scale_lt x a b c h l = rw (left_scale x b c, right_scale x a c) (mul-lt-mul_of_pos_right l (weight_pos x c h))

pub lt_scale : (x : Magnitude) (a b c : ℕ) → left x (b * c) < right x (a * c) → left x b < right x a
lt_scale x a b c l =
    lt_of_mul-lt-mul_right (weight x c) (lt_of_le_of_lt (le_of_eq (sym (left_scale x b c)))
    (lt_of_lt_of_le l (le_of_eq (right_scale x a c))))

-- ---- whole units

pub whole_root_lem : (n : ℕ) → Root n (whole_root n)
whole_root_lem n =
    root_of_lem (size n) n (lt_of_lt_of_le (size-lt n)
    (let p : 0 < 2 ^ size n = pow_pos (size n) in le_trans (le_of_eq (sym (mul-one (2 ^ size n)))) (mul-le-mul (le_of_eq refl) p)))

pub whole_spec : (x : Magnitude) (a b : ℕ) → 0 < denominator x → 0 < a
    → (right x (whole x a b * a) ≤ left x b) × (left x b < right x ((whole x a b + 1) * a))
unfolding whole
whole_spec (ratio n d) a b hd ha =
    let D : 0 < d * a = mul-pos hd ha in
    let q : ℕ = n * b / (d * a) in (
      le_trans (le_of_eq (mul_assoc q a d ∙ ap (λ (z : ℕ). q * z) (mul_comm a d))) (div-mul-le_self (n * b) (d * a)),
      lt_of_lt_of_le ((div-lt_iff_lt-mul {y = q + 1} D).0 (omega arith))
          (le_of_eq (ap (λ (z : ℕ). (q + 1) * z) (mul_comm d a) ∙ sym (mul_assoc (q + 1) a d))),
    )
whole_spec (root_of n d) a b hd ha =
    let D : 0 < d * (a * a) = mul-pos hd (mul-pos ha ha) in
    let N : ℕ = n * (b * b) / (d * (a * a)) in
    let q : ℕ = whole_root N in
    let r : Root N q = whole_root_lem N in
    let e : (z : ℕ) → z * a * (z * a) * d ≡ z * z * (d * (a * a)) =
    λ (z : ℕ). ap (λ (y : ℕ). y * d) (mul-mul-mul_comm z a z a) ∙ mul_assoc (z * z) (a * a) d ∙ ap (λ (y : ℕ). z * z * y)
    (mul_comm (a * a) d) in (
      le_trans (le_of_eq (e q)) (le_trans (mul-le-mul_right (d * (a * a)) r.0) (div-mul-le_self (n * (b * b)) (d * (a * a)))),
      lt_of_lt_of_le ((div-lt_iff_lt-mul {y = (q + 1) * (q + 1)} D).0 r.1) (le_of_eq (sym (e (q + 1)))),
    )

-- there is one number of whole units
module _ (x : Magnitude) (a b : ℕ) (hd : 0 < denominator x) (ha : 0 < a) where
  pub whole_le : (q : ℕ) → left x b < right x ((q + 1) * a) → whole x a b ≤ q
  whole_le q h = le_of_suc-le-suc (lt_of_not-le (λ (g : suc q ≤ whole x a b).
      not-le_of_lt h (le_trans (right_mono x {a = (q + 1) * a} {c = whole x a b * a} (mul-le-mul_right a (omega arith)))
      (whole_spec x a b hd ha).0)))

  pub whole_ge : (q : ℕ) → right x (q * a) ≤ left x b → q ≤ whole x a b
  whole_ge q h = le_of_suc-le-suc (lt_of_not-le (λ (g : suc (whole x a b) ≤ q).
      not-le_of_lt (whole_spec x a b hd ha).1 (le_trans
      (right_mono x {a = (whole x a b + 1) * a} {c = q * a} (mul-le-mul_right a (omega arith))) h)))

  pub whole_is : (q : ℕ) → right x (q * a) ≤ left x b → left x b < right x ((q + 1) * a) → whole x a b ≡ q
  whole_is q l h = le_antisymm (whole_le q h) (whole_ge q l)

pub whole_scale : (x : Magnitude) (a b c : ℕ) → 0 < denominator x → 0 < a → 0 < c → whole x (a * c) (b * c) ≡ whole x a b
whole_scale x a b c hd ha hc =
    let s = whole_spec x a b hd ha in
    whole_is x (a * c) (b * c) hd (mul-pos ha hc) (whole x a b)
    (rw (← mul_assoc (whole x a b) a c) (scale_ge x (whole x a b * a) b c s.0))
    (rw (← mul_assoc (whole x a b + 1) a c) (scale_lt x ((whole x a b + 1) * a) b c hc s.1))

-- rounding turns on the unit alone, however it is written
pub round_to_scale : (mode : Mode) (neg : Bool) (x : Magnitude) (a b c : ℕ) → 0 < denominator x → 0 < a → 0 < c
    → round_to mode neg x (a * c) (b * c) ≡ round_to mode neg x a b
unfolding round_to
round_to_scale mode neg x a b c hd ha hc =
    let q : ℕ = whole x a b in
    let m : against x ((2 * q + 1) * (a * c)) (2 * (b * c)) ≡ against x ((2 * q + 1) * a) (2 * b) =
    rw (← mul_assoc (2 * q + 1) a c, ← mul_assoc 2 b c) (against_scale x ((2 * q + 1) * a) (2 * b) c hc) in
    let e : against x (q * (a * c)) (b * c) ≡ against x (q * a) b = rw (← mul_assoc q a c) (against_scale x (q * a) b c hc) in
    rw (whole_scale x a b c hd ha hc, m, e)

-- ---- q or q + 1, and q where x is q units
ceiling_ge : (q : ℕ) (o : Ordering) → q ≤ ceiling q o
ceiling_ge q Ordering.lt = omega arith
ceiling_ge q Ordering.eq = omega arith
ceiling_ge q Ordering.gt = omega arith

ceiling_le : (q : ℕ) (o : Ordering) → ceiling q o ≤ q + 1
ceiling_le q Ordering.lt = omega arith
ceiling_le q Ordering.eq = omega arith
ceiling_le q Ordering.gt = omega arith

near_ge : (q : ℕ) (o : Ordering) → q ≤ nearest q o
near_ge q Ordering.lt = omega arith
near_ge q Ordering.eq = omega arith
near_ge q Ordering.gt = omega arith

near_le : (q : ℕ) (o : Ordering) → nearest q o ≤ q + 1
near_le q Ordering.lt = omega arith
near_le q Ordering.eq = omega arith
near_le q Ordering.gt = omega arith

module _ (mode : Mode) (neg : Bool) (x : Magnitude) (a b : ℕ) where
  pub round_to_ge : whole x a b ≤ round_to mode neg x a b
  unfolding round_to
  round_to_ge = go (is_nearest mode) (outward mode neg)
    where
      q : ℕ
      q = whole x a b

      go : (m o : Bool)
          → whole x a b ≤ cond m (nearest (whole x a b) (against x ((2 * whole x a b + 1) * a) (2 * b)))
          (cond o (ceiling (whole x a b) (against x (whole x a b * a) b)) (whole x a b))
      go true o = near_ge (whole x a b) (against x ((2 * whole x a b + 1) * a) (2 * b))
      go false true = ceiling_ge (whole x a b) (against x (whole x a b * a) b)
      go false false = omega arith

  pub round_to_le : round_to mode neg x a b ≤ whole x a b + 1
  unfolding round_to
  round_to_le = go (is_nearest mode) (outward mode neg)
    where
      go : (m o : Bool)
          → cond m (nearest (whole x a b) (against x ((2 * whole x a b + 1) * a) (2 * b)))
          (cond o (ceiling (whole x a b) (against x (whole x a b * a) b)) (whole x a b)) ≤ whole x a b + 1
      go true o = near_le (whole x a b) (against x ((2 * whole x a b + 1) * a) (2 * b))
      go false true = ceiling_le (whole x a b) (against x (whole x a b * a) b)
      go false false = omega arith

  pub round_to_exact : 0 < denominator x → 0 < a → (q : ℕ) → right x (q * a) ≡ left x b → round_to mode neg x a b ≡ q
  unfolding round_to
  round_to_exact hd ha q e =
      let w : whole x a b ≡ q = whole_is x a b hd ha q (le_of_eq e)
      (lt_of_le_of_lt (le_of_eq (sym e)) (right_strict x hd {a = q * a} {c = (q + 1) * a}
      (mul-lt-mul_of_pos_right {m = q} {n = q + 1} (omega arith) ha))) in
      let s : left x (2 * b) ≡ right x (2 * q * a) =
      ap (λ (z : ℕ). left x z) (mul_comm 2 b) ∙ left_scale x b 2 ∙ ap (λ (z : ℕ). z * weight x 2) (sym e) ∙ sym (right_scale x (q * a) 2)
      ∙ ap (λ (z : ℕ). right x z) (omega arith) in
      let m : against x ((2 * q + 1) * a) (2 * b) ≡ Ordering.lt =
      against_is x ((2 * q + 1) * a) (2 * b) ∙ cmp_lt _ _
      (lt_of_le_of_lt (le_of_eq s) (right_strict x hd {a = 2 * q * a} {c = (2 * q + 1) * a}
      (mul-lt-mul_of_pos_right {m = 2 * q} {n = 2 * q + 1} (omega arith) ha))) in
      let c : against x (q * a) b ≡ Ordering.eq = against_is x (q * a) b ∙ cmp_eq _ _ (sym e) in
      rw (w, m, c) (go (is_nearest mode) (outward mode neg))
    where
      go : (m o : Bool) → cond m q (cond o q q) ≡ q
      go true o = refl
      go false true = refl
      go false false = refl

-- ---- rounding turns on how x compares with the half units alone
module _ (x y : Magnitude) (hx : 0 < denominator x) (hy : 0 < denominator y) (a b c d : ℕ) (ha : 0 < a) (hc : 0 < c)
    (same : (n : ℕ) → against x (n * a) (2 * b) ≡ against y (n * c) (2 * d)) where
  -- with a whole number of units too
  same_whole : (n : ℕ) → against x (n * a) b ≡ against y (n * c) d
  same_whole n = sym (at x a b) ∙ same (n * 2) ∙ at y c d
    where
      at : (z : Magnitude) (e f : ℕ) → against z (n * 2 * e) (2 * f) ≡ against z (n * e) f
      at z e f = let p : n * 2 * e ≡ n * e * 2 = omega arith in rw (p, mul_comm 2 f) (against_scale z (n * e) f 2 (omega arith))

  same_cut : (n : ℕ) → compare (left x b) (right x (n * a)) ≡ compare (left y d) (right y (n * c))
  same_cut n = sym (against_is x (n * a) b) ∙ same_whole n ∙ against_is y (n * c) d

  whole_same : whole x a b ≡ whole y c d
  whole_same =
      let s = whole_spec y c d hy hc in
      whole_is x a b hx ha (whole y c d) (same_ge _ _ _ _ (same_cut (whole y c d)) s.0)
      (same_below _ _ _ _ (same_cut (whole y c d + 1)) s.1)

  pub round_to_same : (mode : Mode) (neg : Bool) → round_to mode neg x a b ≡ round_to mode neg y c d
  unfolding round_to
  round_to_same mode neg = rw (whole_same, same (2 * whole y c d + 1), same_whole (whole y c d))
