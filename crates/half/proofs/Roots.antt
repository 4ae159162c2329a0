-- Whole roots, digit by digit, and the places of roots.
use Prim.Native.Nat.{ℕ, zero, suc, ◌+◌, ◌-◌, ◌*◌, ◌/◌, ◌%◌, ◌^◌, ◌≤◌, ◌<◌, compare, Ordering}
use mathlib.Core.Bool.{Bool, true, false, cond}
use mathlib.Core.Path.{◌≡◌, refl, sym, ap, ◌∙◌, subst}
use native.Mathlib.Omega.{arith}
use native.Mathlib.Nat.{sub_self, mul-mod_left, le_of_sub-eq-zero, sub-eq-zero_of_le, mul-pos, div-add-mod', mod-lt, le_antisymm}
use native.Mathlib.Nat.{lt_of_not-le, not-le_of_lt, lt_of_lt_of_le, lt_of_le_of_lt, le_of_lt, le_trans, le_of_eq, mul-le-mul}
use native.Mathlib.Nat.{le_of_mul-le-mul_right, lt_of_mul-lt-mul_right, mul-mul-mul_comm, pow-succ', le_of_suc-le-suc, mul_assoc}
use native.Mathlib.Nat.{mul-div_cancel, le-div_iff_mul-le, div-lt_iff_lt-mul, mul_comm, add_comm}
use lib.Dec.{leb}
use lib.Arith.{digits_div, digits_mod}
use lib.Pow.{shl_lt, pow-add, pow_mono, pow_pos}
use lib.Ieee.{size}
use lib.Ieee.Digits.{size-lt, size-le, size_reaches}
use borrow.Author.Tests.{leb-true, leb-false}
use Rattle.half.specs.Exact.{root_from}
use Rattle.half.specs.Work.{more, place, root_place}
use Rattle.half.specs.Format.{units, significand}
use Rattle.half.proofs.Places.{pow_join, size_large}
use Rattle.half.proofs.Units.{lift, significand_lt}
use Rattle.half.proofs.Compare.{cmp, Cmp, cmp_lt, cmp_eq, cmp_gt}

-- s is the whole part of the root of n
abbrev pub Root : ℕ → ℕ → Type 0
Root n s = (s * s ≤ n) × (n < (s + 1) * (s + 1))

pub root_is : (k n s : ℕ) → s * s ≤ n → n < (s + 2 ^ k) * (s + 2 ^ k) → Root n (root_from k n s)
unfolding root_from
root_is zero n s lo hi = (lo, hi)
root_is (suc k) n s lo hi = go (leb ((s + 2 ^ k) * (s + 2 ^ k)) n) refl (root_is k n)
  where
    go : (b : Bool) → leb ((s + 2 ^ k) * (s + 2 ^ k)) n ≡ b
        → ((r : ℕ) → r * r ≤ n → n < (r + 2 ^ k) * (r + 2 ^ k) → Root n (root_from k n r)) → Root n (root_from k n (cond b (s + 2 ^ k) s))
    go true e ih =
        ih (s + 2 ^ k) (leb-true _ _ e) (subst (λ (x : ℕ). n < x * x)
        (let p : 2 ^ suc k ≡ 2 * 2 ^ k = pow-succ' 2 k in let q : s + 2 ^ suc k ≡ s + 2 ^ k + 2 ^ k = omega arith in q) hi)
    go false e ih = ih s lo (leb-false _ _ e)

pub root_of_lem : (k n : ℕ) → n < 2 ^ k * 2 ^ k → Root n (root_from k n 0)
root_of_lem k n h = root_is k n 0 (omega arith) (omega arith)

-- there is one
root_le : (n r s : ℕ) → Root n r → Root n s → r ≤ s
root_le n r s p q = le_of_suc-le-suc (lt_of_not-le (λ (g : suc s ≤ r).
    not-le_of_lt q.1 (le_trans (mul-le-mul {n₁ = s + 1} {m₁ = s + 1} {n₂ = r} {m₂ = r} (omega arith) (omega arith)) p.0)))

pub root_one : (n r s : ℕ) → Root n r → Root n s → r ≡ s
root_one n r s p q = le_antisymm (root_le n r s p q) (root_le n s r q p)

-- the root of n * c * c, divided by c
module _ (n c R : ℕ) (hc : 0 < c) (h : Root (n * (c * c)) R) where
  cut : Root n (R / c)
  cut =
      let q : ℕ = R / c in
      let e : q * c + R % c ≡ R = div-add-mod' R c in
      let m : R % c < c = mod-lt R hc in
      let a : q * c * (q * c) ≤ n * (c * c) =
      le_trans (mul-le-mul {n₁ = q * c} {m₁ = q * c} {n₂ = R} {m₂ = R} (omega arith) (omega arith)) h.0 in
      let b : n * (c * c) < (q + 1) * c * ((q + 1) * c) =
      lt_of_lt_of_le h.1 (mul-le-mul {n₁ = R + 1} {m₁ = R + 1} {n₂ = (q + 1) * c} {m₂ = (q + 1) * c} (omega arith) (omega arith)) in
      let cc' : 0 < c * c = mul-pos hc hc in (
        le_of_mul-le-mul_right {m = q * q} {n = n} {k = c * c} (le_trans (le_of_eq (mul-mul-mul_comm q q c c)) a) cc',
        lt_of_mul-lt-mul_right (c * c) {m = n} {n = (q + 1) * (q + 1)} (lt_of_lt_of_le b (le_of_eq (mul-mul-mul_comm (q + 1) c (q + 1) c))),
      )

  exact_down : R % c ≡ 0 → n * (c * c) - R * R ≡ 0 → n - R / c * (R / c) ≡ 0
  exact_down z w =
      let q : ℕ = R / c in
      let e : q * c ≡ R = let d : q * c + R % c ≡ R = div-add-mod' R c in omega arith in
      let a : n * (c * c) ≤ R * R = le_of_sub-eq-zero w in
      let b : n * (c * c) ≤ q * q * (c * c) = le_trans a (le_of_eq (ap (λ (x : ℕ). x * x) (sym e) ∙ mul-mul-mul_comm q c q c)) in
      sub-eq-zero_of_le (le_of_mul-le-mul_right {m = n} {n = q * q} {k = c * c} b (mul-pos hc hc))

  exact_up : n - R / c * (R / c) ≡ 0 → (R % c ≡ 0) × (n * (c * c) - R * R ≡ 0)
  exact_up z =
      let q : ℕ = R / c in
      let e : n ≡ q * q = le_antisymm (le_of_sub-eq-zero z) cut.0 in
      let f : n * (c * c) ≡ q * c * (q * c) = ap (λ (x : ℕ). x * (c * c)) e ∙ mul-mul-mul_comm q q c c in
      let g : R ≡ q * c = root_one (n * (c * c)) R (q * c) h (le_of_eq (sym f), lt_of_le_of_lt (le_of_eq f) (omega arith)) in (
        ap (λ (x : ℕ). x % c) g ∙ mul-mod_left q c,
        ap (λ (x : ℕ). n * (c * c) - x * x) g ∙ ap (λ (x : ℕ). x - q * c * (q * c)) f ∙ sub_self
            (q * c * (q * c)),
      )

-- equal where both are 0 or neither is
more_iff : (a b : ℕ) → (a ≡ 0 → b ≡ 0) → (b ≡ 0 → a ≡ 0) → more a ≡ more b
more_iff zero b f g = sym (ap more (f refl))
more_iff (suc a) zero f g = absurd (let z : suc a ≡ 0 = g refl in omega arith)
more_iff (suc a) (suc b) f g = omega arith

-- the place of a root in units that are c times as large
pub root_place_cut : (K k n c : ℕ) → 0 < c → n * (c * c) < 2 ^ K * 2 ^ K → n < 2 ^ k * 2 ^ k
    → place (root_place K (n * (c * c))) (2 * c) ≡ root_place k n
unfolding place root_place
root_place_cut K k n c hc hK hk =
    let R : ℕ = root_from K (n * (c * c)) 0 in
    let h : Root (n * (c * c)) R = root_of_lem K (n * (c * c)) hK in
    let b : ℕ = more (n * (c * c) - R * R) in
    let lo : 2 * (R % c) + b < 2 * c = let l : R % c < c = mod-lt R hc in omega arith in
    let e : 2 * R + b ≡ R / c * (2 * c) + (2 * (R % c) + b) = let s : R / c * c + R % c ≡ R = div-add-mod' R c in omega arith in
    let dv : (2 * R + b) / (2 * c) ≡ R / c = ap (λ (x : ℕ). x / (2 * c)) e ∙ digits_div (R / c) lo in
    let md : (2 * R + b) % (2 * c) ≡ 2 * (R % c) + b = ap (λ (x : ℕ). x % (2 * c)) e ∙ digits_mod (R / c) lo in
    let q : R / c ≡ root_from k n 0 = root_one n (R / c) (root_from k n 0) (cut n c R hc h) (root_of_lem k n hk) in
    let m : more (2 * (R % c) + b) ≡ more (n - R / c * (R / c)) =
    more_iff (2 * (R % c) + b) (n - R / c * (R / c))
    (λ (z : 2 * (R % c) + b ≡ 0). exact_down n c R hc h (omega arith) (omega arith))
    (λ (z : n - R / c * (R / c) ≡ 0). let u = exact_up n c R hc h z in let u0 : R % c ≡ 0 = u.0 in let u1 : n * (c * c) - R * R ≡ 0 = u.1
    in omega arith) in
    rw (dv, md, m, q)

-- the mean of g and n / g is not below the root of n
pub mean_above : (n g : ℕ) → 0 < g → n < ((g + n / g) / 2 + 1) * ((g + n / g) / 2 + 1)
mean_above n g hg =
    let q : ℕ = n / g in
    let s : ℕ = (g + n / g) / 2 in
    let a : n < (q + 1) * g = (div-lt_iff_lt-mul {x = n} {y = q + 1} hg).0 (omega arith) in
    let b : g + (q + 1) ≤ 2 * (s + 1) = omega arith in
    let c : (g + (q + 1)) * (g + (q + 1)) ≤ 2 * (s + 1) * (2 * (s + 1)) = mul-le-mul b b in
    let d : 4 * ((q + 1) * g) ≤ (g + (q + 1)) * (g + (q + 1)) = rw (mul_comm (q + 1) g) (means g (q + 1)) in
    let e : 2 * (s + 1) * (2 * (s + 1)) ≡ 4 * ((s + 1) * (s + 1)) = mul-mul-mul_comm 2 (s + 1) 2 (s + 1) in
    omega arith
  where
    -- 4 x y ≤ (x + y) ^ 2
    ordered : (x k : ℕ) → 4 * (x * (x + k)) ≤ (x + (x + k)) * (x + (x + k))
    ordered x k =
        let a : (x + (x + k)) * (x + (x + k)) ≡ 4 * (x * (x + k)) + k * k = square x k in omega arith
      where
        square : (x k : ℕ) → (x + (x + k)) * (x + (x + k)) ≡ 4 * (x * (x + k)) + k * k
        square x k = omega arith

    means : (x y : ℕ) → 4 * (x * y) ≤ (x + y) * (x + y)
    means x y = go (leb x y) refl
      where
        go : (b : Bool) → leb x y ≡ b → 4 * (x * y) ≤ (x + y) * (x + y)
        go true e =
            let l : x ≤ y = leb-true _ _ e in subst (λ (z : ℕ). 4 * (x * z) ≤ (x + z) * (x + z))
            (let f : x + (y - x) ≡ y = omega arith in f) (ordered x (y - x))
        go false e =
            let l : y < x = leb-false _ _ e in
            rw (mul_comm x y, add_comm x y) (subst (λ (z : ℕ). 4 * (y * z) ≤ (y + z) * (y + z))
            (let f : y + (x - y) ≡ x = omega arith in f) (ordered y (x - y)))

-- one down: n stays below the square of s + 1
pub down : (n s : ℕ) → n < s * s → (0 < s) × (n < (s - 1 + 1) * (s - 1 + 1))
down n zero h = absurd (let z : n < 0 * 0 = h in omega arith)
down n (suc s) h = let e : suc s - 1 + 1 ≡ suc s = omega arith in (omega arith, rw e h)

-- the root, found from above
pub root_found : (n s : ℕ) → n < 2 ^ 24 → n < (s + 1) * (s + 1) → s * s ≤ n → s ≡ root_from 12 n 0
root_found n s h hi lo = root_one n s (root_from 12 n 0) (lo, hi) (root_of_lem 12 n (omega arith))

module _ (k n s : ℕ) (h : s ≡ root_from k n 0) where
  pub root_even : s * s ≡ n → s * 2 ≡ root_place k n
  unfolding root_place
  root_even e = rw (← h) (let z : more (n - s * s) ≡ 0 = omega arith in rw z (omega arith))

  pub root_odd : n < 2 ^ k * 2 ^ k → (s * s ≡ n → ⊥) → s * 2 + 1 ≡ root_place k n
  unfolding root_place
  root_odd b e = let l : s * s ≤ n = rw h (root_of_lem k n b).0 in rw (← h) (let z : more (n - s * s) ≡ 1 = omega arith in rw z (omega arith))

  pub root_lt : n < 2 ^ k * 2 ^ k → s < 2 ^ k
  root_lt b = lt_of_not-le (λ (g : 2 ^ k ≤ s). not-le_of_lt (lt_of_le_of_lt (rw h (root_of_lem k n b).0) b) (mul-le-mul g g))

  pub root_square : n < 2 ^ k * 2 ^ k → s * s ≤ n
  root_square b = rw h (root_of_lem k n b).0

pub root_place_lt : (k n : ℕ) → n < 2 ^ k * 2 ^ k → {t : ℕ} → t ≡ root_place k n → t < 2 ^ suc k
unfolding root_place
root_place_lt k n h e = let l : root_from k n 0 < 2 ^ k = root_lt k n (root_from k n 0) refl h in omega arith

-- a root's place compares with whole numbers as the root does
pub root_cut : (k N c : ℕ) → N < 2 ^ k * 2 ^ k → compare N (c * c) ≡ compare (root_place k N) (2 * c)
unfolding root_place
root_cut k N c h = go (compare N (c * c)) (cmp N (c * c))
  where
    r : Root N (root_from k N 0)
    r = root_of_lem k N h

    go : (o : Ordering) → Cmp o N (c * c) → o ≡ compare (root_place k N) (2 * c)
    go Ordering.lt p =
        let s : root_from k N 0 < c = lt_of_not-le (λ (g : c ≤ root_from k N 0). not-le_of_lt p (le_trans (mul-le-mul g g) r.0)) in
        sym (cmp_lt (2 * root_from k N 0 + more (N - root_from k N 0 * root_from k N 0)) (2 * c) (omega arith))
    go Ordering.eq p =
        let s : root_from k N 0 ≡ c = root_one N (root_from k N 0) c r (le_of_eq (sym p), lt_of_le_of_lt (le_of_eq p) (omega arith)) in
        let z : N - c * c ≡ 0 = omega arith in
        sym (cmp_eq (2 * root_from k N 0 + more (N - root_from k N 0 * root_from k N 0)) (2 * c) (rw (s, z) (omega arith)))
    go Ordering.gt p =
        let s : c < root_from k N 0 + 1 = lt_of_not-le
        (λ (g : root_from k N 0 + 1 ≤ c). not-le_of_lt (lt_of_lt_of_le r.1 (mul-le-mul g g)) (le_of_lt p)) in
        sym (cmp_gt (2 * root_from k N 0 + more (N - root_from k N 0 * root_from k N 0)) (2 * c) (inner (leb (root_from k N 0) c) refl s))
      where
        inner : (b : Bool) → leb (root_from k N 0) c ≡ b → c < root_from k N 0 + 1
            → 2 * c < 2 * root_from k N 0 + more (N - root_from k N 0 * root_from k N 0)
        inner true f s =
            let q : root_from k N 0 ≡ c = let u : root_from k N 0 ≤ c = leb-true _ _ f in omega arith in
            let g : root_from k N 0 * root_from k N 0 ≡ c * c = ap (λ (y : ℕ). y * y) q in
            let m : 0 < N - root_from k N 0 * root_from k N 0 = omega arith in omega arith
        inner false f s = let u : c < root_from k N 0 = leb-false _ _ f in omega arith

-- the root of a number of 23 digits or more has 12
pub root_large : (k n : ℕ) → 2 ^ 22 ≤ n → n < 2 ^ k * 2 ^ k → 2 ^ 12 ≤ root_place k n
unfolding root_place
root_large k n h b =
    let r : ℕ = root_from k n 0 in
    let l : 2 ^ 11 ≤ r = le_of_suc-le-suc (lt_of_not-le (λ (g : suc r ≤ 2 ^ 11).
    not-le_of_lt (lt_of_lt_of_le (root_of_lem k n b).1
    (mul-le-mul {n₁ = r + 1} {m₁ = r + 1} {n₂ = 2 ^ 11} {m₂ = 2 ^ 11} (omega arith) (omega arith))) h)) in
    omega arith

-- ---- x brought to an N of 23 or 24 digits, of which 2 * j are dropped from x * 2 ^ 22
module _ (a x j : ℕ) (hx : x ≡ units a) (pos : 0 < x) (hj : j ≡ (size x - 1) / 2) where
  abbrev N : ℕ
  N = x * 2 ^ 22 / 2 ^ (2 * j)

  some_digits : 0 < size x
  some_digits = size_large x 0 (omega arith)

  high : 2 ^ (2 * j) ≤ x
  high = size_reaches x (2 * j) (omega (arith, some_digits))

  low : x < 2 ^ (2 * j) * 4
  low =
      lt_of_lt_of_le (size-lt x) (le_trans (pow_mono {i = size x} {j = 2 * j + 2} (omega (arith, some_digits)))
      (le_of_eq (pow-add 2 (2 * j) 2)))

  -- what is dropped is zeros: x is a significand of 11 digits, shifted
  digits : 2 * j ≤ lift a + 22
  unfolding units
  digits =
      let l : x < 2 ^ (11 + lift a) = rw hx (shl_lt {a = significand a} 11 (lift a) (significand_lt a)) in
      let s : size x ≤ 11 + lift a = size-le x (11 + lift a) l in omega (arith, some_digits)

  pub nothing_lost : N * 2 ^ (2 * j) ≡ x * 2 ^ 22
  unfolding units
  nothing_lost =
      let k : ℕ = lift a + 22 - 2 * j in
      let e : x * 2 ^ 22 ≡ significand a * 2 ^ k * 2 ^ (2 * j) =
      ap (λ (n : ℕ). n * 2 ^ 22) hx ∙ pow_join (significand a) (lift a) 22 refl
      ∙ sym (pow_join (significand a) k (2 * j) (let f : k + 2 * j ≡ lift a + 22 = omega (arith, digits) in f)) in
      rw e (ap (λ (n : ℕ). n * 2 ^ (2 * j)) (mul-div_cancel (significand a * 2 ^ k) (pow_pos (2 * j))))

  pub N_ge : 2 ^ 22 ≤ N
  N_ge = (le-div_iff_mul-le (pow_pos (2 * j))).1 (omega (arith, high))

  pub N_lt : N < 2 ^ 24
  N_lt = (div-lt_iff_lt-mul (pow_pos (2 * j))).1 (omega (arith, low))

  pub N_square : x * 2 ^ 28 ≡ N * (2 ^ (j + 3) * 2 ^ (j + 3))
  N_square =
      let e : 2 ^ (j + 3) * 2 ^ (j + 3) ≡ 2 ^ (2 * j) * 64 =
      sym (pow-add 2 (j + 3) (j + 3)) ∙ ap (λ (n : ℕ). 2 ^ n) (let f : j + 3 + (j + 3) ≡ 2 * j + 6 = omega arith in f) ∙ pow-add 2 (2 * j)
      6 in
      sym (ap (λ (n : ℕ). N * n) e ∙ sym (mul_assoc N (2 ^ (2 * j)) 64) ∙ ap (λ (n : ℕ). n * 64) nothing_lost
      ∙ (let f : x * 2 ^ 22 * 64 ≡ x * 2 ^ 28 = omega arith in f))
