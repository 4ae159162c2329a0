-- Laws of places and of the number of digits.
use Prim.Native.Nat.{ℕ, zero, suc, ◌+◌, ◌-◌, ◌*◌, ◌/◌, ◌%◌, ◌^◌, ◌≤◌, ◌<◌, compare, Ordering}
use mathlib.Core.Bool.{Bool, true, false}
use mathlib.Core.Path.{◌≡◌, refl, sym, ap, ◌∙◌}
use native.Mathlib.Omega.{arith}
use native.Mathlib.Nat.{mod-eq_of_lt, pow-succ', add-zero, mul-pos, mul-div-mul_right, mul-div_cancel, mul-mod_left}
use native.Mathlib.Nat.{div-div-eq-div-mul, mod-lt, div-add-mod', mul_comm, mul_assoc, le_antisymm, le_of_lt, le_of_eq, le_trans}
use native.Mathlib.Nat.{lt_of_lt_of_le, le_of_suc-le-suc, lt_of_not-le, not-le_of_lt, div-lt_iff_lt-mul, le-div_iff_mul-le, div-eq_of_lt}
use native.Mathlib.Nat.{mul-le-mul}
use lib.Dec.{leb}
use lib.Arith.{mod-mul, digits_div, digits_mod}
use lib.Pow.{pow_pos, pow_mono, pow-add, split}
use lib.Count.{count_leading_zeros, leading_length}
use lib.Ieee.{size}
use lib.Ieee.Digits.{size-lt, size-le, size_reaches}
use borrow.Author.Tests.{leb-true, leb-false}
use Rattle.half.specs.Work.{more, place}
use Rattle.half.proofs.Compare.{cmp, Cmp, cmp_lt, cmp_eq, cmp_gt}

-- ---- powers of two

pub pow_join : (n i j : ℕ) {k : ℕ} → i + j ≡ k → n * 2 ^ i * 2 ^ j ≡ n * 2 ^ k
pow_join n i j e = mul_assoc n (2 ^ i) (2 ^ j) ∙ ap (λ (m : ℕ). n * m) (sym (pow-add 2 i j) ∙ ap (λ (m : ℕ). 2 ^ m) e)

-- ---- numbers of digits

pub size_is : (n s : ℕ) → 2 ^ s ≤ n → n < 2 ^ suc s → size n ≡ suc s
size_is n s lo hi =
    le_antisymm (size-le n (suc s) hi)
    (lt_of_not-le (λ (g : size n ≤ s). not-le_of_lt (lt_of_lt_of_le (size-lt n) (pow_mono g)) lo))

-- the leading zeros of a number of 64 digits, and its digits, make 64
pub zeros_size : (t : ℕ) → t < 2 ^ 64 → count_leading_zeros 64 t + size t ≡ 64
zeros_size t h =
    let l = leading_length 64 t h in
    let m : ℕ = l.0 in
    let up : size t ≤ m = size-le t m l.2 in
    let down : m ≤ size t =
    le_of_suc-le-suc
    (lt_of_not-le
    (λ (g : suc (size t) ≤ m).
    let p : 2 ^ suc (size t) ≤ 2 ^ m = pow_mono g in
    let q : t < 2 ^ size t = size-lt t in
    let r : 2 ^ m ≤ 2 * t + 1 = l.3 in
    let s : 2 ^ suc (size t) ≡ 2 * 2 ^ size t = pow-succ' 2 (size t) in
    let z : 0 ≡ 1 = omega arith in absurd (zero_one z))) in
    ap (λ (x : ℕ). count_leading_zeros 64 t + x) (le_antisymm up down) ∙ l.1
  where
    zero_one : ◌≡◌ {A = ℕ} 0 1 → ⊥
    zero_one e = omega arith

pub size_shift : (n j : ℕ) → size (n / 2 ^ j) ≡ size n - j
size_shift n j = go (leb (size n) j) refl
  where
    go : (b : Bool) → leb (size n) j ≡ b → size (n / 2 ^ j) ≡ size n - j
    go true e =
        let l : size n ≤ j = leb-true _ _ e in
        let z : n / 2 ^ j ≡ 0 = div-eq_of_lt (lt_of_lt_of_le (size-lt n) (pow_mono l)) in
        rw z (let s : size 0 ≤ 0 = size-le 0 0 (omega arith) in omega arith)
    go false e =
        let l : j < size n = leb-false _ _ e in
        let s : ℕ = size n - suc j in
        let a : 2 ^ s * 2 ^ j ≤ n = le_trans (le_of_eq (sym (pow-add 2 s j))) (size_reaches n (s + j) (omega arith)) in
        let b : n < 2 ^ suc s * 2 ^ j = lt_of_lt_of_le (size-lt n)
        (le_trans (pow_mono {i = size n} {j = suc s + j} (omega arith)) (le_of_eq (pow-add 2 (suc s) j))) in
        size_is (n / 2 ^ j) s ((le-div_iff_mul-le (pow_pos j)).1 a) ((div-lt_iff_lt-mul (pow_pos j)).1 b)
        ∙ (let f : suc s ≡ size n - j = omega arith in f)

pub size_large : (n j : ℕ) → 2 ^ j ≤ n → suc j ≤ size n
size_large n j h = lt_of_not-le (λ (g : size n ≤ j). not-le_of_lt (lt_of_lt_of_le (size-lt n) (pow_mono g)) h)

-- ---- places

more_scale : (r c : ℕ) → 0 < c → more (r * c + 0) ≡ more r
more_scale zero c h = omega arith
more_scale (suc r) c h = let p : 0 < suc r * c = mul-pos {m = suc r} {n = c} (omega arith) h in omega arith

pub place_scale : (n d c : ℕ) → 0 < d → 0 < c → place (n * c) (d * c) ≡ place n d
unfolding place
place_scale n d c hd hc =
    let m : n * c % (d * c) ≡ n % d * c + 0 = mod-mul (n * c) {m = d} {c = c} hd hc ∙ rw (mul-div_cancel n {n = c} hc, mul-mod_left n c) in
    rw (mul-div-mul_right n d hc, m, more_scale (n % d) c hc)

more_join : (R d r : ℕ) → 0 < d → more (2 * R + more r) ≡ more (R * d + r)
more_join zero d r h = omega arith
more_join (suc R) d r h = let p : 0 < suc R * d = mul-pos {m = suc R} {n = d} (omega arith) h in omega arith

-- the place of a place: in units that are c times as large
pub place-place : (n d c : ℕ) → 0 < d → 0 < c → place (place n d) (2 * c) ≡ place n (c * d)
unfolding place
place-place n d c hd hc =
    let q : ℕ = n / d in
    let b : ℕ = more (n % d) in
    let lo : 2 * (q % c) + b < 2 * c = let l : q % c < c = mod-lt q hc in omega arith in
    let e : 2 * q + b ≡ q / c * (2 * c) + (2 * (q % c) + b) = let s : q / c * c + q % c ≡ q = div-add-mod' q c in omega arith in
    let dv : (2 * q + b) / (2 * c) ≡ n / (c * d) =
    ap (λ (x : ℕ). x / (2 * c)) e ∙ digits_div (q / c) lo ∙ div-div-eq-div-mul n d c ∙ ap (λ (x : ℕ). n / x) (mul_comm d c) in
    let md : (2 * q + b) % (2 * c) ≡ 2 * (q % c) + b = ap (λ (x : ℕ). x % (2 * c)) e ∙ digits_mod (q / c) lo in
    rw (dv, md, mod-mul n {m = c} {c = d} hc hd, more_join (q % c) d (n % d) hd)

pub place_two : (t : ℕ) → place t 2 ≡ t
unfolding place
place_two t = omega arith

-- ---- t / 2 ^ k in 64 bits

pub twice_more_lt : (t k : ℕ) → t < 2 ^ 64 → 1 ≤ k → 2 * (t / 2 ^ k) + 1 < 2 ^ 64
twice_more_lt t k h g =
    let p : 2 ^ 1 ≤ 2 ^ k = pow_mono {i = 1} {j = k} g in
    let l : t / 2 ^ k < 2 ^ 63 = (div-lt_iff_lt-mul {k = 2 ^ k} {x = t} {y = 2 ^ 63} (pow_pos k)).1 (omega arith) in
    omega arith

pub twice_lt : (t k : ℕ) → t < 2 ^ 64 → 1 ≤ k → 2 * (t / 2 ^ k) < 2 ^ 64
twice_lt t k h g = omega (arith, twice_more_lt t k h g)

module _ (t k : ℕ) (h : t < 2 ^ 64) where
  back : t / 2 ^ k * 2 ^ k % 2 ^ 64 ≡ t / 2 ^ k * 2 ^ k
  back = mod-eq_of_lt (omega (arith, split t k))

  pub place_whole : t / 2 ^ k * 2 ^ k % 2 ^ 64 ≡ t → 2 * (t / 2 ^ k) ≡ place t (2 ^ k)
  unfolding place
  place_whole e = let z : t % 2 ^ k ≡ 0 = omega (arith, split t k, back) in rw (z, add-zero)

  pub place_rest : (t / 2 ^ k * 2 ^ k % 2 ^ 64 ≡ t → ⊥) → 2 * (t / 2 ^ k) + 1 ≡ place t (2 ^ k)
  unfolding place
  place_rest e = let z : more (t % 2 ^ k) ≡ 1 = omega (arith, split t k, back) in rw z

-- ---- bounds on a place

pub place_lt : (n d c : ℕ) → 0 < d → n < c * d → place n d < 2 * c
unfolding place
place_lt n d c hd h = let l : n / d < c = (div-lt_iff_lt-mul hd).1 h in omega arith

pub place_ge : (n d c : ℕ) → 0 < d → c * d ≤ n → 2 * c ≤ place n d
unfolding place
place_ge n d c hd h = let l : c ≤ n / d = (le-div_iff_mul-le hd).1 h in omega arith

-- a place compares with whole numbers as the ratio does
pub place_cut : (N d c : ℕ) → 0 < d → compare N (c * d) ≡ compare (place N d) (2 * c)
unfolding place
place_cut N d c hd = go (compare N (c * d)) (cmp N (c * d))
  where
    go : (o : Ordering) → Cmp o N (c * d) → o ≡ compare (place N d) (2 * c)
    go Ordering.lt p = sym (cmp_lt _ _ (place_lt N d c hd p))
    go Ordering.eq p = sym (cmp_eq _ _ (rw (p, mul-div_cancel c {n = d} hd, mul-mod_left c d) (omega arith)))
    go Ordering.gt p =
        let l : c ≤ N / d = (le-div_iff_mul-le hd).1 (le_of_lt p) in
        let e : N / d * d + N % d ≡ N = div-add-mod' N d in
        sym (cmp_gt _ _ (inner (leb (N / d) c) refl l e))
      where
        inner : (b : Bool) → leb (N / d) c ≡ b → c ≤ N / d → N / d * d + N % d ≡ N → 2 * c < 2 * (N / d) + more (N % d)
        inner true f l e =
            let q : N / d ≡ c = let u : N / d ≤ c = leb-true _ _ f in omega arith in
            let g : N / d * d ≡ c * d = ap (λ (y : ℕ). y * d) q in omega arith
        inner false f l e = let u : c < N / d = leb-false _ _ f in omega arith

-- dropping two bits or more leaves 63
pub place_half : (t k : ℕ) → t < 2 ^ 64 → 2 ≤ k → {z : ℕ} → z ≡ place t (2 ^ k) → z < 2 ^ 63
place_half t k h g e =
    let p : 2 ^ 2 ≤ 2 ^ k = pow_mono {i = 2} {j = k} g in
    let l : 2 ^ 62 * 2 ^ 2 ≤ 2 ^ 62 * 2 ^ k = mul-le-mul {n₁ = 2 ^ 62} {m₁ = 2 ^ 2} (le_of_eq refl) p in
    omega (arith, place_lt t (2 ^ k) (2 ^ 62) (pow_pos k) (lt_of_lt_of_le h l))
