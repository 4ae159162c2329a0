-- The fields that `encode` writes are those that `units` reads, and a larger number has larger fields.
use Prim.Native.Nat.{ℕ, zero, suc, ◌+◌, ◌-◌, ◌*◌, ◌/◌, ◌%◌, ◌^◌, ◌≤◌, ◌<◌}
use mathlib.Core.Bool.{Bool, true, false}
use mathlib.Core.Path.{◌≡◌, refl, sym, ap, ◌∙◌}
use native.Mathlib.Omega.{arith}
use native.Mathlib.Nat.{le_trans, le_of_eq, lt_of_lt_of_le, lt_of_le_of_lt, le-div_iff_mul-le, div-lt_iff_lt-mul}
use lib.Dec.{ltb}
use lib.Pow.{pow_pos, pow_mono, pow-add, shr_mono}
use lib.Ieee.{size}
use lib.Ieee.Digits.{size-lt, size-le, size_reaches}
use borrow.Author.Tests.{ne_eqb, ltb-true, ltb-false}
use Rattle.half.specs.Format.{exponent_field, fraction_field, units}
use Rattle.half.specs.Round.{encode}
use Rattle.half.proofs.Bridge.{encode_is}

-- ---- units, by the exponent field

pub units_small : (n : ℕ) → exponent_field n ≡ 0 → units n ≡ fraction_field n * 2 ^ 0
unfolding units
units_small n e = rw e

pub units_large : (n e : ℕ) → exponent_field n ≡ suc e → units n ≡ (1024 + fraction_field n) * 2 ^ e
unfolding units
units_large n e h = let d : suc e - 1 ≡ e = omega arith in rw (h, d, ne_eqb (suc e) 0 (λ (z : suc e ≡ 0). omega arith))

-- the fields of a half's number are the half's
pub encode-units : (h : ℕ) → encode (units h) ≡ h % 32768
encode-units h = go (exponent_field h) refl
  where
    go : (e : ℕ) → exponent_field h ≡ e → encode (units h) ≡ h % 32768
    go zero e =
        ap encode (units_small h e) ∙ encode_is 0 (fraction_field h) (omega arith) (λ (z : fraction_field h < 1024). refl)
        ∙ (let y : 0 * 1024 + h % 1024 ≡ h % 32768 = omega arith in y)
    go (suc e) p =
        ap encode (units_large h e p) ∙ encode_is e (1024 + fraction_field h) (omega arith)
        (λ (z : 1024 + fraction_field h < 1024). omega arith) ∙ (let y : e * 1024 + (1024 + h % 1024) ≡ h % 32768 = omega arith in y)

-- ---- a larger number has larger fields
pub encode_mono : (m n : ℕ) → m ≤ n → encode m ≤ encode n
unfolding encode
encode_mono m n h = go (ltb (size m - 11) (size n - 11)) refl
  where
    sizes : size m ≤ size n
    sizes = size-le m (size n) (lt_of_le_of_lt h (size-lt n))

    top : m / 2 ^ (size m - 11) < 2048
    top =
        (div-lt_iff_lt-mul (pow_pos (size m - 11))).1
        (lt_of_lt_of_le (size-lt m) (le_trans (pow_mono {i = size m} {j = 11 + (size m - 11)} (omega arith))
        (le_of_eq (pow-add 2 11 (size m - 11)))))

    go : (b : Bool) → ltb (size m - 11) (size n - 11) ≡ b
        → (size m - 11) * 1024 + m / 2 ^ (size m - 11) ≤ (size n - 11) * 1024 + n / 2 ^ (size n - 11)
    go true e =
        let l : size m - 11 < size n - 11 = ltb-true _ _ e in
        let b : 1024 ≤ n / 2 ^ (size n - 11) =
        (le-div_iff_mul-le (pow_pos (size n - 11))).1
        (le_trans (le_of_eq (sym (pow-add 2 10 (size n - 11)))) (size_reaches n (10 + (size n - 11)) (omega arith))) in
        omega (arith, top)
    go false e =
        let s : size m - 11 ≡ size n - 11 = let l : size n - 11 ≤ size m - 11 = ltb-false _ _ e in omega (arith, sizes) in
        rw s (let q : m / 2 ^ (size n - 11) ≤ n / 2 ^ (size n - 11) = shr_mono (size n - 11) h in omega arith)
