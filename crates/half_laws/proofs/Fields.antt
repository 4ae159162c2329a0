-- The number of a half that is put together of its fields, and a sign before them.
use Prim.Native.Nat.{ℕ, suc, ◌+◌, ◌*◌, ◌/◌, ◌%◌, ◌^◌, ◌≤◌, ◌<◌}
use mathlib.Core.Bool.{Bool, true, false}
use mathlib.Core.Path.{◌≡◌, refl, ap, ◌∙◌}
use native.Mathlib.Omega.{arith}
use lib.Dec.{ltb}
use borrow.Author.Tests.{eq-eqb, ne_eqb, ltb-true, ltb-false}
use Rattle.half.specs.Format.{exponent_field, fraction_field, is_finite, negative, with_sign, units}
use Rattle.half.proofs.Encoding.{units_small, units_large}

-- the number of the fields of q * 2 ^ k
pub units_fields : (k q : ℕ) → q ≤ 2048 → (q < 1024 → k ≡ 0) → k * 1024 + q < 32768 → units (k * 1024 + q) ≡ q * 2 ^ k
units_fields k q hi lo fits = go (ltb q 1024) (ltb q 2048) refl refl
  where
    go : (a b : Bool) → ltb q 1024 ≡ a → ltb q 2048 ≡ b → units (k * 1024 + q) ≡ q * 2 ^ k
    go true b e f =
        let l : q < 1024 = ltb-true _ _ e in
        let z : k ≡ 0 = lo l in
        rw z (units_small (0 * 1024 + q) (omega arith) ∙ (let y : (0 * 1024 + q) % 1024 * 2 ^ 0 ≡ q * 2 ^ 0 = omega arith in y))
    go false true e f =
        let l : 1024 ≤ q = ltb-false _ _ e in
        let h : q < 2048 = ltb-true _ _ f in
        units_large (k * 1024 + q) k (omega arith) ∙ ap (λ (y : ℕ). y * 2 ^ k) (let y : 1024 + (k * 1024 + q) % 1024 ≡ q = omega arith in y)
    go false false e f =
        let l : 2048 ≤ q = ltb-false _ _ f in
        let s : q ≡ 2048 = omega arith in
        units_large (k * 1024 + q) (suc k) (omega arith) ∙ ap (λ (y : ℕ). y * 2 ^ suc k)
        (let y : 1024 + (k * 1024 + q) % 1024 ≡ 1024 = omega arith in y) ∙ rw s (omega arith)

-- ---- a sign before the fields

pub signed_lt : (s : Bool) (m : ℕ) → m < 32768 → with_sign s m < 2 ^ 16
signed_lt true m h = omega arith
signed_lt false m h = omega arith

pub signed_le : (s : Bool) (m n : ℕ) → m ≤ n → with_sign s m ≤ with_sign s n
signed_le true m n h = omega arith
signed_le false m n h = h

pub signed_even : (s : Bool) (m : ℕ) → m % 2 ≡ 0 → with_sign s m % 2 ≡ 0
signed_even true m e = omega arith
signed_even false m e = e

pub signed_negative : (s : Bool) (m : ℕ) → m < 32768 → negative (with_sign s m) ≡ s
signed_negative true m h = eq-eqb ((32768 + m) / 32768) 1 (omega arith)
signed_negative false m h = ne_eqb (m / 32768) 1 (λ (e : m / 32768 ≡ 1). omega arith)

signed_exponent : (s : Bool) (m : ℕ) → exponent_field (with_sign s m) ≡ exponent_field m
signed_exponent true m = omega arith
signed_exponent false m = refl

signed_fraction : (s : Bool) (m : ℕ) → fraction_field (with_sign s m) ≡ fraction_field m
signed_fraction true m = omega arith
signed_fraction false m = refl

pub signed_finite : (s : Bool) (m : ℕ) → m < 31744 → is_finite (with_sign s m) ≡ true
signed_finite s m h = rw (signed_exponent s m, ne_eqb (exponent_field m) 31 (λ (e : exponent_field m ≡ 31). omega arith))

pub signed_units : (s : Bool) (m : ℕ) → units (with_sign s m) ≡ units m
unfolding units
signed_units s m = rw (signed_exponent s m, signed_fraction s m)

-- a half is its own sign and fields
pub signed_back : (h : ℕ) → h < 2 ^ 16 → with_sign (negative h) (h % 32768) ≡ h
signed_back h l = go (ltb h 32768) refl
  where
    go : (b : Bool) → ltb h 32768 ≡ b → with_sign (negative h) (h % 32768) ≡ h
    go true e =
        let k : h < 32768 = ltb-true _ _ e in
        rw (ne_eqb (h / 32768) 1 (λ (e : h / 32768 ≡ 1). omega arith)) (omega arith)
    go false e =
        let k : 32768 ≤ h = ltb-false _ _ e in
        rw (eq-eqb (h / 32768) 1 (omega arith)) (omega arith)
