-- The bytes of a number and the number of bytes: each is the other's inverse, by one byte more at a time.
-- Assumes nothing.
use Prim.Native.Nat.{ℕ, zero, suc, ◌+◌, ◌-◌, ◌*◌, ◌/◌, ◌%◌, ◌^◌, ◌<◌}
use mathlib.Core.Path.{◌≡◌, refl, ap, ap₂, ◌∙◌}
use mathlib.Core.List.{List, [], ◌∷◌, ◌++◌}
use native.Mathlib.Nat.{pow-succ', pow-zero, one-le-pow, mul_assoc, add-mul, add_assoc}
use native.Mathlib.Nat.{mod-eq_of_lt}
use native.Mathlib.Numerals.{add-one}
use native.Mathlib.Omega.{arith}
use lib.Arith.{digits_lt, digits_div, digits_mod, mod-mul}
use lib.Dec.{lit≤}
use lib.ListN.{length, get_or, take}
use lib.Pow.{pow-add}
use lib.Seq.{take-suc}
use Rattle.forms.specs.Numbers.{big, value_from}
use Rattle.lists.specs.Lists.{Each}

pub power_pos : (n : ℕ) → 0 < 256 ^ n
power_pos n = one-le-pow n 256 (lit≤ tt)

-- 256 to the n, as shifts have it
pub power_bits : (n : ℕ) → 256 ^ n ≡ 2 ^ (8 * n)
power_bits zero = refl
power_bits (suc n) =
    let e : 8 * suc n ≡ 8 + 8 * n = omega arith in
    rw (e, pow-add 2 8 (8 * n), ← power_bits n) (pow-succ' 256 n)

-- ---- the bytes of a number

pub length-big : (n x : ℕ) → length (big n x) ≡ n
unfolding big
length-big zero x = refl
length-big (suc n) x = ap suc (length-big n x)

pub get_or-big : (n x k : ℕ) → k < n → get_or (big n x) k 0 ≡ x / 256 ^ (n - 1 - k) % 256
unfolding big
get_or-big zero x k h = absurd (omega arith)
get_or-big (suc n) x zero h = ap (λ (m : ℕ). x / 256 ^ m % 256) (omega arith)
get_or-big (suc n) x (suc k) h = get_or-big n x k (omega arith) ∙ ap (λ (m : ℕ). x / 256 ^ m % 256) (omega arith)

-- ---- the number of bytes

-- one byte more
value_append : (y : ℕ) (l : List ℕ) (b : ℕ) → value_from y (l ++ (b ∷ [])) ≡ value_from y l * 256 + b
unfolding value_from
value_append y [] b = refl
value_append y (x ∷ l) b = value_append (y * 256 + x) l b

pub value_next : (l : List ℕ) (k : ℕ) → k < length l → value_from 0 (take (k + 1) l) ≡ value_from 0 (take k l) * 256 + get_or l k 0
value_next l k h = rw (add-one k, take-suc l k 0 h) (value_append 0 (take k l) (get_or l k 0))

shifted : (y b p v : ℕ) → (y * 256 + b) * p + v ≡ y * (256 * p) + (b * p + v)
shifted y b p v = rw (add-mul (y * 256) b p, mul_assoc y 256 p) (add_assoc (y * (256 * p)) (b * p) v)

-- what stands before the bytes counts 256 to their number
value_from_lem : (y : ℕ) (l : List ℕ) → value_from y l ≡ y * 256 ^ length l + value_from 0 l
unfolding value_from
value_from_lem y [] = omega (arith, pow-zero 256)
value_from_lem y (b ∷ l) =
    let z : 0 * 256 + b ≡ b = omega arith in
    value_from_lem (y * 256 + b) l ∙ rw (z, value_from_lem b l, pow-succ' 256 (length l)) (shifted y b (256 ^ length l) (value_from 0 l))

pub value_below : (l : List ℕ) → Each (λ b. b < 256) l → value_from 0 l < 256 ^ length l
unfolding value_from
value_below [] h = power_pos 0
value_below (b ∷ l) h =
    rw (value_from_lem (0 * 256 + b) l, pow-succ' 256 (length l)) (digits_lt {q = 0 * 256 + b} {m = 256} (omega arith) (value_below l h.1))

-- ---- there and back

value_big_from : (y n x : ℕ) → value_from y (big n x) ≡ y * 256 ^ n + x % 256 ^ n
unfolding big value_from
value_big_from y zero x = omega (arith, pow-zero 256)
value_big_from y (suc n) x =
    value_big_from (y * 256 + x / 256 ^ n % 256) n x
    ∙ rw (pow-succ' 256 n, mod-mul x {m = 256} {c = 256 ^ n} (lit≤ tt) (power_pos n))
    (shifted y (x / 256 ^ n % 256) (256 ^ n) (x % 256 ^ n))

pub value_big : (n x : ℕ) → x < 256 ^ n → value_from 0 (big n x) ≡ x
value_big n x h = value_big_from 0 n x ∙ rw (mod-eq_of_lt h) (omega arith)

big_value_from : (y : ℕ) (l : List ℕ) → Each (λ b. b < 256) l → big (length l) (value_from y l) ≡ l
unfolding big value_from
big_value_from y [] h = refl
big_value_from y (b ∷ l) h =
    ap₂ ◌∷◌
    (rw (value_from_lem (y * 256 + b) l, digits_div (y * 256 + b) (value_below l h.1)) (digits_mod y h.0))
    (big_value_from (y * 256 + b) l h.1)

pub big_value : (n : ℕ) (l : List ℕ) → length l ≡ n → Each (λ b. b < 256) l → big n (value_from 0 l) ≡ l
big_value n l e h = rw (← e) (big_value_from 0 l h)
