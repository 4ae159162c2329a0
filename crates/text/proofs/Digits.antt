-- The digits of a number: how many there are, and that a limit that is large enough does not show. Eight hex digits by shifts.
-- Assumes nothing.
use Prim.Native.Nat.{ℕ, zero, suc, ◌+◌, ◌-◌, ◌*◌, ◌/◌, ◌%◌, ◌^◌, ◌≤◌, ◌<◌}
use mathlib.Core.Path.{◌≡◌, refl, sym, ap, ◌∙◌}
use mathlib.Core.Bool.{Bool, true, false, cond}
use mathlib.Core.List.{List, [], ◌∷◌, ◌++◌}
use native.Mathlib.Omega.{arith}
use native.Mathlib.Nat.{pow-suc}
use borrow.Author.Tests.{lt-ltb, le-ltb}
use lib.Dec.{ltb}
use lib.ListN.{length, length-append}
use lib.Pow.{pow-add}
use Rattle.lists.proofs.Tables.{length-table}
use Rattle.text.specs.Text.{decimal_of, decimal, hex8}

-- at most n of them
pub digits_most : (n x : ℕ) → length (decimal_of n x) ≤ n
unfolding decimal_of
digits_most zero x = omega arith
digits_most (suc n) x = go (ltb x 10) (digits_most n (x / 10))
  where
    go : (t : Bool) → length (decimal_of n (x / 10)) ≤ n
        → length (cond t ((48 + x) ∷ []) (decimal_of n (x / 10) ++ ((48 + x % 10) ∷ []))) ≤ suc n
    go true h = omega arith
    go false h = simp length-append (omega arith)

-- one digit more is no other text, where n are enough
digits_enough : (n x : ℕ) → x < 10 ^ suc n → decimal_of (suc (suc n)) x ≡ decimal_of (suc n) x
unfolding decimal_of
digits_enough zero x h = rw (lt-ltb x 10 h)
digits_enough (suc n) x h =
    let e : decimal_of (suc (suc n)) (x / 10) ≡ decimal_of (suc n) (x / 10) = digits_enough n (x / 10) (omega (arith, pow-suc 10 (suc n))) in
    ap (λ (l : List ℕ). cond (ltb x 10) ((48 + x) ∷ []) (l ++ ((48 + x % 10) ∷ []))) e

digits_large : (n x : ℕ) → 10 ≤ x → x / 10 < 10 ^ suc n
    → decimal_of (suc (suc n)) x ≡ decimal_of (suc (suc n)) (x / 10) ++ ((48 + x % 10) ∷ [])
unfolding decimal_of
digits_large n x h k = rw (le-ltb x 10 h) (ap (λ (l : List ℕ). l ++ ((48 + x % 10) ∷ [])) (sym (digits_enough n (x / 10) k)))

pub decimal_most : (x : ℕ) → length (decimal x) ≤ 20
unfolding decimal
decimal_most x = digits_most 20 x

-- no more than a power of ten says
digits_below : (m n x : ℕ) → x < 10 ^ suc n → length (decimal_of m x) ≤ suc n
unfolding decimal_of
digits_below zero n x h = omega arith
digits_below (suc m) zero x h = rw (lt-ltb x 10 h) (omega arith)
digits_below (suc m) (suc n) x h = go (ltb x 10) (digits_below m n (x / 10) (omega (arith, pow-suc 10 (suc n))))
  where
    go : (t : Bool) → length (decimal_of m (x / 10)) ≤ suc n
        → length (cond t ((48 + x) ∷ []) (decimal_of m (x / 10) ++ ((48 + x % 10) ∷ []))) ≤ suc (suc n)
    go true h = omega arith
    go false h = simp length-append (omega arith)

pub decimal_short : (n x : ℕ) → x < 10 ^ suc n → length (decimal x) ≤ suc n
unfolding decimal
decimal_short n x h = digits_below 20 n x h

pub decimal_small : (x : ℕ) → x < 10 → decimal x ≡ (48 + x) ∷ []
unfolding decimal decimal_of
decimal_small x h = rw (lt-ltb x 10 h)

pub decimal_large : (x : ℕ) → 10 ≤ x → x < 2 ^ 64 → decimal x ≡ decimal (x / 10) ++ ((48 + x % 10) ∷ [])
unfolding decimal
decimal_large x h k = digits_large 18 x h (omega arith)

pub decimal_shorter : (x : ℕ) → 10 ≤ x → x < 2 ^ 64 → length (decimal (x / 10)) ≤ 19
decimal_shorter x h k = omega (arith, decimal_most x, simp length-append at (ap length (decimal_large x h k)))

hex_unit : (m : ℕ) → 16 ^ m ≡ 2 ^ (4 * m)
hex_unit zero = refl
hex_unit (suc m) =
    let e : 4 * suc m ≡ 4 * m + 4 = omega arith in
    pow-suc 16 m ∙ ap (λ (n : ℕ). n * 16) (hex_unit m) ∙ sym (pow-add 2 (4 * m) 4) ∙ ap (λ (n : ℕ). 2 ^ n) (sym e)

pub hex_shift : (k : ℕ) → k < 8 → 2 ^ (28 - 4 * k) ≡ 16 ^ (7 - k)
hex_shift k h =
    let e : 4 * (7 - k) ≡ 28 - 4 * k = omega arith in
    sym (hex_unit (7 - k) ∙ ap (λ (n : ℕ). 2 ^ n) e)

pub hex_eight : (x : ℕ) → length (hex8 x) ≡ 8
unfolding hex8
hex_eight x = length-table 8 _
