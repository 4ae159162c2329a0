-- The bits of a number, one by one (`is_set`): of `&`, `|` and `^`, of 2 ^ n - 1, of shifts and remainders.
-- Assumes nothing.
use Prim.Native.Nat.{ℕ, zero, suc, ◌+◌, ◌-◌, ◌*◌, ◌/◌, ◌%◌, ◌^◌, ◌<◌, ◌≤◌}
use mathlib.Core.Path.{◌≡◌, refl, sym, ◌∙◌}
use mathlib.Core.Logic.{◌↔◌, ◌≢◌}
use mathlib.Core.Bool.{Bool, true, false, not, ◌&&◌, ◌||◌, and-true, and-eq-true_iff, false≢true}
use native.Mathlib.Decide.{dec_lt}
use native.Mathlib.Nat.{zero-div, one-mul, div-eq_of_lt, lt_of_lt_of_le, mod-lt}
use native.Mathlib.Omega.{arith}
use borrow.Author.Tests.{lt-ltb, le-ltb, eq-eqb, ne_eqb, eqb-false, not-true}
use lib.Arith.{digits_div}
use lib.Bits.{bit_and, bit_or, bit_xor, and_shr, and_mod, or_shr, or_mod, xor_shr, xor_mod, and_mask, and_high}
use lib.Dec.{eqb, ltb}
use lib.Pow.{pow_pos, pow_mono, ones_lt, ones_split, high_ones, shr-shr}
use Rattle.lists.proofs.Tables.{meets}
use Rattle.evex.specs.Bits.{bits, is_set, inverted}
use Rattle.evex.proofs.Shifts.{turned}

-- ---- an operation that goes bit by bit, from what it does with 0 and 1

module _ (op : ℕ → ℕ → ℕ) (f : Bool → Bool → Bool)
    (shifted : (a b k : ℕ) → op a b / 2 ^ k ≡ op (a / 2 ^ k) (b / 2 ^ k))
    (rest : (a b k : ℕ) → op a b % 2 ^ k ≡ op (a % 2 ^ k) (b % 2 ^ k))
    (none : eqb (op 0 0) 1 ≡ f false false) (right : eqb (op 0 1) 1 ≡ f false true)
    (left : eqb (op 1 0) 1 ≡ f true false) (both : eqb (op 1 1) 1 ≡ f true true) where
  digit : (x y : ℕ) → x < 2 → y < 2 → eqb (op x y) 1 ≡ f (eqb x 1) (eqb y 1)
  digit zero zero h k = none
  digit zero (suc zero) h k = right
  digit (suc zero) zero h k = left
  digit (suc zero) (suc zero) h k = both
  digit zero (suc (suc y)) h k = absurd (omega arith)
  digit (suc zero) (suc (suc y)) h k = absurd (omega arith)
  digit (suc (suc x)) y h k = absurd (omega arith)

  bit_of : (a b j : ℕ) → is_set (op a b) j ≡ f (is_set a j) (is_set b j)
  bit_of a b j =
      rw (shifted a b j, rest (a / 2 ^ j) (b / 2 ^ j) 1) (digit (a / 2 ^ j % 2 ^ 1) (b / 2 ^ j % 2 ^ 1) (omega arith) (omega arith))

abbrev pub differs : Bool → Bool → Bool
differs true b = not b
differs false b = b

pub and_bit : (a b j : ℕ) → is_set (bit_and a b) j ≡ (is_set a j && is_set b j)
and_bit = bit_of bit_and ◌&&◌ and_shr and_mod refl refl refl refl

pub or_bit : (a b j : ℕ) → is_set (bit_or a b) j ≡ (is_set a j || is_set b j)
or_bit = bit_of bit_or ◌||◌ or_shr or_mod refl refl refl refl

pub xor_bit : (a b j : ℕ) → is_set (bit_xor a b) j ≡ differs (is_set a j) (is_set b j)
xor_bit = bit_of bit_xor differs xor_shr xor_mod refl refl refl refl

-- ---- the bits of 2 ^ n - 1: those below n

ones_high : {n : ℕ} (m j : ℕ) → suc m + j ≡ n → (2 ^ n - 1) / 2 ^ j ≡ 2 ^ suc m - 1
ones_high m j e = rw (← e, ones_split (suc m) j) (digits_div (2 ^ suc m - 1) (ones_lt j))

ones_odd : (m : ℕ) → (2 ^ suc m - 1) % 2 ≡ 1
ones_odd m = omega (arith, pow_pos m)

pub ones_bit : (n j : ℕ) → is_set (2 ^ n - 1) j ≡ ltb j n
ones_bit n j =
    elim (dec_lt j n) [
      | yes h ↦
          let e : suc (n - j - 1) + j ≡ n = omega arith in
          rw (lt-ltb j n h, ones_high (n - j - 1) j e) (eq-eqb ((2 ^ suc (n - j - 1) - 1) % 2) 1 (ones_odd (n - j - 1)))
      | no h ↦
          let k : n ≤ j = omega arith in
          let e : (2 ^ n - 1) / 2 ^ j ≡ 0 = div-eq_of_lt (lt_of_lt_of_le (ones_lt n) (pow_mono k)) in
          rw (le-ltb j n k, e)
    ]

-- a number below 2 ^ n has none from n on
pub bit_above : (x n j : ℕ) → x < 2 ^ n → n ≤ j → is_set x j ≡ false
bit_above x n j h l =
    let e : x / 2 ^ j ≡ 0 = div-eq_of_lt (lt_of_lt_of_le h (pow_mono l)) in
    rw e

pub no_bit : (j : ℕ) → is_set 0 j ≡ false
no_bit j = rw (zero-div (2 ^ j))

-- `^` with 2 ^ n - 1 turns each bit below n
pub flipped_bit : (x n j : ℕ) → j < n → is_set (bit_xor x (2 ^ n - 1)) j ≡ not (is_set x j)
flipped_bit x n j h = xor_bit x (2 ^ n - 1) j ∙ rw (ones_bit n j, lt-ltb j n h) (go (is_set x j))
  where
    go : (t : Bool) → differs t true ≡ not t
    go true = refl
    go false = refl

-- ---- bits that are taken from a number

shifted_bit : (x k j : ℕ) → is_set (x / 2 ^ k) j ≡ is_set x (k + j)
shifted_bit x k j = rw (shr-shr x k j)

low_bit : (x n j : ℕ) → j < n → is_set (x % 2 ^ n) j ≡ is_set x j
low_bit x n j h = rw (← and_mask x n, and_bit x (2 ^ n - 1) j, ones_bit n j, lt-ltb j n h) (and-true (is_set x j))

pub inverted_bit : (x at width j : ℕ) → j < width → is_set (inverted x at width) j ≡ not (is_set x (at + j))
inverted_bit x at width j h =
    let m : ℕ = bits x at width in
    rw (
      ← turned m width (mod-lt (x / 2 ^ at) (pow_pos width)),
      flipped_bit m width j h,
      low_bit (x / 2 ^ at) width j h,
      shifted_bit x at j,
    )

-- ---- a bit that two numbers share

-- a number other than 0 has one
some_bit : (n x : ℕ) → x ≤ n → x ≢ 0 → (j : ℕ) × (is_set x j ≡ true)
some_bit zero x h z = absurd (z (omega arith))
some_bit (suc n) x h z =
    elim (dec_lt (x % 2) 1) [
      | yes e ↦
          let r : (j : ℕ) × (is_set (x / 2) j ≡ true) = some_bit n (x / 2) (omega arith) (λ k. z (omega arith)) in
          (1 + r.0, sym (shifted_bit x 1 r.0) ∙ r.1)
      | no e ↦ (0, eq-eqb (x / 2 ^ 0 % 2 ^ 1) 1 (omega arith))
    ]

pub meets_bit : (x y : ℕ) → (meets y x ≡ true) ↔ ((j : ℕ) × (is_set x j ≡ true) × (is_set y j ≡ true))
meets_bit x y = (
  (λ e.
      let r : (j : ℕ) × (is_set (bit_and x y) j ≡ true) =
      some_bit (bit_and x y) (bit_and x y) (omega arith) (eqb-false (bit_and x y) 0 (not-true _ e)) in
      let b : (is_set x r.0 ≡ true) × (is_set y r.0 ≡ true) = (and-eq-true_iff _ _).0 (sym (and_bit x y r.0) ∙ r.1) in
      (r.0, b.0, b.1)),
  (λ r.
      let none : bit_and x y ≢ 0 =
      λ e. false≢true (sym (no_bit r.0) ∙ rw (← e) (and_bit x y r.0 ∙ rw (r.1, r.2))) in
      rw (ne_eqb (bit_and x y) 0 none)),
)

-- what meets a part of the bits of x meets x
pub meets_part : (x y m : ℕ) → meets y (bit_and x m) ≡ true → meets y x ≡ true
meets_part x y m e =
    let r : (j : ℕ) × (is_set (bit_and x m) j ≡ true) × (is_set y j ≡ true) = (meets_bit (bit_and x m) y).0 e in
    (meets_bit x y).1 (r.0, ((and-eq-true_iff _ _).0 (sym (and_bit x m r.0) ∙ r.1)).0, r.2)

-- `&` with a single bit asks for that bit
pub single_bit : (x j : ℕ) → (is_set x j ≡ true) ↔ (bit_and x (2 ^ j) ≢ 0)
single_bit x j =
    let one : 2 ^ (1 + j) - 2 ^ j ≡ 2 ^ j = high_ones 1 j ∙ one-mul (2 ^ j) in
    let e : bit_and x (2 ^ j) ≡ x / 2 ^ j % 2 ^ 1 * 2 ^ j = rw one at (and_high x 1 j) in
    rw e (go (x / 2 ^ j % 2 ^ 1) (omega arith))
  where
    go : (d : ℕ) → d < 2 → (eqb d 1 ≡ true) ↔ (d * 2 ^ j ≢ 0)
    go zero h = ((λ e. absurd (false≢true e)), (λ z. absurd (z (omega arith))))
    go (suc zero) h = ((λ _ e. omega (arith, pow_pos j)), (λ _. refl))
    go (suc (suc d)) h = absurd (omega arith)
