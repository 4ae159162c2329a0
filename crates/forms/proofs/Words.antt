-- Numbers by their bits: which bits the number with given ones has, and that it is below 2 to their count; a number is that of its own.
-- Assumes nothing.
use Prim.Native.Nat.{ℕ, zero, suc, ◌+◌, ◌/◌, ◌%◌, ◌<◌, ◌≤◌, ◌^◌}
use mathlib.Core.Bool.{Bool, true, false, cond}
use mathlib.Core.Path.{◌≡◌, refl}
use mathlib.Core.Logic.{◌⊎◌, inl, inr}
use native.Mathlib.Nat.{eq-or-lt_of_le}
use native.Mathlib.Numerals.{add-one}
use native.Mathlib.Omega.{arith}
use lib.Dec.{eqb, lit≤}
use lib.Pow.{mod-pow-add}
use Rattle.lists.specs.Lists.{Each, table, binary}
use Rattle.lists.proofs.Tests.{either}
use Rattle.lists.proofs.Tables.{get_or-table, each_table}
use Rattle.lists.proofs.Binary.{digit_is, binary_next, binary_below}
use Rattle.evex.specs.Bits.{is_set}

abbrev pub digit : (ℕ → Bool) → ℕ → ℕ
digit p i = cond (p i) 1 0

abbrev pub word_of : ℕ → (ℕ → Bool) → ℕ
word_of n p = binary (table n (digit p))

small : (p : ℕ → Bool) (i : ℕ) → digit p i ≤ 1
small p i = either (λ x. x ≤ 1) (p i) (lit≤ tt) (lit≤ tt)

pub word_below : (n : ℕ) (p : ℕ → Bool) → word_of n p < 2 ^ n
word_below n p = binary_below n (digit p) (small p)

digits : (n : ℕ) (p : ℕ → Bool) → Each (λ b. b ≤ 1) (table n (digit p))
digits n p = each_table (λ b. b ≤ 1) n (digit p) (λ k h. small p k)

is_digit : (b : Bool) → eqb (cond b 1 0) 1 ≡ b
is_digit true = refl
is_digit false = refl

pub word_bit : (n : ℕ) (p : ℕ → Bool) (i : ℕ) → i < n → is_set (word_of n p) i ≡ p i
word_bit n p i h = rw (digit_is (table n (digit p)) (digits n p) i, get_or-table n (digit p) i 0 h) (is_digit (p i))

-- a bit, as the digit that it is
as_digit : (b : ℕ) → b < 2 → cond (eqb b 1) 1 0 ≡ b
as_digit b h = go (eq-or-lt_of_le {n = b} {m = 1} (omega arith))
  where
    go : (b ≡ 1) ⊎ (b < 1) → cond (eqb b 1) 1 0 ≡ b
    go (inl e) = rw e
    go (inr l) = let e : b ≡ 0 = omega arith in rw e

no_digits : (p : ℕ → Bool) → word_of 0 p ≡ 0
unfolding table
no_digits p = refl

pub word_of_bits : (n w : ℕ) → word_of n (is_set w) ≡ w % 2 ^ n
word_of_bits zero w = omega (arith, no_digits (is_set w))
word_of_bits (suc n) w =
    let e : suc n ≡ 1 + n = omega arith in
    rw (
      ← add-one n,
      binary_next n (digit (is_set w)),
      word_of_bits n w,
      as_digit (w / 2 ^ n % 2) (omega arith),
      add-one n,
      e,
      mod-pow-add w 1 n,
    )
    (omega arith)
