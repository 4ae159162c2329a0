-- A number's binary digits are those that it is put together of.
-- Assumes nothing.
use Prim.Native.Nat.{ℕ, zero, suc, ◌+◌, ◌*◌, ◌/◌, ◌%◌, ◌^◌, ◌<◌, ◌≤◌}
use mathlib.Core.List.{List, [], ◌∷◌, ◌++◌}
use mathlib.Core.Path.{◌≡◌, refl, sym, subst, ◌∙◌}
use native.Mathlib.Nat.{zero-div, add_comm, mul_assoc, mul_comm, mul-le-mul_right, pow-succ'}
use native.Mathlib.Numerals.{add-one}
use native.Mathlib.Omega.{arith}
use lib.Bits.{bit_or, or_shifted_r}
use lib.ListN.{length, get_or}
use lib.Pow.{pow-add, shr-shr}
use Rattle.lists.specs.Lists.{Each, or_all, table, binary}
use Rattle.lists.proofs.Tables.{table_next, length-table, or_next}

pub digit_is : (bs : List ℕ) → Each (λ b. b ≤ 1) bs → (j : ℕ) → binary bs / 2 ^ j % 2 ≡ get_or bs j 0
digit_is [] h j = rw (zero-div (2 ^ j))
digit_is (b ∷ bs) h zero = let k : b ≤ 1 = h.0 in omega arith
digit_is (b ∷ bs) h (suc j) =
    let k : b ≤ 1 = h.0 in
    let half : (b + 2 * binary bs) / 2 ^ 1 ≡ binary bs = omega arith in
    let up : suc j ≡ 1 + j = omega arith in
    rw (up, ← shr-shr (b + 2 * binary bs) 1 j, half) (digit_is bs h.1 j)

-- ---- or-ed, each at its place

-- more digits, at the highest places
pub appended : (xs ys : List ℕ) → binary (xs ++ ys) ≡ binary xs + binary ys * 2 ^ length xs
appended [] ys = omega arith
appended (x ∷ xs) ys =
    let n : ℕ = length xs in
    let b : ℕ = binary ys in
    let up : b * 2 ^ suc n ≡ 2 * (b * 2 ^ n) = rw (pow-succ' 2 n, ← mul_assoc b 2 (2 ^ n), mul_comm b 2) (mul_assoc 2 b (2 ^ n)) in
    rw (appended xs ys, up) (omega arith)

pub binary_next : (n : ℕ) (f : ℕ → ℕ) → binary (table (n + 1) f) ≡ binary (table n f) + f n * 2 ^ n
binary_next n f =
    let one : binary (f n ∷ []) ≡ f n = omega arith in
    rw (table_next n f, appended (table n f) (f n ∷ []), length-table n f, one)

record Joined (f : ℕ → ℕ) (n : ℕ) : Type 0 where
  is : or_all (table n (λ j. f j * 2 ^ j)) ≡ binary (table n f)
  below : binary (table n f) < 2 ^ n

joined : (f : ℕ → ℕ) → ((j : ℕ) → f j ≤ 1) → (n : ℕ) → Joined f n
unfolding table
joined f h zero = record { is = refl; below = omega arith }
joined f h (suc n) =
    let J : Joined f n = joined f h n in
    let top : f n * 2 ^ n ≤ 1 * 2 ^ n = mul-le-mul_right (2 ^ n) (h n) in
    subst (Joined f) (add-one n)
    (record {
      is =
          or_next n (λ j. f j * 2 ^ j) ∙ rw (J.is, or_shifted_r (f n) n (binary (table n f)) J.below, binary_next n f)
          (add_comm (f n * 2 ^ n) (binary (table n f)));
      below = rw (binary_next n f, pow-add 2 n 1) (omega (arith, J.below));
    })

pub or_joined : (n : ℕ) (f : ℕ → ℕ) → ((j : ℕ) → f j ≤ 1) → or_all (table n (λ j. f j * 2 ^ j)) ≡ binary (table n f)
or_joined n f h = (joined f h n).is

pub binary_below : (n : ℕ) (f : ℕ → ℕ) → ((j : ℕ) → f j ≤ 1) → binary (table n f) < 2 ^ n
binary_below n f h = (joined f h n).below

-- ---- 32 digits, of which 16 are put together at a time

pub from_halves : (f : ℕ → ℕ) {low high : ℕ} → low ≡ binary (table 16 (λ k. f (0 + k))) → high ≡ binary (table 16 (λ k. f (16 + k)))
    → low < 2 ^ 16 → bit_or low (high * 2 ^ 16) ≡ binary (table 32 f)
unfolding table
from_halves f {low} {high} e g h =
    or_shifted_r high 16 low h ∙ add_comm (high * 2 ^ 16) low ∙ rw (e, g)
    (sym (appended (table 16 f) (table 16 (λ k. f (16 + k)))))
