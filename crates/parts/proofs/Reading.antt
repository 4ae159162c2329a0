-- The loop that reads a number: after k turns x is the number of the first k bytes.
-- Assumes nothing.
use Prim.Native.Nat.{ℕ, ◌+◌, ◌*◌, ◌^◌, ◌≤◌, ◌<◌}
use mathlib.Core.Path.{◌≡◌, refl, sym, ap, ◌∙◌}
use mathlib.Core.List.{List}
use native.Mathlib.Nat.{pow-suc, pow-le-pow_right, lt_of_lt_of_le}
use native.Mathlib.Numerals.{add-one}
use native.Mathlib.Omega.{arith}
use lib.Arith.{digits_lt}
use lib.Dec.{lit≤}
use lib.ListN.{length, get_or, take}
use lib.Seq.{take_all}
use Rattle.forms.specs.Numbers.{value_from}
use Rattle.forms.proofs.Numbers.{power_pos, value_next}

-- x is the number of the first k bytes
pub record Reading (l : List ℕ) (x k : ℕ) : Type 0 where
  pub few : length l ≤ 8
  pub within : k ≤ length l
  pub is : x ≡ value_from 0 (take k l)
  pub below : x < 256 ^ k

pub nothing_read : (l : List ℕ) → length l ≤ 8 → Reading l 0 0
unfolding value_from
nothing_read l h = record { few = h; within = omega arith; is = refl; below = power_pos 0 }

module _ {l : List ℕ} {x k : ℕ} where
  below_next : Reading l x k → {b : ℕ} → b < 256 → x * 256 + b < 256 ^ (k + 1)
  below_next R {b} s = rw (add-one k, pow-suc 256 k) (digits_lt R.below s)

  -- one byte more fits 64 bits
  pub next_fits : Reading l x k → {b : ℕ} → k < length l → b < 256 → x * 256 + b < 2 ^ 64
  next_fits R h s = lt_of_lt_of_le (below_next R s) (pow-le-pow_right {n = 256} (lit≤ tt) {i = k + 1} {j = 8} (omega arith))

  pub next_read : Reading l x k → {b : ℕ} → k < length l → b ≡ get_or l k 0 → b < 256 → Reading l (x * 256 + b) (k + 1)
  next_read R h e s = record { few = R.few; within = omega arith; is = rw (R.is, e) (sym (value_next l k h)); below = below_next R s }

  pub all_read : Reading l x k → length l ≤ k → (x ≡ value_from 0 l) × (x < 256 ^ length l)
  all_read R h =
      let e : k ≡ length l = omega (arith, R.within) in
      (R.is ∙ ap (value_from 0) (take_all k l h), rw e at R.below)

-- a number of at most 4 bytes
pub four_bytes : (x n : ℕ) → x < 256 ^ n → n ≤ 4 → x < 2 ^ 32
four_bytes x n h k = lt_of_lt_of_le h (pow-le-pow_right {n = 256} (lit≤ tt) {i = n} {j = 4} k)
