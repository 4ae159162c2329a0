-- Shifts and masks of bytes as quotients, remainders and sums, over the place and the width.
-- Assumes nothing.
use mathlib.Core.Path.{◌≡◌, ◌∙◌}
use Prim.Native.Nat.{ℕ, ◌+◌, ◌*◌, ◌-◌, ◌%◌, ◌^◌, ◌≤◌, ◌<◌}
use native.Mathlib.Omega.{arith}
use native.Mathlib.Nat.{mod-eq_of_lt, mod-lt, one-mul}
use lib.Bits.{bit_and, bit_or, bit_xor, and_mask, or_shifted, xor_add_and}
use lib.Pow.{pow_pos, shl_exact}

-- 1 shifted to the left in a byte
one_shifted : (w : ℕ) → w < 8 → 1 * 2 ^ w % 256 ≡ 2 ^ w
one_shifted w h = shl_exact {a = 1} 1 w 8 (omega arith) (omega arith) ∙ one-mul (2 ^ w)

pub one_le : (w : ℕ) → w < 8 → 1 ≤ 1 * 2 ^ w % 256
one_le w h = rw (one_shifted w h) (pow_pos w)

-- the low bits by a mask
pub masked : (n w : ℕ) → w < 8 → bit_and n (1 * 2 ^ w % 256 - 1) ≡ n % 2 ^ w
masked n w h = rw (one_shifted w h) (and_mask n w)

-- w bits, inverted by an exclusive or
pub turned : (x w : ℕ) → x < 2 ^ w → bit_xor x (2 ^ w - 1) ≡ 2 ^ w - 1 - x
turned x w h = omega (arith, xor_add_and x (2 ^ w - 1), and_mask x w, mod-eq_of_lt h)

pub flipped : (x n w : ℕ) → w < 8 → x ≡ n % 2 ^ w → bit_xor x (1 * 2 ^ w % 256 - 1) ≡ 2 ^ w - 1 - n % 2 ^ w
flipped x n w h e = rw (one_shifted w h, ← e) (turned x w (rw e (mod-lt n (pow_pos w))))

-- two numbers side by side
pub beside : (high w low : ℕ) → high < 8 → w < 5 → low < 2 ^ w → bit_or (high * 2 ^ w % 256) low ≡ high * 2 ^ w + low
beside high w low h k l = rw (shl_exact {a = high} 3 w 8 h (omega arith)) (or_shifted high w low l)
