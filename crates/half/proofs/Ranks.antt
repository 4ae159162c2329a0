-- Halves are in the order of their ranks: larger fields are a larger magnitude, and a minus turns the order.
use Prim.Native.Nat.{ℕ, zero, suc, ◌+◌, ◌-◌, ◌%◌, ◌^◌, ◌≤◌, ◌<◌}
use mathlib.Core.Bool.{Bool, true, false, cond}
use mathlib.Core.Path.{◌≡◌, refl, sym, ◌∙◌}
use native.Mathlib.Omega.{arith}
use native.Mathlib.Decide.{dec_lt}
use native.Mathlib.Nat.{zero-add}
use lib.Dec.{ltb, leb-suc-suc}
use lib.IntN.{pos, neg_ℤ}
use lib.Signed.{lt_z}
use borrow.Author.Tests.{lt-ltb, le-ltb}
use Rattle.half.specs.Format.{negative, exponent_field, fraction_field, units, signed, value}
use Rattle.half.specs.Work.{rank_of}
use Rattle.half.proofs.Encoding.{encode-units, encode_mono}

-- ---- two halves, by their fields: their magnitudes compare as these do

abbrev fields : ℕ → ℕ
fields h = h % 2 ^ 15

data Alike (m n u v : ℕ) : Type 0 where
  below : m < n → u < v → Alike m n u v
  same : m ≡ n → u ≡ v → Alike m n u v
  above : n < m → v < u → Alike m n u v

units_below : (a b : ℕ) → fields a < fields b → units a < units b
units_below a b h = go (dec_lt (units a) (units b))
  where
    go : Dec (units a < units b) → units a < units b
    go (yes k) = k
    go (no k) =
        let l : fields b ≤ fields a = rw (encode-units b, encode-units a) at (encode_mono (units b) (units a) (omega arith)) in
        absurd (omega arith)

units_same : (a b : ℕ) → fields a ≡ fields b → units a ≡ units b
unfolding units
units_same a b h =
    let e : exponent_field a ≡ exponent_field b = omega arith in
    let f : fraction_field a ≡ fraction_field b = omega arith in
    rw (e, f)

alike : (a b : ℕ) → Alike (fields a) (fields b) (units a) (units b)
alike a b = go (dec_lt (fields a) (fields b)) (dec_lt (fields b) (fields a))
  where
    go : Dec (fields a < fields b) → Dec (fields b < fields a) → Alike (fields a) (fields b) (units a) (units b)
    go (yes h) k = below h (units_below a b h)
    go (no h) (yes k) = above k (units_below b a k)
    go (no h) (no k) = let e : fields a ≡ fields b = omega arith in same e (units_same a b e)

-- ---- numbers with a minus

minus_minus : (m n : ℕ) → lt_z (neg_ℤ (pos m)) (neg_ℤ (pos n)) ≡ ltb n m
minus_minus zero zero = refl
minus_minus zero (suc n) = sym (le-ltb (suc n) 0 (omega arith))
minus_minus (suc m) zero = sym (lt-ltb 0 (suc m) (omega arith))
minus_minus (suc m) (suc n) = sym (leb-suc-suc (suc n) m)

minus_plus : (m n : ℕ) → lt_z (neg_ℤ (pos m)) (pos n) ≡ ltb 0 (m + n)
minus_plus zero n = rw (zero-add n)
minus_plus (suc m) n = sym (lt-ltb 0 (suc m + n) (omega arith))

plus_minus : (m n : ℕ) → lt_z (pos m) (neg_ℤ (pos n)) ≡ false
plus_minus m zero = le-ltb m 0 (omega arith)
plus_minus m (suc n) = refl

-- ---- the ranks

both_less : (m n u v : ℕ) → m < n → u < v → ltb m n ≡ ltb u v
both_less m n u v h k = lt-ltb m n h ∙ sym (lt-ltb u v k)

both_not : (m n u v : ℕ) → n ≤ m → v ≤ u → ltb m n ≡ ltb u v
both_not m n u v h k = le-ltb m n h ∙ sym (le-ltb u v k)

-- fields m and n, below 2 ^ 15, and magnitudes u and v
module _ (m n u v : ℕ) (hm : m < 2 ^ 15) (hn : n < 2 ^ 15) where
  plus : Alike m n u v → ltb (2 ^ 15 + m) (2 ^ 15 + n) ≡ ltb u v
  plus (below h k) = both_less (2 ^ 15 + m) (2 ^ 15 + n) u v (omega arith) k
  plus (same h k) = both_not (2 ^ 15 + m) (2 ^ 15 + n) u v (omega arith) (omega arith)
  plus (above h k) = both_not (2 ^ 15 + m) (2 ^ 15 + n) u v (omega arith) (omega arith)

  minus : Alike m n u v → ltb (2 ^ 15 - m) (2 ^ 15 - n) ≡ ltb v u
  minus (below h k) = both_not (2 ^ 15 - m) (2 ^ 15 - n) v u (omega arith) (omega arith)
  minus (same h k) = both_not (2 ^ 15 - m) (2 ^ 15 - n) v u (omega arith) (omega arith)
  minus (above h k) = both_less (2 ^ 15 - m) (2 ^ 15 - n) v u (omega arith) k

  mixed : Alike m 0 u 0 → Alike n 0 v 0 → ltb (2 ^ 15 - m) (2 ^ 15 + n) ≡ ltb 0 (u + v)
  mixed (below h k) q = absurd (omega arith)
  mixed (above h k) q = both_less (2 ^ 15 - m) (2 ^ 15 + n) 0 (u + v) (omega arith) (omega arith)
  mixed (same h k) (below i j) = absurd (omega arith)
  mixed (same h k) (above i j) = both_less (2 ^ 15 - m) (2 ^ 15 + n) 0 (u + v) (omega arith) (omega arith)
  mixed (same h k) (same i j) = both_not (2 ^ 15 - m) (2 ^ 15 + n) 0 (u + v) (omega arith) (omega arith)

  by_signs : (s t : Bool) → Alike m n u v → Alike m 0 u 0 → Alike n 0 v 0
      → ltb (cond s (2 ^ 15 - m) (2 ^ 15 + m)) (cond t (2 ^ 15 - n) (2 ^ 15 + n)) ≡ lt_z (signed s u) (signed t v)
  by_signs false false w p q = plus w
  by_signs true true w p q = minus w ∙ sym (minus_minus u v)
  by_signs true false w p q = mixed p q ∙ sym (minus_plus u v)
  by_signs false true w p q = le-ltb (2 ^ 15 + m) (2 ^ 15 - n) (omega arith) ∙ sym (plus_minus u v)

pub ranked : (a b : ℕ) → ltb (rank_of a) (rank_of b) ≡ lt_z (value a) (value b)
unfolding units
ranked a b =
    by_signs (fields a) (fields b) (units a) (units b) (omega arith) (omega arith) (negative a) (negative b) (alike a b) (alike a 0)
    (alike b 0)
