-- Rounding as the code does it, piece by piece: z / 4 to a whole number, and t / 2 ^ 27 to a half.
use Prim.Native.Nat.{ℕ, ◌+◌, ◌-◌, ◌*◌, ◌/◌, ◌%◌, ◌^◌, ◌≤◌, ◌<◌, compare, Ordering}
use mathlib.Core.Bool.{Bool, true, false, not, ◌&&◌, ◌||◌, cond}
use mathlib.Core.Path.{◌≡◌, refl, sym, ap, ◌∙◌}
use native.Mathlib.Omega.{arith}
use native.Mathlib.Nat.{pos_of_ne-zero}
use lib.Bits.{bit_or}
use lib.Dec.{leb, ltb, eqb}
use lib.Ieee.{size, nearest}
use borrow.Author.Tests.{le-leb, lt-leb, le-ltb, lt-ltb, ltb-true, ltb-false, leb-true, leb-false, eqb-true, eqb-false}
use Rattle.half.specs.Format.{with_sign}
use Rattle.half.specs.Exact.{ratio, against, is_nearest, outward, ceiling, round_to}
use Rattle.half.specs.Round.{OE, UE, PE, flag, outcome, tiny, overflow_fields, rounded_half}
use Rattle.half.specs.Work.{place}
use Rattle.half.specs.declared.Mode.{Mode}
use Rattle.half.specs.declared.Outcome.{Outcome}
use Rattle.half.proofs.Compare.{cmp, Cmp}
use Rattle.half.proofs.Cuts.{round_to_exact}
use Rattle.half.proofs.Bridge.{steps, quarter, coarse, tiny_is}
use Rattle.half.proofs.Sticky.{own_place, of_place}

-- ---- to a whole number
module _ (mode : Mode) (neg : Bool) (z : ℕ) where
  middle : (o : Ordering) → Cmp o (z * 2) ((2 * (z / 4) + 1) * 1 * 4) → (z + (1 + z / 4 % 2)) / 4 ≡ nearest (z / 4) o
  middle Ordering.lt h = omega arith
  middle Ordering.eq h = omega arith
  middle Ordering.gt h = omega arith

  to_nearest : is_nearest mode ≡ true → (z + (1 + z / 4 % 2)) / 4 ≡ round_to mode neg (ratio z 4) 1 1
  unfolding round_to against
  to_nearest n = rw (n, quarter mode neg z) (middle (compare (z * 2) ((2 * (z / 4) + 1) * 1 * 4)) (cmp (z * 2) ((2 * (z / 4) + 1) * 1 * 4)))

  floor : (o : Ordering) → Cmp o (z * 1) (z / 4 * 1 * 4) → (z + 3) / 4 ≡ ceiling (z / 4) o
  floor Ordering.lt h = omega arith
  floor Ordering.eq h = omega arith
  floor Ordering.gt h = omega arith

  outwards : is_nearest mode ≡ false → outward mode neg ≡ true → (z + 3) / 4 ≡ round_to mode neg (ratio z 4) 1 1
  unfolding round_to against
  outwards n o = rw (n, o, quarter mode neg z) (floor (compare (z * 1) (z / 4 * 1 * 4)) (cmp (z * 1) (z / 4 * 1 * 4)))

  inwards : is_nearest mode ≡ false → outward mode neg ≡ false → z / 4 ≡ round_to mode neg (ratio z 4) 1 1
  unfolding round_to
  inwards n o = rw (n, o, quarter mode neg z)

  -- c is what is carried in
  pub carried : {n o : Bool} {c : ℕ} → n ≡ is_nearest mode → o ≡ outward mode neg → c ≡ cond n (1 + z / 4 % 2) (cond o 3 0)
      → (z + c) / 4 ≡ round_to mode neg (ratio z 4) 1 1
  carried {n} {o} {c} hn ho hc = go n o (sym hn) (sym ho) hc
    where
      go : (n o : Bool) → is_nearest mode ≡ n → outward mode neg ≡ o → c ≡ cond n (1 + z / 4 % 2) (cond o 3 0)
          → (z + c) / 4 ≡ round_to mode neg (ratio z 4) 1 1
      go true o p q e = rw e (to_nearest p)
      go false true p q e = rw e (outwards p q)
      go false false p q e = let f : z + c ≡ z = omega arith in rw f (inwards p q)

-- ---- tiny
module _ (mode : Mode) (neg : Bool) (t : ℕ) where
  at : tiny mode neg (ratio t (2 ^ 27)) ≡ (ltb 0 t && ltb (steps mode neg t) 2048)
  at = tiny_is (ratio t (2 ^ 27)) t (omega arith) (own_place t) mode neg

  same : (l m : ℕ) → (t < l → m < 2048) → (l ≤ t → 2048 ≤ m) → ltb t l ≡ ltb m 2048
  same l m f g = go (ltb t l) refl
    where
      go : (b : Bool) → ltb t l ≡ b → b ≡ ltb m 2048
      go true e = sym (lt-ltb m 2048 (f (ltb-true _ _ e)))
      go false e = sym (le-ltb m 2048 (g (ltb-false _ _ e)))

  -- c is what is carried into 2 ^ -14 from the last step below it, which is odd
  pub tiny_below : {n o : Bool} {c : ℕ} → n ≡ is_nearest mode → o ≡ outward mode neg → c ≡ cond n (1 + 1) (cond o 3 0)
      → (not (eqb t 0) && ltb t (8192 - c)) ≡ tiny mode neg (ratio t (2 ^ 27))
  tiny_below {n} {o} {c} hn ho hc =
      rw (pos (eqb t 0) refl, limit n o hc ∙ ap (λ (m : ℕ). ltb m 2048) (carried mode neg t hn ho refl)) (sym at)
    where
      pos : (b : Bool) → eqb t 0 ≡ b → not b ≡ ltb 0 t
      pos true e = sym (le-ltb 0 t (omega (arith, eqb-true t 0 e)))
      pos false e = sym (lt-ltb 0 t (pos_of_ne-zero (eqb-false t 0 e)))

      limit : (n o : Bool) → c ≡ cond n (1 + 1) (cond o 3 0) → ltb t (8192 - c) ≡ ltb ((t + cond n (1 + t / 4 % 2) (cond o 3 0)) / 4) 2048
      limit true o e =
          same (8192 - c) ((t + (1 + t / 4 % 2)) / 4) (λ (l : t < 8192 - c). omega arith)
          (λ (l : 8192 - c ≤ t). over (leb 8192 t) refl (omega arith))
        where
          over : (b : Bool) → leb 8192 t ≡ b → 8190 ≤ t → 2048 ≤ (t + (1 + t / 4 % 2)) / 4
          over true g h = omega (arith, leb-true 8192 t g)
          over false g h =
              let q : t / 4 ≡ 2047 = omega (arith, leb-false 8192 t g) in let r : t / 4 % 2 ≡ 1 = ap (λ (n : ℕ). n % 2) q in omega arith
      limit false true e = same (8192 - c) ((t + 3) / 4) (λ (l : t < 8192 - c). omega arith) (λ (l : 8192 - c ≤ t). omega arith)
      limit false false e = same (8192 - c) ((t + 0) / 4) (λ (l : t < 8192 - c). omega arith) (λ (l : 8192 - c ≤ t). omega arith)

-- ---- to a half
module _ (mode : Mode) (unmasked_ue neg : Bool) (t k z q : ℕ) (hk : k ≡ size t - 14) (hz : z ≡ place t (2 ^ (k + 2)))
    (hq : q ≡ steps mode neg z) where
  pub over : 31744 ≤ k * 1024 + q → {o : Outcome} → o ≡ outcome (with_sign neg (overflow_fields mode neg)) (bit_or OE PE)
      → o ≡ rounded_half mode unmasked_ue neg (ratio t (2 ^ 27))
  unfolding coarse
  over g ho = ho ∙ sym (of_place mode unmasked_ue neg t ∙ rw (← hk, ← hz, ← hq, le-leb 31744 (k * 1024 + q) g))

  pub fit : k * 1024 + q < 31744 → {b : Bool} {h pe ue : ℕ} → b ≡ tiny mode neg (ratio t (2 ^ 27)) → h ≡ with_sign neg (k * 1024 + q)
      → pe ≡ flag PE (not (eqb (z % 4) 0))
      → ue ≡ flag UE (b && (unmasked_ue || not (eqb (z % 4) 0))) → outcome h (bit_or pe ue) ≡ rounded_half mode unmasked_ue neg
      (ratio t (2 ^ 27))
  unfolding coarse
  fit g hb hh hp hu =
      let b : _ = hb ∙ at mode neg t in
      sym (of_place mode unmasked_ue neg t ∙ rw (← hk, ← hz, ← hq, lt-leb 31744 (k * 1024 + q) g, ← hh, ← hp, ← b, ← hu))

-- ---- zero
pub zero_rounds : (mode : Mode) (unmasked_ue neg : Bool) → outcome (with_sign neg 0) 0 ≡ rounded_half mode unmasked_ue neg (ratio 0 (2 ^ 27))
unfolding place size
zero_rounds mode unmasked_ue neg =
    let q : steps mode neg 0 ≡ 0 = round_to_exact mode neg (ratio 0 4) 1 1 (omega arith) (omega arith) 0 (omega arith) in
    fit mode unmasked_ue neg 0 0 0 0 refl refl (sym q) (omega arith) {b = false} (sym (at mode neg 0)) refl refl refl
