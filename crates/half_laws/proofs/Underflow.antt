-- Up to which exact value a rounding is tiny: by the place of the value among the multiples of 2 ^ -26, which every magnitude has.
use Prim.Native.Nat.{ℕ, ◌+◌, ◌-◌, ◌*◌, ◌^◌, ◌≤◌, ◌<◌, compare, Ordering}
use mathlib.Core.Bool.{Bool, true, false, not, ◌&&◌, cond, false≢true}
use mathlib.Core.Logic.{◌↔◌, ◌≢◌}
use mathlib.Core.Path.{◌≡◌, refl, sym, ◌∙◌}
use native.Mathlib.Omega.{arith}
use native.Mathlib.Nat.{lt_of_lt_of_le, not-le_of_lt}
use borrow.Author.Tests.{lt-ltb, ltb-true, eqb-false, ne_eqb}
use lib.Dec.{eqb, ltb}
use Rattle.half.specs.Exact.{Magnitude, ratio, denominator, against, whole, is_nearest, outward}
use Rattle.half.specs.Round.{tiny}
use Rattle.half.specs.declared.Mode.{Mode}
use Rattle.half.proofs.Compare.{cmp, Cmp, cmp_lt, cmp_eq, cmp_gt}
use Rattle.half.proofs.Cuts.{left, right, against_is, against_scale, right_mono, right_strict, whole_spec}
use Rattle.half.proofs.Bridge.{Placed, tiny_is}
use Rattle.half.proofs.Sticky.{own_place}
use Rattle.half.proofs.Steps.{tiny_below}
use Rattle.half_laws.specs.Values.{AtMost, Above, Below}

-- 1 where something is left
abbrev left_over : Ordering → ℕ
left_over Ordering.lt = 0
left_over Ordering.eq = 0
left_over Ordering.gt = 1

module _ (x : Magnitude) (hd : 0 < denominator x) where
  abbrev w : ℕ
  w = whole x 1 (2 ^ 26)

  abbrev t : ℕ
  t = 2 * w + left_over (against x w (2 ^ 26))

  holds : right x w ≤ left x (2 ^ 26)
  holds = let e : w * 1 ≡ w = omega arith in rw e at (whole_spec x 1 (2 ^ 26) hd (omega arith)).0

  no_more : left x (2 ^ 26) < right x (w + 1)
  no_more = let e : (w + 1) * 1 ≡ w + 1 = omega arith in rw e at (whole_spec x 1 (2 ^ 26) hd (omega arith)).1

  placed : Placed x t
  placed c = go (compare c w) (cmp c w)
    where
      upto : (o : Ordering) → left_over o ≤ 1
      upto Ordering.lt = omega arith
      upto Ordering.eq = omega arith
      upto Ordering.gt = omega arith

      at : (o : Ordering) → against x w (2 ^ 26) ≡ o → Cmp o (left x (2 ^ 26)) (right x w) → o ≡ compare (2 * w + left_over o) (2 * w)
      at Ordering.lt e h = absurd (not-le_of_lt h holds)
      at Ordering.eq e h = sym (cmp_eq (2 * w + 0) (2 * w) (omega arith))
      at Ordering.gt e h = sym (cmp_gt (2 * w + 1) (2 * w) (omega arith))

      go : (o : Ordering) → Cmp o c w → against x c (2 ^ 26) ≡ compare t (2 * c)
      go Ordering.lt h =
          against_is x c (2 ^ 26) ∙ cmp_gt _ _ (lt_of_lt_of_le (right_strict x hd {a = c} {c = w} h) holds)
          ∙ sym (cmp_gt t (2 * c) (omega arith))
      go Ordering.eq h =
          rw h (at (against x w (2 ^ 26)) refl (rw (against_is x w (2 ^ 26)) (cmp (left x (2 ^ 26)) (right x w))))
      go Ordering.gt h =
          against_is x c (2 ^ 26) ∙ cmp_lt _ _ (lt_of_lt_of_le no_more (right_mono x {a = w + 1} {c = c} (omega arith)))
          ∙ sym (cmp_lt t (2 * c) (omega (arith, upto (against x w (2 ^ 26)))))

  -- x compares with a / b, which is c / 2 ^ 26, as its place does with 2 c
  module _ (c a b m : ℕ) (ea : a * m ≡ c) (eb : b * m ≡ 2 ^ 26) (hm : 0 < m) where
    same : against x a b ≡ compare t (2 * c)
    same = sym (against_scale x a b m hm) ∙ rw (ea, eb) (placed c)

    pub below : Below x a b ↔ (t < 2 * c)
    below = ((λ l. let h : t < 2 * c = rw (sym same ∙ l) at (cmp t (2 * c)) in h), (λ h. same ∙ cmp_lt t (2 * c) h))

    pub at_most : AtMost x a b ↔ (t < 2 * c + 1)
    at_most = (
      (λ l. go (compare t (2 * c)) (cmp t (2 * c)) (rw same at l)),
      (λ h e. let g : 2 * c < t = rw (sym same ∙ e) at (cmp t (2 * c)) in omega arith),
    )
      where
        go : (o : Ordering) → Cmp o t (2 * c) → o ≢ Ordering.gt → t < 2 * c + 1
        go Ordering.lt h n = omega arith
        go Ordering.eq h n = omega arith
        go Ordering.gt h n = absurd (n refl)

  above : Above x 0 1 ↔ (t ≢ 0)
  above = ((λ a z. let h : 0 < t = rw (sym zero ∙ a) at (cmp t 0) in omega arith), (λ n. zero ∙ cmp_gt t 0 (omega arith)))
    where
      zero : against x 0 1 ≡ compare t 0
      zero = same 0 0 1 (2 ^ 26) refl refl (omega arith)

  -- tiny, by the place
  module _ (mode : Mode) (neg : Bool) (c : ℕ) (hc : c ≡ cond (is_nearest mode) (1 + 1) (cond (outward mode neg) 3 0)) where
    same_tiny : tiny mode neg x ≡ (not (eqb t 0) && ltb t (8192 - c))
    same_tiny =
        tiny_is x t hd placed mode neg ∙ sym (tiny_is (ratio t (2 ^ 27)) t (omega arith) (own_place t) mode neg)
        ∙ sym (tiny_below mode neg t refl refl hc)

    pub small : {P : Type 0} → P ↔ (t < 8192 - c) → (tiny mode neg x ≡ true) ↔ (Above x 0 1 × P)
    small {P} f = (
      (λ e. go (eqb t 0) (ltb t (8192 - c)) refl refl (sym same_tiny ∙ e)),
      (λ p. same_tiny ∙ rw (ne_eqb t 0 (above.0 p.0), lt-ltb t (8192 - c) (f.0 p.1))),
    )
      where
        go : (z l : Bool) → eqb t 0 ≡ z → ltb t (8192 - c) ≡ l → (not z && l) ≡ true → Above x 0 1 × P
        go true l e g h = absurd (false≢true h)
        go false true e g h = (above.1 (eqb-false t 0 e), f.1 (ltb-true t (8192 - c) g))
        go false false e g h = absurd (false≢true h)
