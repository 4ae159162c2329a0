-- Rounding turns on the number alone, not on how it is written, and keeps order.
use Prim.Native.Nat.{ℕ, suc, ◌+◌, ◌-◌, ◌*◌, ◌^◌, ◌≤◌, ◌<◌, compare}
use mathlib.Core.Bool.{Bool, true, false}
use mathlib.Core.Path.{◌≡◌, refl, sym, ap, ◌∙◌}
use native.Mathlib.Omega.{arith}
use native.Mathlib.Nat.{mul_comm, mul-pos, le_trans, le_of_eq, lt_of_lt_of_le, lt_of_not-le, not-le_of_lt, le_of_suc-le-suc, le_antisymm}
use native.Mathlib.Nat.{lt_irrefl, add_comm}
use lib.Pow.{pow_pos}
use lib.Ieee.{size}
use borrow.Author.Tests.{leb-true}
use Rattle.half.specs.Exact.{Magnitude, ratio, root_of, denominator, against, whole, is_nearest, outward, round_to}
use Rattle.half.specs.Round.{significant, delivered, overflows, encode, overflow_fields}
use Rattle.half.specs.declared.Mode.{Mode}
use Rattle.half.specs.declared.Mode.TheVariants.{TowardZero}
use Rattle.half.proofs.Cuts.{left, right, weight, against_is, against_scale, left_scale, right_scale, right_mono, round_to_same, le_scale}
use Rattle.half.proofs.Cuts.{ge_scale, scale_le, scale_ge}
use Rattle.half.proofs.Encoding.{encode_mono}
use Rattle.half_laws.specs.Values.{Leq}
use Rattle.half_laws.specs.Laws.{half_of}
use Rattle.half_laws.proofs.Sides.{Le, Ge, right_cmp, right_back, most_le, least_ge}
use Rattle.half_laws.proofs.Grid.{delivered_on_grid, toward_zero, away_from_zero, none_nearer}
use Rattle.half_laws.proofs.Fields.{signed_le}
use Rattle.half_laws.proofs.Delivered.{fields_fit, overflows_is, below_top, half_is, over_half, overflow_ge}

-- ---- rounding turns on the number alone
module _ (x y : Magnitude) (hx : 0 < denominator x) (hy : 0 < denominator y) (same : (a b : ℕ) → 0 < b → against x a b ≡ against y a b)
  where
    round_ext : (mode : Mode) (neg : Bool) (a l : ℕ) → 0 < a → round_to mode neg x a (2 ^ l) ≡ round_to mode neg y a (2 ^ l)
    round_ext mode neg a l ha =
        round_to_same x y hx hy a (2 ^ l) a (2 ^ l) ha ha (λ (n : ℕ). same (n * a) (2 * 2 ^ l) (omega (arith, pow_pos l))) mode neg

    -- the whole units are what is rounded to toward zero
    whole_ext : (l : ℕ) → whole x 1 (2 ^ l) ≡ whole y 1 (2 ^ l)
    unfolding round_to
    whole_ext l = round_ext TowardZero false 1 l (omega arith)

    pub significant_ext : (mode : Mode) (neg : Bool) (l : ℕ) → significant l mode neg x ≡ significant l mode neg y
    unfolding significant
    significant_ext mode neg l = let s : ℕ = size (whole y 1 (2 ^ l)) - 11 in rw (whole_ext l, round_ext mode neg (2 ^ s) l (pow_pos s))

-- an x that is exactly m / c compares as the ratio does
pub is_ratio : (x : Magnitude) → 0 < denominator x → (m c : ℕ) → 0 < c → left x c ≡ right x m → (a b : ℕ) → 0 < b
    → against x a b ≡ against (ratio m c) a b
unfolding against
is_ratio x hx m c hc e a b hb =
    let f : left x (b * c) ≡ right x (m * b) =
    ap (λ (z : ℕ). left x z) (mul_comm b c) ∙ left_scale x c b ∙ ap (λ (z : ℕ). z * weight x b) e ∙ sym (right_scale x m b) in
    sym (against_scale x a b c hc) ∙ against_is x (a * c) (b * c) ∙ ap (λ (z : ℕ). compare z (right x (a * c))) f ∙ right_cmp x hx (m * b)
    (a * c)

-- ---- the order of magnitudes, by ratios: what is at most x is at most y, and what is at least y is at least x
abbrev pub Ordered : Magnitude → Magnitude → Type 0
Ordered x y = (a b : ℕ) → 0 < b → (Ge x a b → Ge y a b) × (Le y a b → Le x a b)

module _ (z : Magnitude) (hz : 0 < denominator z) (m c : ℕ) (hc : 0 < c) where
  -- z ≤ m / c
  pub to_ratio : Le z m c → Ordered z (ratio m c)
  to_ratio h a b hb =
      let k : left z (b * c) ≤ right z (m * b) = rw (mul_comm b c) (scale_le z m c b h) in (
        λ (g : Ge z a b). right_back z hz (a * c) (m * b) (le_trans (scale_ge z a b c g) k),
        λ (l : m * b ≤ a * c). le_scale z a b c hc (le_trans k (right_mono z l)),
      )

  -- m / c ≤ z
  pub from_ratio : Ge z m c → Ordered (ratio m c) z
  from_ratio h a b hb =
      let k : right z (m * b) ≤ left z (b * c) = rw (mul_comm b c) (scale_ge z m c b h) in (
        λ (g : a * c ≤ m * b). ge_scale z a b c hc (le_trans (right_mono z g) k),
        λ (l : Le z a b). right_back z hz (m * b) (a * c) (le_trans k (scale_le z a b c l)),
      )

pub ratio_leq : (n d m c : ℕ) → 0 < d → 0 < c → n * c ≤ m * d → Ordered (ratio n d) (ratio m c)
ratio_leq n d m c hd hc h = to_ratio (ratio n d) hd m c hc h

pub root_leq : (n d m c : ℕ) → 0 < d → 0 < c → n * c ≤ m * d → Ordered (root_of n d) (root_of m c)
root_leq n d m c hd hc h a b hb = ratio_leq n d m c hd hc h (a * a) (b * b) (mul-pos hb hb)

pub leq_ordered : (x y : Magnitude) → 0 < denominator x → 0 < denominator y → Leq x y → Ordered x y
leq_ordered x (ratio m c) hx hy h = to_ratio x hx m c hy (most_le x m c h)
leq_ordered (ratio n d) (root_of m c) hx hy h = from_ratio (root_of m c) hy n d hx (least_ge (root_of m c) n d h)
leq_ordered (root_of n d) (root_of m c) hx hy h = root_leq n d m c hx hy h

-- ---- rounding keeps it
module _ (x y : Magnitude) (hx : 0 < denominator x) (hy : 0 < denominator y) (le : Ordered x y) (mode : Mode) (neg : Bool) where
  abbrev Dx : ℕ
  Dx = delivered mode neg x

  abbrev Dy : ℕ
  Dy = delivered mode neg y

  -- were Dy below Dx, both x and y would lie at the middle between them
  order_nearest : is_nearest mode ≡ true → Dx ≤ Dy
  order_nearest e = le_of_suc-le-suc (lt_of_not-le (λ (h : suc Dy ≤ Dx). lt_irrefl Dy (lt_of_lt_of_le h (le_of_eq (clash h)))))
    where
      clash : Dy < Dx → Dx ≡ Dy
      clash h =
          let a : Ge x (Dx + Dy) (2 ^ 25) = (none_nearer 24 x hx mode neg e Dy (delivered_on_grid 24 y hy mode neg)).1 h in
          let b : Le y (Dx + Dy) (2 ^ 25) =
          rw (add_comm Dx Dy) ((none_nearer 24 y hy mode neg e Dx (delivered_on_grid 24 x hx mode neg)).0 h) in
          let l = le (Dx + Dy) (2 ^ 25) (omega arith) in
          let at : (z : Magnitude) → 0 < denominator z → left z (2 ^ 25) ≡ right z (Dx + Dy) → delivered mode neg z ≡ delivered mode neg
          (ratio (Dx + Dy) (2 ^ 25)) =
          λ (z : Magnitude) (hz : 0 < denominator z) (f : left z (2 ^ 25) ≡ right z (Dx + Dy)).
          significant_ext z (ratio (Dx + Dy) (2 ^ 25)) hz (omega arith) (is_ratio z hz (Dx + Dy) (2 ^ 25) (omega arith) f) mode neg 24 in
          at x hx (le_antisymm (l.1 b) a) ∙ sym (at y hy (le_antisymm b (l.0 a)))

  pub order_kept : Dx ≤ Dy
  order_kept = go (is_nearest mode) (outward mode neg) refl refl
    where
      go : (m o : Bool) → is_nearest mode ≡ m → outward mode neg ≡ o → Dx ≤ Dy
      go true o e f = order_nearest e
      go false true e f =
          (away_from_zero 24 x hx mode neg e f).1 Dy (delivered_on_grid 24 y hy mode neg)
          ((le Dy (2 ^ 24) (omega arith)).1 (away_from_zero 24 y hy mode neg e f).0)
      go false false e f =
          (toward_zero 24 y hy mode neg e f).1 Dx (delivered_on_grid 24 x hx mode neg)
          ((le Dx (2 ^ 24) (omega arith)).0 (toward_zero 24 x hx mode neg e f).0)

  -- the halves too: what overflows is above what does not
  pub half_order : (unmasked_ue : Bool) → half_of mode unmasked_ue neg x ≤ half_of mode unmasked_ue neg y
  half_order unmasked_ue = go (overflows mode neg x) (overflows mode neg y) refl refl
    where
      go : (b c : Bool) → overflows mode neg x ≡ b → overflows mode neg y ≡ c → half_of mode unmasked_ue neg x ≤ half_of mode unmasked_ue neg y
      go true true e f = rw (over_half mode unmasked_ue neg x e, over_half mode unmasked_ue neg y f) (le_of_eq refl)
      go true false e f =
          absurd (not-le_of_lt (below_top mode neg y hy f) (le_trans (leb-true _ _ (sym (overflows_is mode neg x hx) ∙ e)) order_kept))
      go false true e f = rw (half_is mode neg x hx e unmasked_ue, over_half mode unmasked_ue neg y f)
          (signed_le neg (encode Dx) (overflow_fields mode neg)
          (le_trans (le_of_suc-le-suc (fields_fit mode neg x hx (below_top mode neg x hx e))) (overflow_ge mode neg)))
      go false false e f =
          rw (half_is mode neg x hx e unmasked_ue, half_is mode neg y hy f unmasked_ue)
          (signed_le neg (encode Dx) (encode Dy) (encode_mono Dx Dy order_kept))
