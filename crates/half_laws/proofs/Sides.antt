-- The comparisons of specs/Values.antt, by the two numbers left x b and right x a of half's proofs/Cuts.antt.
use Prim.Native.Nat.{ℕ, suc, ◌≤◌, ◌<◌, compare, Ordering}
use mathlib.Core.Path.{◌≡◌, refl, ap, ◌∙◌}
use mathlib.Core.Logic.{◌≢◌}
use native.Mathlib.Nat.{le_of_eq, le_of_lt, lt_of_not-le, not-le_of_lt, le_of_suc-le-suc}
use Rattle.half.specs.Exact.{Magnitude, denominator, against}
use Rattle.half.proofs.Compare.{cmp, Cmp, cmp_lt, cmp_eq, cmp_gt}
use Rattle.half.proofs.Cuts.{left, right, against_is, right_strict}
use Rattle.half_laws.specs.Values.{AtMost, AtLeast, Equals, Above, Below}

-- x ≤ a / b and x ≥ a / b
abbrev pub Le : Magnitude → ℕ → ℕ → Type 0
Le x a b = left x b ≤ right x a

abbrev pub Ge : Magnitude → ℕ → ℕ → Type 0
Ge x a b = right x a ≤ left x b

-- ratios with one denominator compare as their numerators do
pub right_cmp : (x : Magnitude) → 0 < denominator x → (p q : ℕ) → compare (right x p) (right x q) ≡ compare p q
right_cmp x hx p q = go (compare p q) (cmp p q)
  where
    go : (o : Ordering) → Cmp o p q → compare (right x p) (right x q) ≡ o
    go Ordering.lt h = cmp_lt _ _ (right_strict x hx h)
    go Ordering.eq h = cmp_eq _ _ (ap (λ (z : ℕ). right x z) h)
    go Ordering.gt h = cmp_gt _ _ (right_strict x hx h)

pub right_back : (x : Magnitude) → 0 < denominator x → (p q : ℕ) → right x p ≤ right x q → p ≤ q
right_back x hx p q h = le_of_suc-le-suc (lt_of_not-le (λ (k : suc q ≤ p). not-le_of_lt (right_strict x hx {a = q} {c = p} k) h))

module _ (x : Magnitude) (a b : ℕ) where
  sides : Cmp (against x a b) (left x b) (right x a)
  sides = rw (against_is x a b) (cmp (left x b) (right x a))

  pub most_le : AtMost x a b → Le x a b
  most_le = go (against x a b) sides
    where
      go : (o : Ordering) → Cmp o (left x b) (right x a) → o ≢ Ordering.gt → Le x a b
      go Ordering.lt c n = le_of_lt c
      go Ordering.eq c n = le_of_eq c
      go Ordering.gt c n = absurd (n refl)

  pub le_most : Le x a b → AtMost x a b
  le_most l e = not-le_of_lt (rw e at sides) l

  pub least_ge : AtLeast x a b → Ge x a b
  least_ge = go (against x a b) sides
    where
      go : (o : Ordering) → Cmp o (left x b) (right x a) → o ≢ Ordering.lt → Ge x a b
      go Ordering.lt c n = absurd (n refl)
      go Ordering.eq c n = rw c (le_of_eq refl)
      go Ordering.gt c n = le_of_lt c

  pub ge_least : Ge x a b → AtLeast x a b
  ge_least l e = not-le_of_lt (rw e at sides) l

  pub equals_eq : Equals x a b → left x b ≡ right x a
  equals_eq e = rw e at sides

  pub above_gt : Above x a b → right x a < left x b
  above_gt e = rw e at sides

  pub gt_above : right x a < left x b → Above x a b
  gt_above l = against_is x a b ∙ cmp_gt (left x b) (right x a) l

  pub lt_below : left x b < right x a → Below x a b
  lt_below l = against_is x a b ∙ cmp_lt (left x b) (right x a) l
