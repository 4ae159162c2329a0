-- Laws of tests and of the native comparison.
use Prim.Native.Nat.{ℕ, ◌*◌, ◌≤◌, ◌<◌, compare, Ordering}
use mathlib.Core.Bool.{Bool, true, false, ◌&&◌, ◌||◌}
use mathlib.Core.Path.{◌≡◌, refl, sym, ap, ◌∙◌}
use native.Mathlib.Omega.{arith}
use native.Mathlib.Nat.{mul-lt-mul_of_pos_right, le_of_eq, le_of_lt, not-le_of_lt}
use lib.Dec.{is_le, compare_is_eq}
use borrow.Author.Tests.{le-leb, lt-leb, eq-eqb, ne_eqb, leb-true, leb-false, eqb-true, eqb-false}

-- ---- tests

pub and_false : (a : Bool) → (a && false) ≡ false
and_false true = refl
and_false false = refl

pub or_left : (a b : Bool) → (a || b) ≡ false → a ≡ false
or_left true b e = e
or_left false b e = refl

pub or_right : (a b : Bool) → (a || b) ≡ false → b ≡ false
or_right true b e = cc
or_right false b e = e

-- ---- the native comparison

pub cmp_lt : (a b : ℕ) → a < b → compare a b ≡ Ordering.lt
cmp_lt a b h = go (compare a b) (le-leb a b (le_of_lt h)) (ne_eqb a b (λ (e : a ≡ b). omega arith))
  where
    go : (o : Ordering) → is_le o ≡ true → compare_is_eq o ≡ false → o ≡ Ordering.lt
    go Ordering.lt p q = refl
    go Ordering.eq p q = cc
    go Ordering.gt p q = cc

pub cmp_eq : (a b : ℕ) → a ≡ b → compare a b ≡ Ordering.eq
cmp_eq a b h = go (compare a b) (eq-eqb a b h)
  where
    go : (o : Ordering) → compare_is_eq o ≡ true → o ≡ Ordering.eq
    go Ordering.lt p = cc
    go Ordering.eq p = refl
    go Ordering.gt p = cc

pub cmp_gt : (a b : ℕ) → b < a → compare a b ≡ Ordering.gt
cmp_gt a b h = go (compare a b) (lt-leb a b h)
  where
    go : (o : Ordering) → is_le o ≡ false → o ≡ Ordering.gt
    go Ordering.lt p = cc
    go Ordering.eq p = cc
    go Ordering.gt p = refl

abbrev pub Cmp : Ordering → ℕ → ℕ → Type 0
Cmp Ordering.lt a b = a < b
Cmp Ordering.eq a b = a ≡ b
Cmp Ordering.gt a b = b < a

pub cmp : (a b : ℕ) → Cmp (compare a b) a b
cmp a b = go (compare a b) refl
  where
    go : (o : Ordering) → compare a b ≡ o → Cmp o a b
    go Ordering.lt e =
        let p : a ≤ b = leb-true a b (rw e) in
        let q : (a ≡ b → ⊥) = eqb-false a b (rw e) in omega arith
    go Ordering.eq e = eqb-true a b (rw e)
    go Ordering.gt e = leb-false a b (rw e)

-- from one comparison that says the same as another
pub same_le : (a b c d : ℕ) → compare a b ≡ compare c d → c ≤ d → a ≤ b
same_le a b c d e h = leb-true a b (ap is_le e ∙ le-leb c d h)

pub same_lt : (a b c d : ℕ) → compare a b ≡ compare c d → d < c → b < a
same_lt a b c d e h = leb-false a b (ap is_le e ∙ lt-leb c d h)

pub cmp_scale : (a b c : ℕ) → 0 < c → compare (a * c) (b * c) ≡ compare a b
cmp_scale a b c h = go (compare a b) (cmp a b)
  where
    go : (o : Ordering) → Cmp o a b → compare (a * c) (b * c) ≡ o
    go Ordering.lt p = cmp_lt (a * c) (b * c) (mul-lt-mul_of_pos_right p h)
    go Ordering.eq p = cmp_eq (a * c) (b * c) (ap (λ (z : ℕ). z * c) p)
    go Ordering.gt p = cmp_gt (a * c) (b * c) (mul-lt-mul_of_pos_right p h)

pub same_ge : (a b c d : ℕ) → compare a b ≡ compare c d → d ≤ c → b ≤ a
same_ge a b c d e h = go (compare c d) (cmp c d) (rw e at (cmp a b))
  where
    go : (o : Ordering) → Cmp o c d → Cmp o a b → b ≤ a
    go Ordering.lt p q = absurd (not-le_of_lt p h)
    go Ordering.eq p q = le_of_eq (sym q)
    go Ordering.gt p q = le_of_lt q

pub same_below : (a b c d : ℕ) → compare a b ≡ compare c d → c < d → a < b
same_below a b c d e h = go (compare c d) (cmp c d) (rw e at (cmp a b))
  where
    go : (o : Ordering) → Cmp o c d → Cmp o a b → a < b
    go Ordering.lt p q = q
    go Ordering.eq p q = absurd (not-le_of_lt h (le_of_eq (sym p)))
    go Ordering.gt p q = absurd (not-le_of_lt h (le_of_lt p))
