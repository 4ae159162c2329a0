-- Pieces put one behind the other: where each stands, which is at the sum of the sizes before it, and that cutting there gives it back.
-- Assumes nothing.
use Prim.Native.Nat.{ℕ, zero, suc, ◌+◌, ◌*◌, ◌≤◌, ◌<◌}
use mathlib.Core.Path.{◌≡◌, refl, sym, ap, ap₂, ◌∙◌}
use mathlib.Core.Logic.{◌⊎◌, inl, inr}
use mathlib.Core.List.{List, [], ◌∷◌, ◌++◌, append-nil, append_assoc, flatten}
use native.Mathlib.Nat.{eq-or-lt_of_le, mul-zero, mul-suc}
use native.Mathlib.Numerals.{add-one}
use native.Mathlib.Omega.{arith}
use lib.ListN.{length, take, drop, length-append}
use lib.Seq.{take-add}
use Rattle.lists.specs.Lists.{table}
use Rattle.lists.proofs.Tables.{table_equal, table_next}
use Rattle.forms.specs.Numbers.{joined}
use Rattle.forms.specs.File.{sum_to}
use Rattle.forms.proofs.Slices.{part_first, part_second}

-- ---- sums

-- equal term by term
pub sum_equal : (n : ℕ) (f g : ℕ → ℕ) → ((k : ℕ) → k < n → f k ≡ g k) → sum_to n f ≡ sum_to n g
unfolding sum_to
sum_equal zero f g h = refl
sum_equal (suc n) f g h = ap₂ ◌+◌ (sum_equal n f g (λ k l. h k (omega arith))) (h n (omega arith))

pub sum_same : (m n : ℕ) → sum_to n (λ k. m) ≡ m * n
unfolding sum_to
sum_same m zero = sym (mul-zero m)
sum_same m (suc n) = rw (sum_same m n) (sym (mul-suc m n))

pub sum_most : (m n : ℕ) (f : ℕ → ℕ) → ((k : ℕ) → f k ≤ m) → sum_to n f ≤ m * n
unfolding sum_to
sum_most m zero f h = omega arith
sum_most m (suc n) f h = rw (mul-suc m n) (omega (arith, sum_most m n f h, h n))

pub sum_next : (n : ℕ) (f : ℕ → ℕ) → sum_to (n + 1) f ≡ sum_to n f + f n
unfolding sum_to
sum_next n f = rw (add-one n)

-- the terms to k, and k's own
pub sum_within : (n k : ℕ) (f : ℕ → ℕ) → k < n → sum_to k f + f k ≤ sum_to n f
unfolding sum_to
sum_within zero k f h = absurd (omega arith)
sum_within (suc n) k f h = go (eq-or-lt_of_le {n = k} {m = n} (omega arith)) (sum_within n k f)
  where
    go : (k ≡ n) ⊎ (k < n) → (k < n → sum_to k f + f k ≤ sum_to n f) → sum_to k f + f k ≤ sum_to n f + f n
    go (inl e) earlier = rw e (omega arith)
    go (inr l) earlier = omega (arith, earlier l)

-- ---- pieces

flatten_append : (xs : List (List ℕ)) (l : List ℕ) → flatten (xs ++ (l ∷ [])) ≡ flatten xs ++ l
unfolding flatten
flatten_append [] l = append-nil l
flatten_append (x ∷ xs) l = rw (flatten_append xs l) (sym (append_assoc x (flatten xs) l))

pub joined_none : (f : ℕ → List ℕ) → joined 0 f ≡ []
unfolding joined table flatten
joined_none f = refl

-- one more
pub joined_next : (n : ℕ) (f : ℕ → List ℕ) → joined (n + 1) f ≡ joined n f ++ f n
unfolding joined
joined_next n f = rw (table_next n f) (flatten_append (table n f) (f n))

joined-suc : (n : ℕ) (f : ℕ → List ℕ) → joined (suc n) f ≡ joined n f ++ f n
joined-suc n f = rw (← add-one n) (joined_next n f)

-- equal piece by piece
pub joined_equal : (n : ℕ) (f g : ℕ → List ℕ) → ((k : ℕ) → k < n → f k ≡ g k) → joined n f ≡ joined n g
unfolding joined
joined_equal n f g h = ap flatten (table_equal n h)

pub length-joined : (n : ℕ) (f : ℕ → List ℕ) → length (joined n f) ≡ sum_to n (λ k. length (f k))
unfolding sum_to
length-joined zero f = rw (joined_none f)
length-joined (suc n) f = rw (joined-suc n f, length-append, length-joined n f)

-- of sizes s
module _ (f : ℕ → List ℕ) (s : ℕ → ℕ) where
  pub length_sized : (n : ℕ) → ((k : ℕ) → k < n → length (f k) ≡ s k) → length (joined n f) ≡ sum_to n s
  length_sized n h = length-joined n f ∙ sum_equal n (λ k. length (f k)) s h

  pub joined_part : (n k : ℕ) → ((i : ℕ) → i < n → length (f i) ≡ s i) → k < n → take (s k) (drop (sum_to k s) (joined n f)) ≡ f k
  joined_part zero k size h = absurd (omega arith)
  joined_part (suc n) k size h =
      rw (joined-suc n f) (go (eq-or-lt_of_le {n = k} {m = n} (omega arith)) (joined_part n k (λ i l. size i (omega arith))))
    where
      long : length (joined n f) ≡ sum_to n s
      long = length_sized n (λ i l. size i (omega arith))

      go : (k ≡ n) ⊎ (k < n) → (k < n → take (s k) (drop (sum_to k s) (joined n f)) ≡ f k)
          → take (s k) (drop (sum_to k s) (joined n f ++ f n)) ≡ f k
      go (inl e) earlier = rw e (part_second (sum_to n s) (s n) (joined n f) (f n) long (size n (omega arith)))
      go (inr l) earlier = part_first (sum_to k s) (s k) (joined n f) (f n) (omega (arith, sum_within n k s l, long)) ∙ earlier l

-- the pieces of a list, joined, are the list
pub joined_cut : (n : ℕ) (s : ℕ → ℕ) (l : List ℕ) → joined n (λ k. take (s k) (drop (sum_to k s) l)) ≡ take (sum_to n s) l
unfolding sum_to
joined_cut zero s l = joined_none _
joined_cut (suc n) s l = rw (joined-suc n _, joined_cut n s l) (sym (take-add (sum_to n s) (s n) l))

-- ---- pieces of one size

module _ (m : ℕ) where
  pub length_even : (n : ℕ) (f : ℕ → List ℕ) → ((k : ℕ) → k < n → length (f k) ≡ m) → length (joined n f) ≡ m * n
  length_even n f size = length_sized f (λ k. m) n size ∙ sum_same m n

  pub even_part : (n : ℕ) (f : ℕ → List ℕ) → ((k : ℕ) → k < n → length (f k) ≡ m) → (k : ℕ) → k < n
      → take m (drop (m * k) (joined n f)) ≡ f k
  even_part n f size k h = rw (← sum_same m k) (joined_part f (λ i. m) n k size h)

  pub even_cut : (n : ℕ) (l : List ℕ) → joined n (λ k. take m (drop (m * k) l)) ≡ take (m * n) l
  even_cut n l =
      joined_equal n (λ k. take m (drop (m * k) l)) (λ k. take m (drop (sum_to k (λ i. m)) l)) (λ k h. rw (sum_same m k))
      ∙ joined_cut n (λ k. m) l
      ∙ rw (sum_same m n)
