-- Laws of the lists that the definitions make, over any elements: `table`, `some`, `or_all`, `paste`. A loop meets a table one index at a
-- time (`table_next`, `some_next`, `or_next`); where it has filled an array, `is_table` says what it is.
-- Assumes nothing.
use Prim.Native.Nat.{ℕ, zero, suc, ◌+◌, ◌/◌, ◌^◌, ◌≤◌, ◌<◌}
use mathlib.Core.Path.{◌≡◌, refl, sym, ap, ap₂, ◌∙◌}
use mathlib.Core.Bool.{Bool, true, false, not, ◌||◌, or-true, or-false, or_assoc, false≢true}
use mathlib.Core.Logic.{◌⊎◌, inl, inr}
use mathlib.Core.List.Memᴰ
use mathlib.Core.List.{List, [], ◌∷◌, ◌++◌, Memᴰ}
use mathlib.Core.List.{append_assoc}
use native.Mathlib.Nat.{add-zero}
use native.Mathlib.Numerals.{add-one}
use native.Mathlib.Omega.{arith}
use borrow.Author.Tests.{ne_eqb}
use lib.Bits.{bit_and, bit_or, and_step, or_step, and_zero_r, or_zero_l, or_zero_r, and_le_r, or_lt, or_add_and}
use lib.Dec.{eqb}
use lib.ListN.{length, get_or, take, drop, get_or-append}
use lib.Pow.{pow_pos}
use lib.Seq.{paste, ext_get_or, take_all, length_paste_head, get_or-append-add, get_or-take, get_or-drop}
use lib.Seq.{length-take-le}
use Rattle.lists.specs.Lists.{some, or_all, table_from, table, Each}

-- ---- tables

module _ {A : Type 0} where
  table_from_equal : {f g : ℕ → A} (i n : ℕ) → ((j : ℕ) → j < i + n → f j ≡ g j) → table_from i n f ≡ table_from i n g
  table_from_equal i zero h = refl
  table_from_equal i (suc n) h = ap₂ ◌∷◌ (h i (omega arith)) (table_from_equal (suc i) n (λ j k. h j (omega arith)))

  -- two tables are equal by their elements
  pub table_equal : {f g : ℕ → A} (n : ℕ) → ((j : ℕ) → j < n → f j ≡ g j) → table n f ≡ table n g
  unfolding table
  table_equal n h = table_from_equal 0 n (λ j k. h j (omega arith))

  length-table_from : (f : ℕ → A) (i n : ℕ) → length (table_from i n f) ≡ n
  length-table_from f i zero = refl
  length-table_from f i (suc n) = ap suc (length-table_from f (suc i) n)

  pub length-table : (n : ℕ) (f : ℕ → A) → length (table n f) ≡ n
  unfolding table
  length-table n f = length-table_from f 0 n

  get_or-table_from : (f : ℕ → A) (d : A) (i n k : ℕ) → k < n → get_or (table_from i n f) k d ≡ f (i + k)
  get_or-table_from f d i zero k h = absurd (omega arith)
  get_or-table_from f d i (suc n) zero h = ap f (sym (add-zero i))
  get_or-table_from f d i (suc n) (suc k) h = get_or-table_from f d (suc i) n k (omega arith) ∙ ap f (omega arith)

  pub get_or-table : (n : ℕ) (f : ℕ → A) (k : ℕ) (d : A) → k < n → get_or (table n f) k d ≡ f k
  unfolding table
  get_or-table n f k d h = get_or-table_from f d 0 n k h ∙ ap f (omega arith)

  -- a list of n elements that are f's
  pub is_table : (n : ℕ) (f : ℕ → A) (d : A) (l : List A) → length l ≡ n → ((k : ℕ) → k < n → get_or l k d ≡ f k) → l ≡ table n f
  is_table n f d l e h =
      ext_get_or d l (table n f) (e ∙ sym (length-table n f)) (λ k s. h k (omega arith) ∙ sym (get_or-table n f k d (omega arith)))

  table_from_member : (f : ℕ → A) (i n k : ℕ) → k < n → Memᴰ (f (i + k)) (table_from i n f)
  table_from_member f i zero k h = absurd (omega arith)
  table_from_member f i (suc n) zero h = Memᴰ.head (ap f (add-zero i))
  table_from_member f i (suc n) (suc k) h = Memᴰ.tail (Memᴰ.cast (ap f (omega arith)) (table_from_member f (suc i) n k (omega arith)))

  pub table_member : (n : ℕ) (f : ℕ → A) (k : ℕ) → k < n → Memᴰ (f k) (table n f)
  unfolding table
  table_member n f k h = Memᴰ.cast (ap f (omega arith)) (table_from_member f 0 n k h)

  member_table_from : (f : ℕ → A) (i n : ℕ) {x : A} → Memᴰ x (table_from i n f) → (k : ℕ) × (k < i + n) × (x ≡ f k)
  member_table_from f i zero m = absurd (Memᴰ.not-nil m)
  member_table_from f i (suc n) {x} m = go (Memᴰ.cases_cons m) (member_table_from f (suc i) n)
    where
      go : (x ≡ f i) ⊎ Memᴰ x (table_from (suc i) n f) → (Memᴰ x (table_from (suc i) n f) → (k : ℕ) × (k < suc i + n) × (x ≡ f k))
          → (k : ℕ) × (k < i + suc n) × (x ≡ f k)
      go (inl e) later = (i, omega arith, e)
      go (inr k) later = let l : (k : ℕ) × (k < suc i + n) × (x ≡ f k) = later k in (l.0, omega arith, l.2)

  pub member_table : (n : ℕ) (f : ℕ → A) {x : A} → Memᴰ x (table n f) → (k : ℕ) × (k < n) × (x ≡ f k)
  unfolding table
  member_table n f m = let l : (k : ℕ) × (k < 0 + n) × (_ ≡ f k) = member_table_from f 0 n m in (l.0, omega arith, l.2)

  table_from_next : (f : ℕ → A) (i n : ℕ) → table_from i (suc n) f ≡ table_from i n f ++ (f (i + n) ∷ [])
  table_from_next f i zero = ap (λ (k : ℕ). f k ∷ []) (sym (add-zero i))
  table_from_next f i (suc n) =
      ap (λ (l : List A). f i ∷ l) (table_from_next f (suc i) n ∙ ap (λ (k : ℕ). table_from (suc i) n f ++ (f k ∷ [])) (omega arith))

  -- one element more, at the end
  pub table_next : (n : ℕ) (f : ℕ → A) → table (n + 1) f ≡ table n f ++ (f n ∷ [])
  unfolding table
  table_next n f = rw add-one (table_from_next f 0 n ∙ ap (λ (k : ℕ). table_from 0 n f ++ (f k ∷ [])) (omega arith))

-- ---- some element

module _ (p : ℕ → Bool) where
  pub some_has : (xs : List ℕ) {x : ℕ} → Memᴰ x xs → p x ≡ true → some p xs ≡ true
  some_has [] m e = absurd (Memᴰ.not-nil m)
  some_has (y ∷ xs) {x} m e = go (Memᴰ.cases_cons m) (λ k. some_has xs k e)
    where
      go : (x ≡ y) ⊎ Memᴰ x xs → (Memᴰ x xs → some p xs ≡ true) → (p y || some p xs) ≡ true
      go (inl f) later = rw (← f, e)
      go (inr k) later = rw (later k) (or-true (p y))

  pub some_member : (xs : List ℕ) → some p xs ≡ true → (x : ℕ) × Memᴰ x xs × (p x ≡ true)
  some_member [] e = absurd (false≢true e)
  some_member (y ∷ xs) e = go (p y) refl e (some_member xs)
    where
      go : (t : Bool) → p y ≡ t → (t || some p xs) ≡ true → (some p xs ≡ true → (x : ℕ) × Memᴰ x xs × (p x ≡ true))
          → (x : ℕ) × Memᴰ x (y ∷ xs) × (p x ≡ true)
      go true f e later = (y, Memᴰ.head refl, f)
      go false f e later = let l : (x : ℕ) × Memᴰ x xs × (p x ≡ true) = later e in (l.0, Memᴰ.tail l.1, l.2)

  some_append : (xs ys : List ℕ) → some p (xs ++ ys) ≡ (some p xs || some p ys)
  some_append [] ys = refl
  some_append (x ∷ xs) ys = rw (some_append xs ys) (sym (or_assoc (p x) (some p xs) (some p ys)))

  pub some_next : (n : ℕ) (f : ℕ → ℕ) → some p (table (n + 1) f) ≡ (some p (table n f) || p (f n))
  some_next n f = rw (table_next n f, some_append (table n f) (f n ∷ []), or-false (p (f n)))

-- ---- all or-ed

-- by the bits above the lowest, and the lowest
assoc_below : (n a b c : ℕ) → a ≤ n → bit_or (bit_or a b) c ≡ bit_or a (bit_or b c)
assoc_below zero a b c h = let e : a ≡ 0 = omega arith in rw (e, or_zero_l b, or_zero_l (bit_or b c))
assoc_below (suc n) a b c h =
    let above : bit_or (bit_or (a / 2) (b / 2)) (c / 2) ≡ bit_or (a / 2) (bit_or (b / 2) (c / 2)) =
    assoc_below n (a / 2) (b / 2) (c / 2) (omega arith) in
    let left : bit_or a b / 2 ≡ bit_or (a / 2) (b / 2) = omega (arith, or_step a b) in
    let right : bit_or b c / 2 ≡ bit_or (b / 2) (c / 2) = omega (arith, or_step b c) in
    rw (or_step (bit_or a b) c, or_step a (bit_or b c), left, right, above) (omega (arith, or_step a b, or_step b c))

pub or_group : (a b c : ℕ) → bit_or (bit_or a b) c ≡ bit_or a (bit_or b c)
or_group a b c = assoc_below a a b c (omega arith)

or_append : (xs ys : List ℕ) → or_all (xs ++ ys) ≡ bit_or (or_all xs) (or_all ys)
or_append [] ys = sym (or_zero_l (or_all ys))
or_append (x ∷ xs) ys = rw (or_append xs ys) (sym (or_group x (or_all xs) (or_all ys)))

pub or_next : (n : ℕ) (f : ℕ → ℕ) → or_all (table (n + 1) f) ≡ bit_or (or_all (table n f)) (f n)
or_next n f = rw (table_next n f, or_append (table n f) (f n ∷ []), or_zero_r (f n))

-- numbers of k bits give one of k bits
or_below : (k i n : ℕ) (f : ℕ → ℕ) → ((j : ℕ) → f j < 2 ^ k) → or_all (table_from i n f) < 2 ^ k
or_below k i zero f h = pow_pos k
or_below k i (suc n) f h = or_lt k (f i) (or_all (table_from (suc i) n f)) (h i) (or_below k (suc i) n f h)

pub or_table_below : (k n : ℕ) (f : ℕ → ℕ) → ((j : ℕ) → f j < 2 ^ k) → or_all (table n f) < 2 ^ k
unfolding table
or_table_below k n f h = or_below k 0 n f h

-- a bit that is set in some of them
and_or_below : (n a b m : ℕ) → m ≤ n → bit_and (bit_or a b) m ≡ bit_or (bit_and a m) (bit_and b m)
and_or_below zero a b m h = let e : m ≡ 0 = omega arith in rw (e, and_zero_r (bit_or a b), and_zero_r a, and_zero_r b)
and_or_below (suc n) a b m h =
    let above : bit_and (bit_or (a / 2) (b / 2)) (m / 2) ≡ bit_or (bit_and (a / 2) (m / 2)) (bit_and (b / 2) (m / 2)) =
    and_or_below n (a / 2) (b / 2) (m / 2) (omega arith) in
    let both : bit_or a b / 2 ≡ bit_or (a / 2) (b / 2) = omega (arith, or_step a b) in
    let left : bit_and a m / 2 ≡ bit_and (a / 2) (m / 2) = omega (arith, and_step a m) in
    let right : bit_and b m / 2 ≡ bit_and (b / 2) (m / 2) = omega (arith, and_step b m) in
    rw (and_step (bit_or a b) m, or_step (bit_and a m) (bit_and b m), both, left, right, above)
    (omega (arith, or_step a b, and_step a m, and_step b m))

-- some of the bits m is set
abbrev pub meets : ℕ → ℕ → Bool
meets m x = not (eqb (bit_and x m) 0)

-- or-ed numbers come to 0 exactly if each is 0
pub or_not_zero : (x y : ℕ) → not (eqb (bit_or x y) 0) ≡ (not (eqb x 0) || not (eqb y 0))
or_not_zero zero y = rw (or_zero_l y)
or_not_zero (suc x) y =
    let h : bit_or (suc x) y ≡ 0 → ⊥ = λ e. omega (arith, or_add_and (suc x) y, and_le_r (suc x) y) in
    rw (ne_eqb (bit_or (suc x) y) 0 h, ne_eqb (suc x) 0 (λ e. omega arith))

meets_or : (m a b : ℕ) → meets m (bit_or a b) ≡ (meets m a || meets m b)
meets_or m a b = rw (and_or_below m a b m (omega arith)) (or_not_zero (bit_and a m) (bit_and b m))

pub or_meets : (m : ℕ) (xs : List ℕ) → meets m (or_all xs) ≡ some (meets m) xs
or_meets m [] = refl
or_meets m (x ∷ xs) = rw (meets_or m x (or_all xs), or_meets m xs)

-- ---- what holds of each element

each_from : (P : ℕ → Type 0) (i n : ℕ) (f : ℕ → ℕ) → ((k : ℕ) → i ≤ k → k < i + n → P (f k)) → Each P (table_from i n f)
each_from P i zero f h = tt
each_from P i (suc n) f h = (h i (omega arith) (omega arith), each_from P (suc i) n f (λ k a b. h k (omega arith) (omega arith)))

pub each_table : (P : ℕ → Type 0) (n : ℕ) (f : ℕ → ℕ) → ((k : ℕ) → k < n → P (f k)) → Each P (table n f)
unfolding table
each_table P n f h = each_from P 0 n f (λ k a b. h k (omega arith))

-- ---- parts of a list

module _ {A : Type 0} where
  -- what is read of a part that is lent
  pub part_at : (l : List A) (at n k : ℕ) (d : A) → k < n → get_or (take n (drop at l)) k d ≡ get_or l (at + k) d
  part_at l at n k d h = get_or-take n (drop at l) k d h ∙ get_or-drop at l k d

  -- a part that is lent comes back whole
  pub paste_whole : (l : List A) (at : ℕ) (s : List A) (n : ℕ) → length s ≡ n → paste l at s n ≡ take at l ++ (s ++ drop (at + n) l)
  paste_whole l at s n e =
      let h : length s ≤ n = omega arith in
      ap (λ (r : List A). take at l ++ r ++ drop (at + n) l) (take_all n s h) ∙ append_assoc (take at l) s (drop (at + n) l)

-- ---- a paste, at each place

module _ {A : Type 0} (l : List A) (at : ℕ) (s : List A) (n : ℕ) (fits : at + n ≤ length l) (long : n ≤ length s) (d : A) where
  head : length (take at l ++ take n s) ≡ at + n
  head = length_paste_head l at s n (omega arith) long

  pub paste_before : (p : ℕ) → p < at → get_or (paste l at s n) p d ≡ get_or l p d
  paste_before p h =
      get_or-append (take at l ++ take n s) (drop (at + n) l) d p (omega (arith, head))
      ∙ get_or-append (take at l) (take n s) d p (omega (arith, length-take-le at l (omega arith)))
      ∙ get_or-take at l p d h

  pub paste_inside : (k : ℕ) → k < n → get_or (paste l at s n) (at + k) d ≡ get_or s k d
  paste_inside k h =
      get_or-append (take at l ++ take n s) (drop (at + n) l) d (at + k) (omega (arith, head))
      ∙ ap (λ (x : ℕ). get_or (take at l ++ take n s) (x + k) d) (sym (length-take-le at l (omega arith)))
      ∙ get_or-append-add (take at l) (take n s) k d
      ∙ get_or-take n s k d h

  pub paste_after : (k : ℕ) → get_or (paste l at s n) (at + n + k) d ≡ get_or l (at + n + k) d
  paste_after k =
      ap (λ (x : ℕ). get_or (paste l at s n) (x + k) d) (sym head)
      ∙ get_or-append-add (take at l ++ take n s) (drop (at + n) l) k d
      ∙ get_or-drop (at + n) l k d
