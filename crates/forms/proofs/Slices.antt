-- A part of a list, `take n (drop at l)`: of a part, of two lists put together, and the list as its parts.
-- Assumes nothing.
use Prim.Native.Nat.{ℕ, zero, suc, ◌+◌, ◌-◌, ◌≤◌, ◌<◌}
use mathlib.Core.Path.{◌≡◌, sym, ap, ◌∙◌}
use mathlib.Core.List.{List, [], ◌∷◌, ◌++◌}
use native.Mathlib.Nat.{suc-add, zero-add}
use native.Mathlib.Omega.{arith}
use lib.ListN.{length, get_or, take, drop, length-drop}
use lib.Seq.{take-take, drop-drop, take_all, take-add, take-nil, drop-nil, length-take-le, take-append-le, drop-append-le, drop_at}
use Rattle.lists.specs.Lists.{Each}

module _ {A : Type 0} where
  drop-take : (n m : ℕ) (l : List A) → drop n (take (n + m) l) ≡ take m (drop n l)
  drop-take zero m l = rw (zero-add m)
  drop-take (suc n) m [] = ap (drop (suc n)) (take-nil (suc n + m)) ∙ drop-nil (suc n) ∙ sym (take-nil m)
  drop-take (suc n) m (x ∷ l) = ap (λ (k : ℕ). drop (suc n) (take k (x ∷ l))) (suc-add n m) ∙ drop-take n m l

  pub length_part : (at n : ℕ) (l : List A) → at + n ≤ length l → length (take n (drop at l)) ≡ n
  length_part at n l h = length-take-le n (drop at l) (omega (arith, length-drop at l))

  -- a part that is lent to the end
  pub to_end : (n : ℕ) (l : List A) → take (length l - n) (drop n l) ≡ drop n l
  to_end n l = take_all (length l - n) (drop n l) (omega (arith, length-drop n l))

  -- of a part
  pub part_part : (b m at n : ℕ) (l : List A) → at + n ≤ m → take n (drop at (take m (drop b l))) ≡ take n (drop (b + at) l)
  part_part b m at n l h =
      let e : m ≡ at + (m - at) = omega arith in
      rw (e, drop-take at (m - at) (drop b l), take-take n (m - at) (drop at (drop b l)) (omega arith), drop-drop at b l)

  -- of two lists, in the first; the second
  pub part_first : (at n : ℕ) (xs ys : List A) → at + n ≤ length xs → take n (drop at (xs ++ ys)) ≡ take n (drop at xs)
  part_first at n xs ys h =
      rw (drop-append-le at xs ys (omega arith), take-append-le n (drop at xs) ys (omega (arith, length-drop at xs)))

  pub part_second : (at n : ℕ) (xs ys : List A) → length xs ≡ at → length ys ≡ n → take n (drop at (xs ++ ys)) ≡ ys
  part_second at n xs ys h k = rw (drop_at xs ys at h, take_all n ys (omega arith))

  -- a part, and the next
  pub part_next : (at n m : ℕ) (l : List A) → take n (drop at l) ++ take m (drop (at + n) l) ≡ take (n + m) (drop at l)
  part_next at n m l = rw (← drop-drop n at l) (sym (take-add n m (drop at l)))

-- ---- what holds of each element

pub each_take : (P : ℕ → Type 0) (n : ℕ) (l : List ℕ) → Each P l → Each P (take n l)
each_take P zero l h = tt
each_take P (suc n) [] h = tt
each_take P (suc n) (x ∷ l) h = (h.0, each_take P n l h.1)

pub each_drop : (P : ℕ → Type 0) (n : ℕ) (l : List ℕ) → Each P l → Each P (drop n l)
each_drop P zero l h = h
each_drop P (suc n) [] h = tt
each_drop P (suc n) (x ∷ l) h = each_drop P n l h.1

pub each_part : (P : ℕ → Type 0) (at n : ℕ) (l : List ℕ) → Each P l → Each P (take n (drop at l))
each_part P at n l h = each_take P n (drop at l) (each_drop P at l h)

pub each_at : (P : ℕ → Type 0) (l : List ℕ) (k d : ℕ) → Each P l → k < length l → P (get_or l k d)
each_at P [] k d h i = absurd (omega arith)
each_at P (x ∷ l) zero d h i = h.0
each_at P (x ∷ l) (suc k) d h i = each_at P l k d h.1 (omega arith)
