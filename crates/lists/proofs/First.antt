-- Laws of `first_of`, what stands beside the first condition that holds.
-- Assumes nothing.
use Prim.Native.Nat.{ℕ, zero, suc}
use mathlib.Core.Path.{◌≡◌, refl, ◌∙◌}
use mathlib.Core.Logic.{◌≢◌}
use mathlib.Core.Bool.{Bool, true, false, cond}
use mathlib.Core.List.{List, [], ◌∷◌, ◌++◌}
use native.Mathlib.Omega.{arith}
use Rattle.lists.specs.Lists.{first_of, NoneHolds}

-- where nothing of a first list holds, the second decides
pub first_append : {A : Type 0} (xs ys : List (Bool × A)) (d : A) → first_of (xs ++ ys) d ≡ first_of xs (first_of ys d)
first_append [] ys d = refl
first_append (x ∷ xs) ys d = rw (first_append xs ys d)

-- a number other than 0 does not come from what follows
pub first_found : (xs : List (Bool × ℕ)) (n m : ℕ) → first_of xs 0 ≡ suc n → first_of xs m ≡ suc n
first_found [] n m e = absurd (omega arith)
first_found (x ∷ xs) n m e = go x.0 (first_found xs n m) e
  where
    go : (t : Bool) → (first_of xs 0 ≡ suc n → first_of xs m ≡ suc n) → cond t x.1 (first_of xs 0) ≡ suc n
        → cond t x.1 (first_of xs m) ≡ suc n
    go true later e = e
    go false later e = later e

-- so it is the number of both lists
pub first_decides : (xs ys : List (Bool × ℕ)) (k : ℕ) → k ≢ 0 → first_of xs 0 ≡ k → first_of (xs ++ ys) 0 ≡ k
first_decides xs ys zero h e = absurd (h refl)
first_decides xs ys (suc k) h e = first_append xs ys 0 ∙ first_found xs k (first_of ys 0) e

-- ---- which condition it was

-- no condition has the number 0
abbrev pub NonZero : List (Bool × ℕ) → Type 0
NonZero [] = Unit {0}
NonZero (c ∷ cs) = (c.1 ≢ 0) × NonZero cs

-- where no condition holds, what follows is given
pub none_holds : (cs : List (Bool × ℕ)) (m : ℕ) → NoneHolds cs → first_of cs m ≡ m
none_holds [] m h = refl
none_holds (c ∷ cs) m h = rw h.0 (none_holds cs m h.1)

-- and only then, unless it stands beside a condition
pub holds_none : (cs : List (Bool × ℕ)) → NonZero cs → first_of cs 0 ≡ 0 → NoneHolds cs
holds_none [] h e = tt
holds_none (c ∷ cs) h e = go c.0 refl (holds_none cs h.1) e
  where
    go : (t : Bool) → c.0 ≡ t → (first_of cs 0 ≡ 0 → NoneHolds cs) → cond t c.1 (first_of cs 0) ≡ 0 → NoneHolds (c ∷ cs)
    go true _ later e = absurd (h.0 e)
    go false f later e = (f, later e)

-- where none of two lists holds, none of either does
pub none_append : {A : Type 0} (xs ys : List (Bool × A)) → NoneHolds (xs ++ ys) → NoneHolds xs × NoneHolds ys
none_append [] ys h = (tt, h)
none_append (x ∷ xs) ys h = let l : NoneHolds xs × NoneHolds ys = none_append xs ys h.1 in ((h.0, l.0), l.1)

-- and the other way round
pub none_both : {A : Type 0} (xs ys : List (Bool × A)) → NoneHolds xs → NoneHolds ys → NoneHolds (xs ++ ys)
none_both [] ys h k = k
none_both (x ∷ xs) ys h k = (h.0, none_both xs ys h.1 k)
