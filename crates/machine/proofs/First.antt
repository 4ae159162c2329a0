-- `first_of` gives the answers in order, as the statement says it.
-- Assumes nothing.
use Prim.Native.Nat.{ℕ}
use mathlib.Core.Path.{◌≡◌, refl, sym, ap}
use mathlib.Core.Logic.{◌≢◌}
use mathlib.Core.Bool.{Bool, true, false, cond}
use mathlib.Core.List.{List, [], ◌∷◌}
use Rattle.lists.specs.Lists.{first_of}
use Rattle.lists.proofs.First.{first_append, NonZero, none_holds, holds_none}
use Rattle.machine.specs.Answers.{IsFirst, InOrder}

-- the number beside the first that holds is given
pub is_first : (cs : List (Bool × ℕ)) (m n : ℕ) → IsFirst cs n → first_of cs m ≡ n
is_first cs m n f = rw (f.order, first_append f.earlier) (none_holds f.earlier n f.none)

-- and no other
pub first_is : (cs : List (Bool × ℕ)) (n : ℕ) → n ≢ 0 → first_of cs 0 ≡ n → IsFirst cs n
first_is [] n h e = absurd (h (sym e))
first_is (c ∷ cs) n h e = go c.0 refl (first_is cs n h) e
  where
    go : (t : Bool) → c.0 ≡ t → (first_of cs 0 ≡ n → IsFirst cs n) → cond t c.1 (first_of cs 0) ≡ n → IsFirst (c ∷ cs) n
    go true f later e = record { earlier = []; later = cs; order = λ x. (f x, e x) ∷ cs; none = tt }
    go false f later e =
        let l : IsFirst cs n = later e in
        record { earlier = c ∷ l.earlier; later = l.later; order = ap (λ (ds : List (Bool × ℕ)). c ∷ ds) l.order; none = (f, l.none) }

-- all of it: conditions with numbers other than 0 give theirs in order
pub in_order : (cs : List (Bool × ℕ)) → NonZero cs → InOrder cs (first_of cs 0)
in_order cs h = record { done = (holds_none cs h, none_holds cs 0); given = λ k z. (first_is cs k z, is_first cs 0 k) }
