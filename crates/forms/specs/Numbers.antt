-- docs/RULES.md, R9.2: numbers in a saved form.
use Rattle.std.specs.Prelude.{ℕ, zero, suc, ◌+◌, ◌*◌, ◌/◌, ◌%◌, ◌^◌, get_or, take, drop}
use mathlib.Core.List.{List, [], ◌∷◌, flatten}
use Rattle.lists.specs.Lists.{table}

-- ---- R9.2

-- a number in n bytes, the highest first
unfoldable pub big : ℕ → ℕ → List ℕ
big zero x = []
big (suc n) x = (x / 256 ^ n % 256) ∷ big n x

-- the number that bytes stand for, behind bytes that stand for x
unfoldable pub value_from : ℕ → List ℕ → ℕ
value_from x [] = x
value_from x (b ∷ bs) = value_from (x * 256 + b) bs

-- the number in the n bytes from a place on
abbrev pub number_in : List ℕ → ℕ → ℕ → ℕ
number_in bytes at n = value_from 0 (take n (drop at bytes))

-- f 0, .., f (n - 1) put together
unfoldable pub joined : ℕ → (ℕ → List ℕ) → List ℕ
joined n f = flatten (table n f)

-- registers 0 to n - 1, in 8 bytes each
unfoldable pub registers : ℕ → List ℕ → List ℕ
registers n values = joined n (λ k. big 8 (get_or values k 0))
