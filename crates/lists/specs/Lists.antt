-- The words for lists that the definitions share. No clause of docs/RULES.md speaks of them.
use Rattle.std.specs.Prelude.{ℕ, zero, suc, ◌+◌, ◌*◌, ◌≡◌, Bool, false, ◌||◌, cond, List, [], ◌∷◌, get_or}
use Rattle.std.specs.Int.Bits.{bit_or}

-- ---- of all elements

-- some element passes the test
abbrev pub some : {A : Type 0} → (A → Bool) → List A → Bool
some p [] = false
some p (x ∷ xs) = p x || some p xs

-- every element has the property
abbrev pub Each : (ℕ → Type 0) → List ℕ → Type 0
Each P [] = Unit {0}
Each P (x ∷ xs) = P x × Each P xs

-- all elements or-ed
abbrev pub or_all : List ℕ → ℕ
or_all [] = 0
or_all (x ∷ xs) = bit_or x (or_all xs)

-- ---- lists that are made

-- f i, f (i + 1), .., f (i + n - 1)
abbrev pub table_from : {A : Type 0} → ℕ → ℕ → (ℕ → A) → List A
table_from i zero f = []
table_from i (suc n) f = f i ∷ table_from (suc i) n f

-- f 0, .., f (n - 1)
unfoldable pub table : {A : Type 0} → ℕ → (ℕ → A) → List A
table n f = table_from 0 n f

-- ---- numbers

-- the little-endian number whose bytes stand at these places of a list; past its end a byte reads as 0
abbrev pub number_at : List ℕ → List ℕ → ℕ
number_at l [] = 0
number_at l (p ∷ ps) = get_or l p 0 + number_at l ps * 256

-- the number with these binary digits, the lowest first
abbrev pub binary : List ℕ → ℕ
binary [] = 0
binary (b ∷ bs) = b + 2 * binary bs

-- ---- answers that are given in an order: the first condition that holds decides

-- what stands beside the first condition that holds, and `otherwise` where none holds
abbrev pub first_of : {A : Type 0} → List (Bool × A) → A → A
first_of [] otherwise = otherwise
first_of (c ∷ cs) otherwise = cond c.0 c.1 (first_of cs otherwise)

-- no condition holds
abbrev pub NoneHolds : {A : Type 0} → List (Bool × A) → Type 0
NoneHolds [] = Unit {0}
NoneHolds (c ∷ cs) = (c.0 ≡ false) × NoneHolds cs
