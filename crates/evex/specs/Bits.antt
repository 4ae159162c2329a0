-- Bits of a byte, and signed numbers, as docs/RULES.md speaks of them in section 3.
use Rattle.std.specs.Prelude.{ℕ, ◌+◌, ◌-◌, ◌/◌, ◌%◌, ◌^◌, Bool, cond, List, [], ◌∷◌, eqb, ltb, ℤ, pos, ◌-ℤ◌, get_or}
use Rattle.lists.specs.Lists.{number_at}

-- R3.2: `width` bits of x, from bit `at` on.
abbrev pub bits : ℕ → ℕ → ℕ → ℕ
bits x at width = x / 2 ^ at % 2 ^ width

abbrev pub is_set : ℕ → ℕ → Bool
is_set x at = eqb (bits x at 1) 1

-- R3.2: the same bits, where they are stored inverted.
abbrev pub inverted : ℕ → ℕ → ℕ → ℕ
inverted x at width = 2 ^ width - 1 - bits x at width

-- R3.12: the byte at a place; past the end it reads as 0.
abbrev pub byte : List ℕ → ℕ → ℕ
byte code at = get_or code at 0

-- R3.12: the number of four bytes from a place on, the lowest first.
abbrev pub four_bytes : List ℕ → ℕ → ℕ
four_bytes code at = number_at code (at ∷ (at + 1) ∷ (at + 2) ∷ (at + 3) ∷ [])

-- R3.12: the signed number that `width` bits stand for (two's complement).
abbrev pub signed : ℕ → ℕ → ℤ
signed width x = cond (ltb x (2 ^ (width - 1))) (pos x) (pos x -ℤ pos (2 ^ width))
