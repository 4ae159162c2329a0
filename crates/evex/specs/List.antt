-- docs/RULES.md, R2.1 and R2.2: the list of instructions, a row for each. A new instruction is a new row.
use Rattle.std.specs.Prelude.{ℕ, Bool, true, false, cond, ◌&&◌, List, [], ◌∷◌, eqb, Option, Some, None}
use Rattle.evex.specs.declared.Operation.{Operation}
use Rattle.evex.specs.declared.Operation.TheVariants.{Add, Multiply, Subtract, Divide, SquareRoot, Fused132, Fused213, Fused231}
use Rattle.evex.specs.declared.Operation.TheVariants.{Minimum, Maximum, Compare}
use Rattle.evex.specs.declared.Shape.{Shape}
use Rattle.evex.specs.declared.list.Row.{Row}

-- ---- R2.2: shapes

-- two sources
abbrev pub packed : Shape
packed = record { scalar = false; first = true; accumulates = false; suppresses = false; mask = false; immediate = false }

-- the second source alone
abbrev pub root : Shape
root = record { scalar = false; first = false; accumulates = false; suppresses = false; mask = false; immediate = false }

-- two sources and the destination
abbrev pub fused : Shape
fused = record { scalar = false; first = true; accumulates = true; suppresses = false; mask = false; immediate = false }

-- one element, and two sources, of the root too
abbrev pub scalar : Shape
scalar = record { scalar = true; first = true; accumulates = false; suppresses = false; mask = false; immediate = false }

-- one element, and two sources and the destination
abbrev pub fused_scalar : Shape
fused_scalar = record { scalar = true; first = true; accumulates = true; suppresses = false; mask = false; immediate = false }

-- two sources, of which nothing is rounded
abbrev pub selecting : Shape
selecting = record { scalar = false; first = true; accumulates = false; suppresses = true; mask = false; immediate = false }

-- the same, to a mask and by an immediate
abbrev pub comparing : Shape
comparing = record { scalar = false; first = true; accumulates = false; suppresses = true; mask = true; immediate = true }

-- ---- R2.1: the table

-- R3.3: the prefixes that it has
abbrev none : ℕ
none = 0

abbrev p66 : ℕ
p66 = 1

abbrev p_f3 : ℕ
p_f3 = 2

-- prefix, map, W, opcode; operation; shape
unfoldable pub rows : List Row
rows =
    (none, 5, 0, 0x58, Add, packed)
    ∷ (none, 5, 0, 0x59, Multiply, packed)
    ∷ (none, 5, 0, 0x5C, Subtract, packed)
    ∷ (none, 5, 0, 0x5E, Divide, packed)
    ∷ (none, 5, 0, 0x51, SquareRoot, root)
    ∷ (p66, 6, 0, 0x98, Fused132, fused)
    ∷ (p66, 6, 0, 0xA8, Fused213, fused)
    ∷ (p66, 6, 0, 0xB8, Fused231, fused)
    ∷ (p_f3, 5, 0, 0x58, Add, scalar)
    ∷ (p_f3, 5, 0, 0x59, Multiply, scalar)
    ∷ (p_f3, 5, 0, 0x5C, Subtract, scalar)
    ∷ (p_f3, 5, 0, 0x5E, Divide, scalar)
    ∷ (p_f3, 5, 0, 0x51, SquareRoot, scalar)
    ∷ (p66, 6, 0, 0x99, Fused132, fused_scalar)
    ∷ (p66, 6, 0, 0xA9, Fused213, fused_scalar)
    ∷ (p66, 6, 0, 0xB9, Fused231, fused_scalar)
    ∷ (none, 5, 0, 0x5D, Minimum, selecting)
    ∷ (none, 5, 0, 0x5F, Maximum, selecting)
    ∷ (none, 3, 0, 0xC2, Compare, comparing)
    ∷ []

-- ---- the columns by name

-- R4.9: the row has this prefix, map, W and opcode.
abbrev pub is_for : Row → ℕ → ℕ → ℕ → ℕ → Bool
is_for r prefix map w opcode = eqb r.0 prefix && eqb r.1 map && eqb r.2 w && eqb r.3 opcode

-- R2.1: what it computes.
abbrev pub operation : Row → Operation
operation r = r.4

-- R2.2, R3.6 to R3.8, R3.15: its operands and destination, whether it has one element, what b does, whether it has an immediate.
abbrev pub shape : Row → Shape
shape r = r.5

-- R4.9: the row that has them, or that there is none.
abbrev pub find : List Row → ℕ → ℕ → ℕ → ℕ → Option Row
find [] prefix map w opcode = None
find (r ∷ rs) prefix map w opcode = cond (is_for r prefix map w opcode) (Some r) (find rs prefix map w opcode)
