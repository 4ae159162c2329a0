-- docs/RULES.md, R3.14: how many bytes an instruction has. The statements; their proofs are in proofs/Sizes.antt.
use Rattle.std.specs.Prelude.{ℕ, ◌+◌, ◌≤◌, ◌≡◌, List, [], ◌∷◌, length, Ok}
use Rattle.evex.specs.Fields.{size}
use Rattle.evex.specs.Decode.{decoded}
use Rattle.evex.specs.declared.head.Head.{Head}
use Rattle.evex.specs.declared.list.Row.{Row}
use Rattle.evex.specs.declared.Instruction.{Instruction}

-- R3.14: 6, byte 62 and the prefix, opcode, ModRM.
abbrev pub shortest : ℕ
shortest = 4 + 1 + 1

-- R3.14: 12, with a SIB byte, a displacement of four bytes and an immediate.
abbrev pub longest : ℕ
longest = shortest + 1 + 4 + 1

-- R3.14: no instruction is shorter or longer, whatever the head and the row: those of R2.1, and any other with the same columns.
abbrev pub RowSizes : Type 0
RowSizes = (h : Head) (row : Row) → (shortest ≤ size h row) × (size h row ≤ longest)

-- R3.14: as many bytes as an instruction at the beginning of this code may have; they are all there.
abbrev pub IsSize : List ℕ → ℕ → Type 0
IsSize code n = (shortest ≤ n) × (n ≤ longest) × (n ≤ length code)

-- R3.14: whatever is decoded has so many.
abbrev pub DecodedSizes : Type 0
DecodedSizes = (code : List ℕ) (i : Instruction) → decoded code ≡ Ok i → IsSize code i.size

-- R3.14: the code is decoded, as n bytes
abbrev pub DecodedAs : List ℕ → ℕ → Type 0
DecodedAs code n = (i : Instruction) × (decoded code ≡ Ok i) × (i.size ≡ n)

-- R3.14: neither bound can be closer. VADDPH of registers 1 and 2; VCMPPH of register 1 and memory, with a SIB byte and four bytes of
-- displacement.
abbrev pub SizesReached : Type 0
SizesReached =
    DecodedAs (0x62 ∷ 0xF5 ∷ 0x74 ∷ 0x48 ∷ 0x58 ∷ 0xC2 ∷ []) shortest
    × DecodedAs (0x62 ∷ 0xF3 ∷ 0x74 ∷ 0x49 ∷ 0xC2 ∷ 0x84 ∷ 0xC8 ∷ 0x00 ∷ 0x01 ∷ 0x00 ∷ 0x00 ∷ 0x12 ∷ []) longest
