-- docs/RULES.md, R12.2: what the bytes of the examples marked + decode to. The statement; its proof is in proofs/Rows.antt.
use Rattle.std.specs.Prelude.{ℕ, ◌≡◌, Bool, true, false, List, [], ◌∷◌, ℤ, pos, Result, Ok, Err, Some, None}
use Rattle.half.specs.declared.Mode.TheVariants.{Down}
use Rattle.evex.specs.List.{packed, comparing}
use Rattle.evex.specs.Decode.{decoded}
use Rattle.evex.specs.declared.Operation.TheVariants.{Add, Compare}
use Rattle.evex.specs.declared.Rounding.{Rounding}
use Rattle.evex.specs.declared.Rounding.TheVariants.{Control, Embedded, Suppressed}
use Rattle.evex.specs.declared.Destination.TheVariants.{Vector, Mask}
use Rattle.evex.specs.declared.Base.TheVariants as base
use Rattle.evex.specs.declared.Operand.{Operand}
use Rattle.evex.specs.declared.Operand.TheVariants as operand
use Rattle.evex.specs.declared.Refusal.TheVariants.{Reserved}
use Rattle.evex.specs.declared.Instruction.{Instruction}
use Rattle.evex.specs.declared.Refusal.{Refusal}

-- ---- R12.2

-- 62 F5 74 D9 58 40 01 and the like: byte 3, and what follows the opcode
abbrev bytes : ℕ → List ℕ → List ℕ
bytes byte3 end = 0x62 ∷ 0xF5 ∷ 0x74 ∷ byte3 ∷ 0x58 ∷ end

-- 62 F3 74 49 C2 DA 12 and the like
abbrev compare_bytes : ℕ → List ℕ → List ℕ
compare_bytes byte3 end = 0x62 ∷ 0xF3 ∷ 0x74 ∷ byte3 ∷ 0xC2 ∷ end

-- VADDPH of 32 lanes, register 1 and another operand into register 0
abbrev adds : Rounding → Bool → ℕ → Operand → ℕ → Result Instruction Refusal
adds rounding zeroing mask second size =
    Ok
    (record {
      operation = Add;
      shape = packed;
      elements = 32;
      rounding = rounding;
      zeroing = zeroing;
      mask = mask;
      destination = Vector 0;
      first = Some 1;
      second = second;
      immediate = 0;
      size = size;
    })

-- VCMPPH of 32 lanes by predicate 18, register 1 and another operand into mask 3, with mask 1
abbrev compares : Rounding → Operand → ℕ → Result Instruction Refusal
compares rounding second size =
    Ok
    (record {
      operation = Compare;
      shape = comparing;
      elements = 32;
      rounding = rounding;
      zeroing = false;
      mask = 1;
      destination = Mask 3;
      first = Some 1;
      second = second;
      immediate = 18;
      size = size;
    })

-- memory at RAX and a displacement
abbrev from_rax : ℤ → Bool → Operand
from_rax displacement broadcast =
    operand.Memory (record { base = Some (base.General 0); index = None; displacement = displacement }) broadcast

-- the statement
abbrev pub DecodedBytes : Type 0
DecodedBytes =
    (decoded (bytes 0xD9 (0x40 ∷ 0x01 ∷ [])) ≡ adds Control true 1 (from_rax (pos 2) true) 7)
    × (decoded (bytes 0xC9 (0x40 ∷ 0x01 ∷ [])) ≡ adds Control true 1 (from_rax (pos 64) false) 7)
    × (decoded (bytes 0x38 (0xC2 ∷ [])) ≡ adds (Embedded Down) false 0 (operand.Register 2) 6)
    × (decoded (bytes 0xC8 (0xC2 ∷ [])) ≡ Err Reserved)
    × (decoded (bytes 0x48 (0xC2 ∷ [])) ≡ adds Control false 0 (operand.Register 2) 6)
    × (decoded (compare_bytes 0x79 (0xDA ∷ 0x12 ∷ [])) ≡ compares Suppressed (operand.Register 2) 7)
    × (decoded (compare_bytes 0x49 (0x58 ∷ 0x01 ∷ 0x12 ∷ [])) ≡ compares Control (from_rax (pos 64) false) 8)
    × (decoded (compare_bytes 0xC9 (0xDA ∷ 0x12 ∷ [])) ≡ Err Reserved)
