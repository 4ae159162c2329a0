-- docs/RULES.md, R3.6, R3.8 and R4.10: what a decoded instruction writes, and what b is in register form. The statements; their proofs are
-- in proofs/Compared.antt.
use Rattle.std.specs.Prelude.{ℕ, ◌<◌, ◌≡◌, ◌≢◌, true, false, List, Ok}
use Rattle.half.specs.Modes.{mode_of_bits}
use Rattle.evex.specs.Fields.{head_of, length_bits, register_b}
use Rattle.evex.specs.Decode.{decoded}
use Rattle.evex.specs.declared.head.Head.{Head}
use Rattle.evex.specs.declared.Operation.TheVariants.{Compare}
use Rattle.evex.specs.declared.Rounding.TheVariants.{Control, Embedded, Suppressed}
use Rattle.evex.specs.declared.Destination.TheVariants.{Vector, Mask}
use Rattle.evex.specs.declared.Instruction.{Instruction}

-- R3.6, R4.10: what an instruction writes
pub record Writes (i : Instruction) : Type 0 where
  -- a comparison a mask, one that there is, without zeroing
  pub mask : i.operation ≡ Compare → (n : ℕ) × (n < 8) × (i.destination ≡ Mask n) × (i.zeroing ≡ false)
  -- every other one a vector register
  pub vector : i.operation ≢ Compare → (n : ℕ) × (n < 32) × (i.destination ≡ Vector n)

-- R3.6: every instruction.
abbrev pub Destinations : Type 0
Destinations = (code : List ℕ) (i : Instruction) → decoded code ≡ Ok i → Writes i

-- R3.8: what b in register form makes of an instruction that begins so
pub record ByB (h : Head) (i : Instruction) : Type 0 where
  -- one that rounds nothing suppresses its exceptions, and has 32 elements, whatever the length bits
  pub suppresses : register_b h ≡ true → i.shape.suppresses ≡ true → (i.rounding ≡ Suppressed) × (i.elements ≡ 32)
  -- every other one rounds by them
  pub rounds : register_b h ≡ true → i.shape.suppresses ≡ false → i.rounding ≡ Embedded (mode_of_bits (length_bits h))
  -- without it the control word counts
  pub control : register_b h ≡ false → i.rounding ≡ Control

-- R3.8: every instruction.
abbrev pub SuppressedForms : Type 0
SuppressedForms = (code : List ℕ) (i : Instruction) → decoded code ≡ Ok i → ByB (head_of code) i
