-- docs/RULES.md, R2.2, R3.7 and R4.10: what is decoded where a row has one element. The statement; its proof is in proofs/Scalar.antt.
use Rattle.std.specs.Prelude.{ℕ, ◌≡◌, Bool, true, false, List, Ok, Some}
use Rattle.evex.specs.Decode.{decoded}
use Rattle.evex.specs.declared.Address.{Address}
use Rattle.evex.specs.declared.Operand.TheVariants as operand
use Rattle.evex.specs.declared.Instruction.{Instruction}

-- R2.2, R3.7, R4.10: of an instruction
pub record OneElement (i : Instruction) : Type 0 where
  -- R3.7: whatever the length bits
  pub elements : i.elements ≡ 1
  -- R2.2: the root's too
  pub has_first : (n : ℕ) × (i.first ≡ Some n)
  -- R4.10: b in memory form is refused
  pub plain : (address : Address) (broadcast : Bool) → i.second ≡ operand.Memory address broadcast → broadcast ≡ false

-- R3.7: of every scalar instruction.
abbrev pub ScalarForms : Type 0
ScalarForms = (code : List ℕ) (i : Instruction) → decoded code ≡ Ok i → i.shape.scalar ≡ true → OneElement i
