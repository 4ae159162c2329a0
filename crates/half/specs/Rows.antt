-- docs/RULES.md, R12.1: the examples marked *, one table. The statement over it, by these definitions and by a step, is the machine's
-- (crate machine, specs/Rows.antt).
use Rattle.std.specs.Prelude.{ℕ, Bool, true, false, List, [], ◌∷◌}
use Rattle.std.specs.Int.Bits.{bit_or}
use Rattle.half.specs.Round.{IE, DE, ZE, OE, UE, PE, outcome}
use Rattle.half.specs.Operations.{half_add, half_multiply, half_divide, half_root, half_multiply_add}
use Rattle.half.specs.declared.Mode.{Mode}
use Rattle.half.specs.declared.Mode.TheVariants.{Nearest, Down, Up, TowardZero}
use Rattle.half.specs.declared.Outcome.{Outcome}

-- ---- R12.1

pub data Operation : Type 0 where
  plus times over root fused : Operation

-- operands that an operation does not have are 0
pub record Row : Type 0 where
  pub op : Operation
  pub mode : Mode
  pub unmasked_ue : Bool
  pub a : ℕ
  pub b : ℕ
  pub c : ℕ
  pub gives : Outcome

abbrev pub row : Operation → Mode → Bool → ℕ → ℕ → ℕ → ℕ → ℕ → Row
row o m u a b c h f = record { op = o; mode = m; unmasked_ue = u; a = a; b = b; c = c; gives = outcome h f }

-- The table. A row has the operation, the mode, whether UE is unmasked, three operands, the half and the flags.
unfoldable pub starred : List Row
starred =
    row plus Nearest false 0x3C00 0xBC00 0 0x0000 0
    ∷ row plus Down false 0x3C00 0xBC00 0 0x8000 0
    ∷ row plus Nearest false 0x7BFF 0x4C00 0 0x7C00 (bit_or OE PE)
    ∷ row plus Nearest false 0x7BFF 0x4BFF 0 0x7BFF PE
    ∷ row over Nearest false 0x3C00 0x4200 0 0x3555 PE
    ∷ row over Up false 0x3C00 0x4200 0 0x3556 PE
    ∷ row times Nearest false 0x0001 0x3800 0 0x0000 (bit_or DE (bit_or UE PE))
    ∷ row times Nearest false 0x2010 0x1FE0 0 0x0400 PE
    ∷ row times TowardZero false 0x2010 0x1FE0 0 0x03FF (bit_or UE PE)
    ∷ row times Nearest false 0x0400 0x3800 0 0x0200 0
    ∷ row times Nearest true 0x0400 0x3800 0 0x0200 UE
    ∷ row fused Nearest false 0x3C01 0x3C01 0xBC02 0x0010 0
    ∷ row root Nearest false 0x4000 0 0 0x3DA8 PE
    ∷ row root Nearest false 0xBC00 0 0 0xFE00 IE
    ∷ row plus Nearest false 0x7E01 0x7D00 0 0x7E01 IE
    ∷ row plus Nearest false 0x7D00 0x3C00 0 0x7F00 IE
    ∷ row over Nearest false 0x0001 0x0000 0 0x7C00 ZE
    ∷ row over Nearest false 0x7E01 0x0000 0 0x7E01 0
    ∷ []

-- what the definitions give for a row
abbrev pub outcome_of : Row → Outcome
outcome_of r = go r.op
  where
    go : Operation → Outcome
    go plus = half_add r.mode r.unmasked_ue r.a r.b
    go times = half_multiply r.mode r.unmasked_ue r.a r.b
    go over = half_divide r.mode r.unmasked_ue r.a r.b
    go root = half_root r.mode r.unmasked_ue r.a
    go fused = half_multiply_add r.mode r.unmasked_ue r.a r.b r.c
