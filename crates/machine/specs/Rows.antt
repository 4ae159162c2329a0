-- docs/RULES.md, R12.1 and R12.4 to R12.6: the examples marked *. One statement over the single table `starred` of the arithmetic, shown for
-- the arithmetic and for a step, one over the control words of a step of two lanes, one over scalar steps, and one over those of minimum,
-- maximum and comparison. Their proofs are in proofs/Rows.antt.
use Rattle.std.specs.Prelude.{ℕ, ◌+◌, ◌-◌, ◌*◌, ◌/◌, ◌%◌, ◌^◌, ◌≡◌, cond, List, [], ◌∷◌, ◌++◌, map, replicate, take}
use Rattle.std.specs.Int.Bits.{bit_or}
use Rattle.half.specs.Rows.{Operation, plus, times, over, root, fused, Row, starred, outcome_of}
use Rattle.half.specs.declared.Mode.{Mode}
use Rattle.half.specs.declared.Mode.TheVariants.{Nearest, Down, Up, TowardZero}
use Rattle.half.specs.declared.Outcome.{Outcome}
use Rattle.machine.specs.State.{State, Stepped}
use Rattle.machine.specs.Step.{step}

-- ---- R12.1, the bytes: a stands in register 1, b in register 2, c in register 0, which is the destination; mask 1, length bits 2

-- VADDPH, VMULPH, VDIVPH of registers 1 and 2; VSQRTPH of register 1; VFMADD231PH, register 1 * register 2 + register 0
abbrev pub bytes_of : Operation → List ℕ
bytes_of plus = 0x62 ∷ 0xF5 ∷ 0x74 ∷ 0x49 ∷ 0x58 ∷ 0xC2 ∷ []
bytes_of times = 0x62 ∷ 0xF5 ∷ 0x74 ∷ 0x49 ∷ 0x59 ∷ 0xC2 ∷ []
bytes_of over = 0x62 ∷ 0xF5 ∷ 0x74 ∷ 0x49 ∷ 0x5E ∷ 0xC2 ∷ []
bytes_of root = 0x62 ∷ 0xF5 ∷ 0x7C ∷ 0x49 ∷ 0x51 ∷ 0xC1 ∷ []
bytes_of fused = 0x62 ∷ 0xF6 ∷ 0x75 ∷ 0x49 ∷ 0xB8 ∷ 0xC2 ∷ []

-- ---- R12.1, R12.4 to R12.6: the state

-- halves as bytes, the low one first
abbrev bytes_of_halves : List ℕ → List ℕ
bytes_of_halves [] = []
bytes_of_halves (h ∷ hs) = h % 256 ∷ h / 256 ∷ bytes_of_halves hs

-- 64 bytes with these halves in the lanes from 0 on. All other lanes hold 7D7D, a signalling NaN: were one of them on, it would raise IE.
abbrev register : List ℕ → List ℕ
register hs = take 64 (bytes_of_halves hs ++ replicate 64 0x7D)

abbrev number_of_mode : Mode → ℕ
number_of_mode Nearest = 0
number_of_mode Down = 1
number_of_mode Up = 2
number_of_mode TowardZero = 3

-- the mode in bits 13 and 14; all exceptions masked, or all but UE (bit 11)
abbrev control_of : Row → ℕ
control_of r = number_of_mode r.mode * 2 ^ 13 + cond r.unmasked_ue 0x1780 0x1F80

-- registers 0, 1 and 2 with these halves
abbrev state_with : List ℕ → List ℕ → List ℕ → List ℕ → ℕ → ℕ → State
state_with z0 z1 z2 masks control pointer =
    record {
      vectors = register z0 ++ (register z1 ++ (register z2 ++ replicate (29 * 64) 0x7D));
      masks = masks;
      general = replicate 16 0;
      control = control;
      pointer = pointer;
    }

-- masks of which only mask 1 is not 0
abbrev mask1 : ℕ → List ℕ
mask1 mask = 0 ∷ mask ∷ replicate 6 0

-- the row's state, with d in lane 0 of the destination, which alone is on
abbrev row_state : Row → ℕ → ℕ → ℕ → State
row_state r d control pointer = state_with (d ∷ []) (r.a ∷ []) (r.b ∷ []) (mask1 1) control pointer

abbrev pub start : Row → State
start r = row_state r r.c (control_of r) 0

-- ---- R12.1, what a step is to give: the half in lane 0, its flags in the control word, the pointer moved; with UE unmasked 8, and the
-- flags alone

abbrev pub after : Row → Stepped
after r =
    cond r.unmasked_ue
    (record { answer = record { number = 8; length = 0 }; state = row_state r r.c (bit_or (control_of r) r.gives.flags) 0 })
    (record { answer = record { number = 0; length = 6 }; state = row_state r r.gives.half (bit_or (control_of r) r.gives.flags) 6 })

-- ---- R12.1, the statement

-- what the definitions give for a row: the arithmetic's, and a step's with the row in lane 0 (and no memory)
abbrev pub given : Row → Outcome × Stepped
given r = (outcome_of r, step [] (start r) (bytes_of r.op))

abbrev pub expected : Row → Outcome × Stepped
expected r = (r.gives, after r)

-- Every starred row.
abbrev pub StarredRows : Type 0
StarredRows = map given starred ≡ map expected starred

-- ---- R12.4: VDIVPH with lanes 0 and 1 on, of which the first divides 1 by 0 and raises ZE, the second 1 by 3 and raises PE

abbrev pub stages_start : ℕ → State
stages_start control = state_with [] (0x3C00 ∷ 0x3C00 ∷ []) (0x0000 ∷ 0x4200 ∷ []) (mask1 3) control 0

-- the control word before and after: ZE alone unmasked, PE alone, both
abbrev pub stages : List (ℕ × ℕ)
stages = (0x1D80, 0x1D84) ∷ (0x0F80, 0x0FA4) ∷ (0x0D80, 0x0D84) ∷ []

-- Each stops with 8, and nothing changes but the control word.
abbrev pub TwoStages : Type 0
TwoStages =
    map (λ c. step [] (stages_start c.0) (bytes_of over)) stages
    ≡ map (λ c. record { answer = record { number = 8; length = 0 }; state = stages_start c.1 }) stages

-- ---- R12.5: scalar instructions, each register with other lanes than the others

-- a half in lane 0, and n + j in lane j, for j from 1 to 8
abbrev counting : ℕ → ℕ → List ℕ
counting half n = half ∷ (n + 1) ∷ (n + 2) ∷ (n + 3) ∷ (n + 4) ∷ (n + 5) ∷ (n + 6) ∷ (n + 7) ∷ (n + 8) ∷ []

-- registers 0, 1 and 2 hold 4, 1 and 4 in lane 0
abbrev pub scalar_start : ℕ → State
scalar_start mask = state_with (counting 0x4400 0x10) (counting 0x3C00 0x20) (counting 0x4400 0x30) (mask1 mask) 0x1F80 0

-- the same, with register 0 as a step has left it: a half in lane 0, lanes 1 to 7 those of the register with this n, 0 above
abbrev scalar_after : ℕ → ℕ → ℕ → State
scalar_after mask half n =
    state_with (take 8 (counting half n) ++ replicate 24 0) (counting 0x3C00 0x20) (counting 0x4400 0x30) (mask1 mask) 0x1F80 6

-- code, mask 1, and what is left: the half of lane 0, and the n of the register that lanes 1 to 7 come from
abbrev pub scalar_rows : List (List ℕ × ℕ × ℕ × ℕ)
scalar_rows =
    -- VADDSH of registers 1 and 2; the same with lane 0 off, and so with zeroing
    ((0x62 ∷ 0xF5 ∷ 0x76 ∷ 0x09 ∷ 0x58 ∷ 0xC2 ∷ []), 1, 0x4500, 0x20)
    ∷ ((0x62 ∷ 0xF5 ∷ 0x76 ∷ 0x09 ∷ 0x58 ∷ 0xC2 ∷ []), 0xFE, 0x4400, 0x20)
    ∷ ((0x62 ∷ 0xF5 ∷ 0x76 ∷ 0x89 ∷ 0x58 ∷ 0xC2 ∷ []), 0xFE, 0, 0x20)
    -- VSQRTSH of register 2, with register 1 as first source
    ∷ ((0x62 ∷ 0xF5 ∷ 0x76 ∷ 0x09 ∷ 0x51 ∷ 0xC2 ∷ []), 1, 0x4000, 0x20)
    -- VFMADD231SH of registers 1 and 2
    ∷ ((0x62 ∷ 0xF6 ∷ 0x75 ∷ 0x09 ∷ 0xB9 ∷ 0xC2 ∷ []), 1, 0x4800, 0x10)
    ∷ []

-- Each is done, as a step of six bytes.
abbrev pub ScalarRows : Type 0
ScalarRows =
    map (λ r. step [] (scalar_start r.1) r.0) scalar_rows
    ≡ map (λ r. record { answer = record { number = 0; length = 6 }; state = scalar_after r.1 r.2 r.3 }) scalar_rows

-- ---- R12.6: minimum, maximum and comparison of lanes 0 to 4, which hold a lesser and a greater half, two zeros, a quiet and a signalling NaN

-- 64 bits of one
abbrev ones : ℕ
ones = 2 ^ 64 - 1

-- register 0 with these halves; masks 0 and 3 as given, mask 1 with the five lanes
abbrev compared_state : List ℕ → ℕ → ℕ → ℕ → ℕ → State
compared_state z0 k0 k3 control pointer =
    state_with z0 (0x3C00 ∷ 0x4000 ∷ 0x0000 ∷ 0x7E01 ∷ 0x3C00 ∷ []) (0x4000 ∷ 0x3C00 ∷ 0x8000 ∷ 0x3C00 ∷ 0x7D00 ∷ [])
    (k0 ∷ 0x1F ∷ 0 ∷ k3 ∷ replicate 4 0) control pointer

-- code and its length, and what is left: register 0, masks 0 and 3, the control word
abbrev pub compare_rows : List (List ℕ × ℕ × List ℕ × ℕ × ℕ × ℕ)
compare_rows =
    -- VMINPH and VMAXPH of registers 1 and 2
    (
      (0x62 ∷ 0xF5 ∷ 0x74 ∷ 0x49 ∷ 0x5D ∷ 0xC2 ∷ []),
      6,
      (0x3C00 ∷ 0x3C00 ∷ 0x8000 ∷ 0x3C00 ∷ 0x7D00 ∷ []),
      ones,
      ones,
      0x1F81,
    )
    ∷ (
      (0x62 ∷ 0xF5 ∷ 0x74 ∷ 0x49 ∷ 0x5F ∷ 0xC2 ∷ []),
      6,
      (0x4000 ∷ 0x4000 ∷ 0x8000 ∷ 0x3C00 ∷ 0x7D00 ∷ []),
      ones,
      ones,
      0x1F81,
    )
    -- VCMPPH by LE_OQ to mask 3; to mask 0, with exceptions suppressed
    ∷ ((0x62 ∷ 0xF3 ∷ 0x74 ∷ 0x49 ∷ 0xC2 ∷ 0xDA ∷ 0x12 ∷ []), 7, [], ones, 5, 0x1F81)
    ∷ ((0x62 ∷ 0xF3 ∷ 0x74 ∷ 0x79 ∷ 0xC2 ∷ 0xC2 ∷ 0x12 ∷ []), 7, [], 5, ones, 0x1F80)
    ∷ []

-- Each is done.
abbrev pub CompareRows : Type 0
CompareRows =
    map (λ r. step [] (compared_state [] ones ones 0x1F80 0) r.0) compare_rows
    ≡ map
    (λ r. record { answer = record { number = 0; length = r.1 }; state = compared_state r.2 r.3 r.4 r.5 r.1 })
    compare_rows
