-- docs/RULES.md, R1.6, R7.2, R7.4 and R7.5: the control word after a step, bit by bit. The statement; its proof is in
-- proofs/ControlWord.antt. When the answer is 8 is in OffLanes.antt (`Raises`).
use Rattle.std.specs.Prelude.{ℕ, ◌+◌, ◌<◌, ◌≤◌, ◌≡◌, ◌↔◌, ◌≢◌, ◌⊎◌, true, false, List}
use Rattle.evex.specs.Bits.{is_set}
use Rattle.evex.specs.declared.Rounding.TheVariants.{Control}
use Rattle.evex.specs.declared.Instruction.{Instruction}
use Rattle.machine.specs.State.{State, Stepped}
use Rattle.machine.specs.Lanes.{gathered, lane_of}
use Rattle.machine.specs.Step.{step}
use Rattle.machine.specs.TwoRuns.{IsDecoded, SwitchesOn}

-- ---- for an instruction without embedded rounding or suppression

-- R1.5: the exception whose flag is bit f is unmasked: its mask bit is 0
abbrev pub IsUnmasked : State → ℕ → Type 0
IsUnmasked s f = is_set s.control (7 + f) ≡ false

module _ (memory : List ℕ) (s : State) (i : Instruction) where
  -- R7.1: a lane that is on raises the flag that is bit f
  abbrev pub LaneRaises : ℕ → Type 0
  LaneRaises f = (j : ℕ) × SwitchesOn s i j × (is_set (lane_of s i (gathered memory s i) j).flags f ≡ true)

  -- R7.4: some lane that is on raises IE, DE or ZE (bits 0 to 2), and that exception is unmasked
  abbrev pub StopsEarly : Type 0
  StopsEarly = (f : ℕ) × (f < 3) × IsUnmasked s f × LaneRaises f

  -- R7.2, R7.4: bit f was set before; or a lane that is on raises it, and it is one of those three or `StopsEarly` does not hold
  abbrev pub SetAfter : ℕ → Type 0
  SetAfter f = (is_set s.control f ≡ true) ⊎ (LaneRaises f × ((f < 3) ⊎ ¬ StopsEarly))

-- ---- R1.6, R7.2, R7.4, R7.5: for any

-- of an instruction in a state, and what its step has left
pub record WordAfter (memory : List ℕ) (s : State) (i : Instruction) (o : Stepped) : Type 0 where
  -- R7.2, R7.4: the flags, without embedded rounding or suppression
  pub flags : i.rounding ≡ Control → (f : ℕ) → f < 6 → (is_set o.state.control f ≡ true) ↔ SetAfter memory s i f
  -- R1.6, R7.2: the bits that are no flags
  pub others : (n : ℕ) → 6 ≤ n → is_set o.state.control n ≡ is_set s.control n
  -- R7.5: with either nothing is unmasked, and nothing set
  pub silent : i.rounding ≢ Control → (o.answer.number ≢ 8) × (o.state.control ≡ s.control)

-- Of every instruction that is decoded (R11.5) and whose memory is there.
abbrev pub ControlWord : Type 0
ControlWord =
    (memory : List ℕ) (s : State) (code : List ℕ) (i : Instruction)
    → IsDecoded s code i → (step memory s code).answer.number ≢ 7 → WordAfter memory s i (step memory s code)
