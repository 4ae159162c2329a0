-- docs/RULES.md, R5.9 and R5.10: the vector file after a step that is done, byte by byte. The statement; its proof is in
-- proofs/VectorFile.antt. With any other answer the file is unchanged (Answers.antt, `Leaves`).
use Rattle.std.specs.Prelude.{ℕ, ◌/◌, ◌<◌, ◌≤◌, ◌≡◌, ◌≢◌, true, false, cond, List, length, Some}
use Rattle.evex.specs.declared.Destination.TheVariants.{Vector}
use Rattle.evex.specs.declared.Instruction.{Instruction}
use Rattle.machine.specs.State.{State, byte_at, byte_of_half}
use Rattle.machine.specs.Lanes.{gathered, lane_of}
use Rattle.machine.specs.Step.{step}
use Rattle.machine.specs.TwoRuns.{IsDecoded, SwitchesOn}

-- R5.9, R5.10: of an instruction in a state, whose destination is register d, and the vector file that its step has left. Byte q is one of
-- lane q / 2 (R1.3).
pub record FileAfter (memory : List ℕ) (s : State) (i : Instruction) (d : ℕ) (after : List ℕ) : Type 0 where
  pub size : length after ≡ length s.vectors
  -- R5.9: no other register changes
  pub others : (n q : ℕ) → n ≢ d → q < 64 → byte_at after n q ≡ byte_at s.vectors n q
  -- R5.9: a lane that is on becomes its result
  pub on : (q : ℕ) → q < 64 → SwitchesOn s i (q / 2) → byte_at after d q ≡ byte_of_half (lane_of s i (gathered memory s i) (q / 2)).value q
  -- R5.9: one that is off and holds an element keeps its half, or with z becomes 0
  pub off : (q : ℕ) → q < 64 → q / 2 < i.elements → ¬ SwitchesOn s i (q / 2)
      → byte_at after d q ≡ cond i.zeroing 0 (byte_at s.vectors d q)
  -- R5.10: lanes 1 to 7 of a scalar instruction, without and with the destination as an operand
  pub taken : i.shape.scalar ≡ true → i.shape.accumulates ≡ false → (n : ℕ) → i.first ≡ Some n
      → (q : ℕ) → 2 ≤ q → q < 16 → byte_at after d q ≡ byte_at s.vectors n q
  pub stays : i.shape.scalar ≡ true → i.shape.accumulates ≡ true
      → (q : ℕ) → 2 ≤ q → q < 16 → byte_at after d q ≡ byte_at s.vectors d q
  -- R5.9, R5.10: every byte above the elements and above lane 7 becomes 0
  pub above : (q : ℕ) → q < 64 → i.elements ≤ q / 2 → 16 ≤ q → byte_at after d q ≡ 0

-- R4.15, R5.9, R5.10: of every step that is done and whose destination is a vector register. (A mask: Masks.antt.)
abbrev pub VectorFile : Type 0
VectorFile =
    (memory : List ℕ) (s : State) (code : List ℕ) (i : Instruction)
    → IsDecoded s code i → (step memory s code).answer.number ≡ 0
    → (d : ℕ) → i.destination ≡ Vector d → FileAfter memory s i d (step memory s code).state.vectors
