-- docs/RULES.md, R1.4 and R5.11: the masks after a step that is done, bit by bit. The statement; its proof is in proofs/Masks.antt. With any
-- other answer they are unchanged (Answers.antt, `Leaves`).
use Rattle.std.specs.Prelude.{ℕ, ◌<◌, ◌≡◌, ◌↔◌, ◌≢◌, true, List, length, get_or}
use Rattle.evex.specs.Bits.{is_set}
use Rattle.evex.specs.declared.Destination.TheVariants.{Vector, Mask}
use Rattle.evex.specs.declared.Instruction.{Instruction}
use Rattle.machine.specs.State.{State}
use Rattle.machine.specs.Lanes.{gathered, lane_of}
use Rattle.machine.specs.Step.{step}
use Rattle.machine.specs.TwoRuns.{IsDecoded, SwitchesOn}

-- R5.11: of an instruction in a state, whose destination is mask d, and the state that its step has left.
pub record MasksAfter (memory : List ℕ) (s : State) (i : Instruction) (d : ℕ) (after : State) : Type 0 where
  -- each bit, of a mask that is there: a lane that is on, of which the comparison holds
  pub bits : d < length s.masks → (j : ℕ)
      → (is_set (get_or after.masks d 0) j ≡ true) ↔ (SwitchesOn s i j × ((lane_of s i (gathered memory s i) j).value ≡ 1))
  -- no other mask changes, and no vector register
  pub others : (n : ℕ) → n ≢ d → get_or after.masks n 0 ≡ get_or s.masks n 0
  pub count : length after.masks ≡ length s.masks
  pub vectors : after.vectors ≡ s.vectors

-- R1.4, R4.15, R5.11: of every step that is done, with a mask as destination; with a vector register no mask changes.
abbrev pub Masks : Type 0
Masks =
    (memory : List ℕ) (s : State) (code : List ℕ) (i : Instruction)
    → IsDecoded s code i → (step memory s code).answer.number ≡ 0
    → ((d : ℕ) → i.destination ≡ Mask d → MasksAfter memory s i d (step memory s code).state)
    × ((d : ℕ) → i.destination ≡ Vector d → (step memory s code).state.masks ≡ s.masks)
