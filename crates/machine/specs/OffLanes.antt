-- docs/RULES.md, R5.2: lanes that are off take no part in what is computed. The conditions of 7 and 8 and the flags, spelt out; and which
-- lanes a scalar instruction switches on (R5.1). Their proofs are in proofs/OffLanes.antt; that nothing open depends on such a lane is a
-- case of TwoRuns.antt, where it is hidden.
use Rattle.std.specs.Prelude.{ℕ, ◌≤◌, ◌≡◌, ◌↔◌, ◌≢◌, true, List, Ok}
use Rattle.std.specs.Int.Bits.{bit_and}
use Rattle.evex.specs.Decode.{decoded}
use Rattle.evex.specs.declared.Instruction.{Instruction}
use Rattle.machine.specs.State.{State}
use Rattle.machine.specs.Memory.{needs_outside}
use Rattle.machine.specs.Lanes.{Sources, unmasked, lane_of, raised, raises_unmasked}
use Rattle.machine.specs.TwoRuns.{SwitchesOn, Needs}

module _ (s : State) (i : Instruction) where
  -- R5.7: an address that is needed (R5.6) lies outside memory
  abbrev pub Faults : Type 0
  Faults = (memory_length : ℕ) → (needs_outside s i memory_length ≡ true) ↔ ((a : ℕ) × Needs s i a × (memory_length ≤ a))

  -- R7.3: a lane that is on raises an exception that is unmasked
  abbrev pub Raises : Type 0
  Raises =
      (g : Sources)
      → (raises_unmasked s i g ≡ true)
      ↔ ((j : ℕ) × SwitchesOn s i j × (bit_and (lane_of s i g j).flags (unmasked i.rounding s.control) ≢ 0))

  -- R7.1: of any set of flags one is raised exactly if a lane that is on raises one
  abbrev pub Flags : Type 0
  Flags =
      (g : Sources) (set : ℕ) → (bit_and (raised s i g) set ≢ 0) ↔ ((j : ℕ) × SwitchesOn s i j × (bit_and (lane_of s i g j).flags set ≢ 0))

-- R3.7, R5.1: a scalar instruction switches on lane 0 or none.
abbrev pub ScalarLanes : Type 0
ScalarLanes =
    (s : State) (code : List ℕ) (i : Instruction) → decoded code ≡ Ok i → i.shape.scalar ≡ true → (j : ℕ) → SwitchesOn s i j → j ≡ 0

-- R5.2: of every instruction.
abbrev pub OffLanes : Type 0
OffLanes = (s : State) (code : List ℕ) (i : Instruction) → decoded code ≡ Ok i → Faults s i × Raises s i × Flags s i
