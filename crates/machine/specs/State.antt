-- docs/RULES.md, section 1: the state, and the control word.
use Rattle.std.specs.Prelude.{ℕ, ◌+◌, ◌-◌, ◌*◌, ◌/◌, ◌%◌, ◌^◌, List, [], ◌∷◌, get_or}
use Rattle.half.specs.Modes.{mode_of_bits}
use Rattle.half.specs.declared.Mode.{Mode}
use Rattle.evex.specs.Bits.{bits}
use Rattle.machine.specs.declared.Answer.{Answer}
use Rattle.machine.specs.declared.Registers.{Registers}
use Rattle.machine.specs.declared.Machine.{Machine}

-- R1.1: the vector file as its bytes (R1.2), the masks and general registers (R1.4) as lists of numbers, the control word (R1.5) and the
-- pointer (R1.7). The lists may have any length; a register that they do not have reads as 0.
pub record State : Type 0 where
  pub vectors : List ℕ
  pub masks : List ℕ
  pub general : List ℕ
  pub control : ℕ
  pub pointer : ℕ

-- R4.17: what a step hands back, and the state that it leaves.
pub record Stepped : Type 0 where
  pub answer : Answer
  pub state : State

-- R1.1, R4.17: the two, put together from the parts that a caller lends
abbrev pub state_of : List ℕ → List ℕ → List ℕ → ℕ → ℕ → State
state_of vectors masks general control pointer =
    record { vectors = vectors; masks = masks; general = general; control = control; pointer = pointer }

abbrev pub stepped_of : Answer → List ℕ → List ℕ → List ℕ → ℕ → ℕ → Stepped
stepped_of answer vectors masks general control pointer =
    record { answer = answer; state = state_of vectors masks general control pointer }

-- R1.1: the state that a struct of the code holds
abbrev pub held_state : Registers → State
held_state r = state_of r.vectors r.masks r.general r.control r.pointer

-- R1.1: and the one that a struct lends
abbrev pub lent_state : Machine → State
lent_state m = state_of m.vectors.now m.masks.now m.general.now m.control.now m.pointer.now

-- R1.2: the byte of the vector file at which register n begins
abbrev pub register_at : ℕ → ℕ
register_at n = n * 64

-- R1.2: byte q of it
abbrev pub byte_at : List ℕ → ℕ → ℕ → ℕ
byte_at vectors n q = get_or vectors (register_at n + q) 0

-- R1.3: the two bytes of its lane j
abbrev pub lane_places : ℕ → ℕ → List ℕ
lane_places n j = (register_at n + 2 * j) ∷ (register_at n + 2 * j + 1) ∷ []

-- R1.3: what byte q of a register is, where its lane q / 2 holds this half
abbrev pub byte_of_half : ℕ → ℕ → ℕ
byte_of_half half q = half / 256 ^ (q % 2) % 256

-- ---- R1.5: the control word. R1.6: neither of these reads DAZ or FZ.

-- the exceptions whose mask bit is 0, as flags
abbrev pub unmasked_flags : ℕ → ℕ
unmasked_flags control = 63 - bits control 7 6

-- the rounding mode
abbrev pub control_mode : ℕ → Mode
control_mode control = mode_of_bits (bits control 13 2)
