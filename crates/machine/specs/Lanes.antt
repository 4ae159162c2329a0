-- docs/RULES.md, sections 5 and 7: what a decoded instruction computes. Sources, lanes, flags, the destination's new bytes.
use Rattle.std.specs.Prelude.{ℕ, ◌/◌, Bool, cond, not, ◌&&◌, List, eqb, ltb, get_or, set, Option, Some, None}
use Rattle.std.specs.Int.Bits.{bit_and, bit_or}
use Rattle.std.proofs.Math.Seq.{paste}
use Rattle.half.specs.Round.{IE, DE, ZE}
use Rattle.half.specs.Operations.{half_add, half_subtract, half_multiply, half_divide, half_root, half_multiply_add}
use Rattle.half.specs.Comparison.{half_minimum, half_maximum, half_compare}
use Rattle.half.specs.declared.Mode.{Mode}
use Rattle.half.specs.declared.Outcome.{Outcome}
use Rattle.lists.specs.Lists.{or_all, table, number_at, binary}
use Rattle.evex.specs.Bits.{is_set}
use Rattle.evex.specs.declared.Operation.{Operation}
use Rattle.evex.specs.declared.Operation.TheVariants.{Add, Multiply, Subtract, Divide, SquareRoot, Fused132, Fused213, Fused231}
use Rattle.evex.specs.declared.Operation.TheVariants.{Minimum, Maximum, Compare}
use Rattle.evex.specs.declared.Rounding.{Rounding}
use Rattle.evex.specs.declared.Rounding.TheVariants.{Control, Embedded, Suppressed}
use Rattle.evex.specs.declared.Destination.{Destination}
use Rattle.evex.specs.declared.Destination.TheVariants.{Vector, Mask}
use Rattle.evex.specs.declared.Instruction.{Instruction}
use Rattle.machine.specs.State.{State, register_at, byte_at, lane_places, byte_of_half, unmasked_flags, control_mode}
use Rattle.machine.specs.Memory.{word_from, word_bytes, on, second_at}
use Rattle.machine.specs.declared.Located.{Located}
use Rattle.machine.specs.declared.Located.TheVariants as place
use Rattle.machine.specs.declared.Environment.{Environment}
use Rattle.machine.specs.declared.Element.{Element}

-- ---- R7.5: what embedded rounding and suppression put in the place of the control word

-- the mode that counts
abbrev pub rounding_mode : Rounding → ℕ → Mode
rounding_mode Control control = control_mode control
rounding_mode (Embedded mode) control = mode
rounding_mode Suppressed control = control_mode control

-- R7.3: the exceptions that count as unmasked, as flags
abbrev pub unmasked : Rounding → ℕ → ℕ
unmasked Control control = unmasked_flags control
unmasked (Embedded mode) control = 0
unmasked Suppressed control = 0

-- what an instruction's operation is told: the mode, whether UE (bit 4) is unmasked, and the immediate (R3.15)
abbrev pub environment_of : Instruction → ℕ → Environment
environment_of i control =
    record {
      mode = rounding_mode i.rounding control;
      underflow = is_set (unmasked i.rounding control) 4;
      immediate = i.immediate;
    }

-- ---- R7.2 to R7.5: flags, and the control word that they are set in

-- R7.2: the control word with flags set in it, and all its other bits kept (R1.6)
abbrev pub recorded : Rounding → ℕ → ℕ → ℕ
recorded Control control flags = bit_or control flags
recorded (Embedded mode) control flags = control
recorded Suppressed control flags = control

-- R7.3: one of these flags is of an unmasked exception
abbrev pub raises : Rounding → ℕ → ℕ → Bool
raises rounding control flags = not (eqb (bit_and flags (unmasked rounding control)) 0)

-- R7.4: the early ones of these flags, whose exceptions show before anything is rounded
abbrev pub early_flags : ℕ → ℕ
early_flags flags = bit_and flags (bit_or IE (bit_or DE ZE))

-- R7.4: what is set of the flags that all lanes raise: the early ones alone where one of them is of an unmasked exception, and else all
abbrev pub added : Rounding → ℕ → ℕ → ℕ
added rounding control flags = cond (raises rounding control (early_flags flags)) (early_flags flags) flags

-- ---- the sources

-- R5.8: all that an instruction reads, 32 halves each
pub record Sources : Type 0 where
  pub destination : List ℕ
  pub first : List ℕ
  pub second : List ℕ

-- R5.2: 32 numbers, lane j's by f where it is on, and 0 where it is off
abbrev pub lanes_on : (ℕ → Bool) → (ℕ → ℕ) → List ℕ
lanes_on on f = table 32 (λ j. cond (on j) (f j) 0)

-- R5.3: a register
unfoldable pub register_halves : (ℕ → Bool) → List ℕ → ℕ → List ℕ
register_halves on vectors n = lanes_on on (λ j. number_at vectors (lane_places n j))

-- R5.5: the words from an address on, or under broadcast the one there
unfoldable pub memory_halves : (ℕ → Bool) → List ℕ → ℕ → Bool → List ℕ
memory_halves on memory address broadcast = lanes_on on (λ j. number_at memory (word_bytes (word_from address broadcast j)))

-- R2.2: no source
abbrev pub no_halves : List ℕ
no_halves = table 32 (λ j. 0)

-- R2.2, R5.3: the destination, where it is a source; a mask is none
abbrev pub destination_halves : (ℕ → Bool) → List ℕ → Bool → Destination → List ℕ
destination_halves on vectors accumulates (Vector n) = cond accumulates (register_halves on vectors n) no_halves
destination_halves on vectors accumulates (Mask n) = no_halves

-- R2.2, R5.3: the first source, or none
abbrev pub first_halves : (ℕ → Bool) → List ℕ → Option ℕ → List ℕ
first_halves on vectors None = no_halves
first_halves on vectors (Some n) = register_halves on vectors n

-- R5.3: the second source, a register or memory
abbrev pub second_halves : (ℕ → Bool) → List ℕ → List ℕ → Located → List ℕ
second_halves on vectors memory (place.Register n) = register_halves on vectors n
second_halves on vectors memory (place.Words at broadcast) = memory_halves on memory at broadcast

-- R5.8: of an instruction in a state
unfoldable pub gathered : List ℕ → State → Instruction → Sources
gathered memory s i =
    record {
      destination = destination_halves (on s i) s.vectors i.shape.accumulates i.destination;
      first = first_halves (on s i) s.vectors i.first;
      second = second_halves (on s i) s.vectors memory (second_at s i);
    }

-- ---- R2.1, R2.2: an operation, of d in the destination, f in the first source and x in the second

-- a half, or a comparison's 1 or 0, with its flags, as what an element becomes
abbrev pub rounded : Outcome → Element
rounded o = record { value = o.half; flags = o.flags }

-- a line for each operation
unfoldable pub operated : Operation → Environment → ℕ → ℕ → ℕ → Element
operated Add e d f x = rounded (half_add e.mode e.underflow f x)
operated Multiply e d f x = rounded (half_multiply e.mode e.underflow f x)
operated Subtract e d f x = rounded (half_subtract e.mode e.underflow f x)
operated Divide e d f x = rounded (half_divide e.mode e.underflow f x)
operated SquareRoot e d f x = rounded (half_root e.mode e.underflow x)
operated Fused132 e d f x = rounded (half_multiply_add e.mode e.underflow d x f)
operated Fused213 e d f x = rounded (half_multiply_add e.mode e.underflow f d x)
operated Fused231 e d f x = rounded (half_multiply_add e.mode e.underflow f x d)
operated Minimum e d f x = rounded (half_minimum f x)
operated Maximum e d f x = rounded (half_maximum f x)
operated Compare e d f x = rounded (half_compare e.immediate f x)

-- ---- all lanes

-- R2.1: what lane j of the sources becomes
abbrev pub element_at : Operation → Environment → Sources → ℕ → Element
element_at op e g j = operated op e (get_or g.destination j 0) (get_or g.first j 0) (get_or g.second j 0)

module _ (s : State) (i : Instruction) (g : Sources) where
  -- R2.1: of the instruction
  abbrev pub lane_of : ℕ → Element
  lane_of j = element_at i.operation (environment_of i s.control) g j

  -- R5.8: the halves or bits, before one is written
  unfoldable pub results : List ℕ
  results = lanes_on (on s i) (λ j. (lane_of j).value)

  -- R7.1: the flags that the instruction raises
  unfoldable pub raised : ℕ
  raised = or_all (lanes_on (on s i) (λ j. (lane_of j).flags))

  -- R7.3: one of them is of an unmasked exception
  unfoldable pub raises_unmasked : Bool
  raises_unmasked = raises i.rounding s.control raised

  -- R7.2, R7.4: the control word after the instruction, be the answer 0 or 8
  unfoldable pub control_after : ℕ
  control_after = recorded i.rounding s.control (added i.rounding s.control raised)

-- ---- R5.9, R5.10: the destination

-- what becomes of a lane: its result; what the same lane of a register held; 0
pub data Fill : Type 0 where
  computed : Fill
  copied : ℕ → Fill
  zeroed : Fill

-- R5.10: the first source's register, or n where there is none
abbrev pub register_or : ℕ → Option ℕ → ℕ
register_or n None = n
register_or n (Some m) = m

-- R5.10: where lanes 1 to 7 of a scalar instruction's destination n come from: the first source, which each has, or the destination itself
-- where that is an operand
abbrev pub upper_from : Instruction → ℕ → ℕ
upper_from i n = cond i.shape.accumulates n (register_or n i.first)

-- of the lanes of an instruction's destination n: an element that is on, one that is off, lanes 1 to 7 of a scalar instruction, all others
unfoldable pub fill : State → Instruction → ℕ → ℕ → Fill
fill s i n j =
    cond (on s i j) computed
    (cond (ltb j i.elements) (cond i.zeroing zeroed (copied n))
    (cond (i.shape.scalar && ltb j 8) (copied (upper_from i n))
    zeroed))

-- byte q of a register whose lane is filled so, from these registers and results
abbrev pub filled : List ℕ → List ℕ → ℕ → Fill → ℕ
filled vectors halves q computed = byte_of_half (get_or halves (q / 2) 0) q
filled vectors halves q (copied n) = byte_at vectors n q
filled vectors halves q zeroed = 0

-- all 64 bytes of it
unfoldable pub new_register : (ℕ → Fill) → List ℕ → List ℕ → List ℕ
new_register how vectors halves = table 64 (λ q. filled vectors halves q (how (q / 2)))

-- the vector file with a register anew
unfoldable pub vectors_with : (ℕ → Fill) → List ℕ → List ℕ → ℕ → List ℕ
vectors_with how vectors halves n = paste vectors (register_at n) (new_register how vectors halves) 64

-- and that is the destination; a mask leaves the file as it is
unfoldable pub vectors_after : State → Instruction → List ℕ → Destination → List ℕ
vectors_after s i halves (Vector n) = vectors_with (fill s i n) s.vectors halves n
vectors_after s i halves (Mask n) = s.vectors

-- ---- R5.11: a mask as destination, whose bit j is what lane j gives: 0 where it is off, and 0 from bit 32 on
unfoldable pub masks_after : List ℕ → List ℕ → Destination → List ℕ
masks_after masks bits (Vector n) = masks
masks_after masks bits (Mask n) = set masks n (binary bits)
