-- What an instruction leaves, over what its parts give. No clause: used by the code, nothing to believe. The laws of proofs/Meaning.antt tie
-- it to the machine's definitions.
use Rattle.std.specs.Prelude.{ℕ, ◌≡◌, Bool, cond, List, length, Result, Ok, Err}
use Rattle.evex.specs.Decode.{number_of}
use Rattle.evex.specs.declared.Instruction.{Instruction}
use Rattle.evex.specs.declared.Refusal.{Refusal}
use Rattle.machine.specs.declared.Answer.{Answer}
use Rattle.machine.specs.declared.Machine.{Machine}
use Rattle.machine.specs.State.{State, Stepped, stepped_of}
use Rattle.machine.specs.Memory.{needs_outside}
use Rattle.machine.specs.Lanes.{gathered, raises, recorded, added, raises_unmasked}
use Rattle.machine.specs.Step.{refused, stopped, completed}
use Rattle.lanes.specs.declared.Results.{Results}
use Rattle.store.specs.Work.{vectors_stored, masks_stored}

-- an answer, and the state that is left with it
abbrev pub stepped : Answer → State → Stepped
stepped answer s = record { answer = answer; state = s }

-- a struct that is lent still lends the same, so that what it leaves there is known where that was lent to it
abbrev pub LendsTheSame : Machine → Machine → Type 0
LendsTheSame l k =
    (k.vectors.ghost_name ≡ l.vectors.ghost_name)
    × (k.masks.ghost_name ≡ l.masks.ghost_name)
    × (k.general ≡ l.general)
    × (k.control.ghost_name ≡ l.control.ghost_name)
    × (k.pointer.ghost_name ≡ l.pointer.ghost_name)

-- once the lanes are computed: 8, or the destination stored
unfoldable pub finished : (ℕ → Bool) → Instruction → Results → ℕ → State → Stepped
finished on i r next s =
    let flagged : ℕ = recorded i.rounding s.control (added i.rounding s.control r.flags) in
    cond (raises i.rounding s.control r.flags)
    (stepped_of (record { number = 8; length = 0 }) s.vectors s.masks s.general flagged s.pointer)
    (stepped_of
    (record { number = 0; length = i.size })
    (vectors_stored on i r s.vectors i.destination)
    (masks_stored r s.masks i.destination)
    s.general
    flagged
    next)

-- an instruction's step, once it is decoded
unfoldable pub executed : List ℕ → State → Instruction → Stepped
executed memory s i =
    cond (needs_outside s i (length memory)) (refused 7 s)
    (cond (raises_unmasked s i (gathered memory s i)) (stopped memory s i)
    (completed memory s i))

-- the number of a refusal
abbrev pub refusal_number : Result Instruction Refusal → ℕ
refusal_number (Ok i) = 0
refusal_number (Err r) = number_of r
