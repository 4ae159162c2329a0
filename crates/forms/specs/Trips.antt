-- docs/RULES.md, R9.7, R9.10 and R9.11: the round trips, in every version. The statements; their proofs are in proofs/Trips.antt.
use Rattle.std.specs.Prelude.{ℕ, ◌<◌, ◌^◌, false, List, ◌≢◌, ◌≡◌, length}
use Rattle.lists.specs.Lists.{Each}
use Rattle.machine.specs.State.{State}
use Rattle.machine.specs.Step.{wrong_vector_file}
use Rattle.forms.specs.Version.{no_version}
use Rattle.forms.specs.Saved.{save, load, move, version_number}

-- R9.7: a state that the machine's registers can hold (R1.4, R1.7), which is what the round trips suppose of a state. Its vector file may
-- have any size.
pub record Held (s : State) : Type 0 where
  pub masks_count : length s.masks ≡ 8
  pub masks : Each (λ m. m < 2 ^ 64) s.masks
  pub general_count : length s.general ≡ 16
  pub general : Each (λ g. g < 2 ^ 64) s.general
  pub pointer : s.pointer < 2 ^ 64

-- R9.7: bytes
abbrev pub Bytes : List ℕ → Type 0
Bytes bytes = Each (λ b. b < 256) bytes

-- ---- R9.7

-- Save, then load into any state whose vector file has its size.
abbrev pub LoadAfterSave : Type 0
LoadAfterSave =
    (n : ℕ) (s t : State) (target : List ℕ) → Held s → (save n s target).number ≡ 0 → wrong_vector_file t ≡ false
    → load (save n s target).target t ≡ record { number = 0; state = s }

-- Load, then save in the same version, into any target of the same size.
abbrev pub SaveAfterLoad : Type 0
SaveAfterLoad =
    (bytes target : List ℕ) (t : State) → Bytes bytes → length target ≡ length bytes → (load bytes t).number ≡ 0
    → save (version_number bytes) (load bytes t).state target ≡ record { number = 0; target = bytes }

-- ---- R9.10, R9.11

-- A move saves what it loads, and where the load is refused it is refused with the same number.
abbrev pub MoveIsSaveAfterLoad : Type 0
MoveIsSaveAfterLoad =
    (n : ℕ) (bytes target : List ℕ) (t : State) → no_version n ≡ false → wrong_vector_file t ≡ false
    → ((load bytes t).number ≡ 0 → move n bytes target ≡ save n (load bytes t).state target)
    × ((load bytes t).number ≢ 0 → move n bytes target ≡ record { number = (load bytes t).number; target = target })

-- What was moved loads as its source does.
abbrev pub LoadAfterMove : Type 0
LoadAfterMove =
    (n : ℕ) (bytes target : List ℕ) (t : State) → Bytes bytes → wrong_vector_file t ≡ false → (move n bytes target).number ≡ 0
    → load (move n bytes target).target t ≡ load bytes t

-- Move, then move back into any target of the first source's size.
abbrev pub MoveAndBack : Type 0
MoveAndBack =
    (n : ℕ) (bytes target back : List ℕ) → Bytes bytes → length back ≡ length bytes → (move n bytes target).number ≡ 0
    → move (version_number bytes) (move n bytes target).target back ≡ record { number = 0; target = bytes }

-- Move to the version that the source has.
abbrev pub MoveCopies : Type 0
MoveCopies =
    (bytes target : List ℕ) → Bytes bytes → (move (version_number bytes) bytes target).number ≡ 0
    → (move (version_number bytes) bytes target).target ≡ bytes
