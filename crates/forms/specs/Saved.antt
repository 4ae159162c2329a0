-- docs/RULES.md, R9.4 to R9.6, R9.10, R9.12 and R9.13: saving, loading and moving, with their refusals in order.
use Rattle.std.specs.Prelude.{ℕ, ◌+◌, Bool, cond, not, List, [], ◌∷◌, ◌++◌, eqb, length, get_or, take, drop}
use Rattle.std.specs.Prelude.{Option, Some, None, Result, Ok, Err}
use Rattle.lists.specs.Lists.{first_of}
use Rattle.machine.specs.declared.Registers.{Registers}
use Rattle.machine.specs.State.{State, held_state}
use Rattle.machine.specs.Step.{wrong_file_size, wrong_vector_file, high_control_bit}
use Rattle.forms.specs.declared.Version.{Version}
use Rattle.forms.specs.declared.Refusal.{Refusal}
use Rattle.forms.specs.Version.{version_of, no_version}
use Rattle.forms.specs.Refusal.{refusal_number}
use Rattle.forms.specs.Numbers.{number_in}
use Rattle.forms.specs.File.{zeros}
use Rattle.forms.specs.Form.{file_at, file, saved_form, form_size, loaded_state}

-- ---- R9.4: saving, in the version that has a number

-- R9.9: not the size of the form
unfoldable pub wrong_target : Version → State → List ℕ → Bool
wrong_target v s target = not (eqb (length target) (form_size v s.vectors))

-- R4.1: the conditions with their numbers
unfoldable pub save_conditions : ℕ → State → List ℕ → List (Bool × ℕ)
save_conditions n s target =
    (no_version n, 10) ∷ (wrong_vector_file s, 1) ∷ (wrong_target (version_of n) s target, 1) ∷ (high_control_bit s, 2) ∷ []

-- the answer's number, and the target as it is left
pub record Save : Type 0 where
  pub number : ℕ
  pub target : List ℕ

-- R9.6: refused, the target stays
abbrev pub save_of : ℕ → Version → State → List ℕ → Save
save_of number v s target = record { number = number; target = cond (eqb number 0) (saved_form v s) target }

unfoldable pub save : ℕ → State → List ℕ → Save
save n s target = save_of (first_of (save_conditions n s target) 0) (version_of n) s target

-- ---- R9.5: loading

-- R9.13: where a form ends, as its length field says
unfoldable pub size_at : List ℕ → ℕ
size_at bytes = 4 + number_in bytes 0 4

-- R9.3: the number of its version, that version, and the state that it holds
abbrev pub version_number : List ℕ → ℕ
version_number bytes = get_or bytes 4 0

abbrev pub version_in : List ℕ → Version
version_in bytes = version_of (version_number bytes)

abbrev pub state_in : List ℕ → State
state_in bytes = loaded_state (version_in bytes) bytes

-- not as many bytes as the version and, packed, the word ask for
unfoldable pub wrong_size : List ℕ → Bool
wrong_size bytes = not (eqb (length bytes) (file_at + (file (version_in bytes)).size (drop file_at bytes)))

unfoldable pub wrong_length : List ℕ → Bool
wrong_length bytes = not (eqb (size_at bytes) (length bytes))

-- a register that is marked and is all zero
unfoldable pub wrong_file : List ℕ → Bool
wrong_file bytes = (file (version_in bytes)).wrong (drop file_at bytes)

-- the conditions of bytes that are read
unfoldable pub source_conditions : List ℕ → List (Bool × ℕ)
source_conditions bytes =
    (no_version (version_number bytes), 10)
    ∷ (wrong_size bytes, 10)
    ∷ (wrong_length bytes, 10)
    ∷ (wrong_file bytes, 10)
    ∷ (high_control_bit (state_in bytes), 2)
    ∷ []

-- R4.1: and of the state to load into
unfoldable pub load_conditions : List ℕ → State → List (Bool × ℕ)
load_conditions bytes s = (wrong_vector_file s, 1) ∷ source_conditions bytes

-- the answer's number, and the state as it is left
pub record Load : Type 0 where
  pub number : ℕ
  pub state : State

-- R9.6: refused, the state stays
unfoldable pub load : List ℕ → State → Load
load bytes s =
    let n : ℕ = first_of (load_conditions bytes s) 0 in
    record { number = n; state = cond (eqb n 0) (state_in bytes) s }

-- ---- R9.13: loading the form that stands in front of other bytes

-- a state to load into
unfoldable pub blank : State
blank = record { vectors = zeros 2048; masks = zeros 8; general = zeros 16; control = 0; pointer = 0 }

-- what a load into a state of its own hands back: that state, or what is wrong first
abbrev pub own_load : Result Registers Refusal → Load
own_load (Ok registers) = record { number = 0; state = held_state registers }
own_load (Err refusal) = record { number = refusal_number refusal; state = blank }

unfoldable pub load_front : List ℕ → Load
load_front bytes = load (take (size_at bytes) bytes) blank

-- ---- R9.10: moving, to the version that has a number

-- what is asked before the target
abbrev pub before_target : ℕ → List ℕ → List (Bool × ℕ)
before_target n bytes = (no_version n, 10) ∷ source_conditions bytes

-- R4.1: the conditions with their numbers
unfoldable pub move_conditions : ℕ → List ℕ → List ℕ → List (Bool × ℕ)
move_conditions n bytes target = before_target n bytes ++ ((wrong_target (version_of n) (state_in bytes) target, 1) ∷ [])

unfoldable pub move : ℕ → List ℕ → List ℕ → Save
move n bytes target = save_of (first_of (move_conditions n bytes target) 0) (version_of n) (state_in bytes) target

-- ---- R9.12: how many bytes a save and a move need

-- a size, or 0 where something is refused
abbrev pub size_if : ℕ → ℕ → ℕ
size_if number size = cond (eqb number 0) size 0

unfoldable pub saved_size : ℕ → List ℕ → ℕ
saved_size n vectors =
    size_if (first_of ((no_version n, 10) ∷ (wrong_file_size vectors, 1) ∷ []) 0) (form_size (version_of n) vectors)

unfoldable pub moved_size : ℕ → List ℕ → ℕ
moved_size n bytes = size_if (first_of (before_target n bytes) 0) (form_size (version_of n) (state_in bytes).vectors)

-- a size where there is one: 0 is the size of no form
abbrev pub size_of : ℕ → Option ℕ
size_of n = cond (eqb n 0) None (Some n)
