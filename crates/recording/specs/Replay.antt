-- docs/RULES.md, R14.1 and R14.4 to R14.7: the replay of a recording.
use Rattle.std.specs.Prelude.{ℕ, zero, suc, ◌+◌, Bool, true, false, cond, not, ◌&&◌, ◌||◌, List, [], ◌∷◌, ◌++◌, eqb, length, get_or, drop}
use Rattle.lists.specs.Lists.{first_of}
use Rattle.evex.specs.Decode.{decoded}
use Rattle.evex.specs.declared.Destination.{Destination}
use Rattle.evex.specs.declared.Destination.TheVariants.{Vector, Mask}
use Rattle.evex.specs.declared.Instruction.{Instruction}
use Rattle.machine.specs.State.{State, Stepped}
use Rattle.machine.specs.Step.{of_fields, step}
use Rattle.forms.specs.Numbers.{big}
use Rattle.forms.specs.File.{register, zeros}
use Rattle.forms.specs.Saved.{size_at, load_front}
use Rattle.recording.specs.Item.{expected_number, code_in, memory_in, expected_control, expected_destination, item_size, is_bad}
use Rattle.recording.specs.declared.Report.{Report}
use Rattle.recording.specs.declared.Report.TheVariants.{Same, Differs, BadItem, BadState}

-- R14.4: the step of the item that bytes begin with, from a state
abbrev pub step_of : State → List ℕ → Stepped
step_of s bytes = step (memory_in bytes) s (code_in bytes)

-- ---- R14.5: the 64 bytes of a destination

-- a vector register; a mask, in the first 8
abbrev pub held : List ℕ → List ℕ → Destination → List ℕ
held vectors masks (Vector n) = register vectors n
held vectors masks (Mask n) = big 8 (get_or masks n 0) ++ zeros 56

-- the answers with which there is one: the instruction is decoded (R11.5)
abbrev pub has_destination : ℕ → Bool
has_destination number = eqb number 0 || eqb number 7 || eqb number 8

-- what a step on this code shows of it, which has given this answer and left these vectors and masks
unfoldable pub shown : List ℕ → ℕ → List ℕ → List ℕ → List ℕ
shown code number vectors masks =
    cond (has_destination number)
    (of_fields (decoded code) (zeros 64) (λ (i : Instruction). held vectors masks i.destination))
    (zeros 64)

-- the same of a step, with the code of its item
abbrev pub shown_by : Stepped → List ℕ → List ℕ
shown_by o code = shown code o.answer.number o.state.vectors o.state.masks

-- ---- R14.6: what a step gave is not what its item expects

-- two runs of bytes are the same
abbrev pub same_bytes : List ℕ → List ℕ → Bool
same_bytes [] [] = true
same_bytes [] (y ∷ ys) = false
same_bytes (x ∷ xs) [] = false
same_bytes (x ∷ xs) (y ∷ ys) = eqb x y && same_bytes xs ys

unfoldable pub differs : Stepped → List ℕ → Bool
differs o bytes =
    not (eqb o.answer.number (expected_number bytes))
    || not (eqb o.state.control (expected_control bytes))
    || not (same_bytes (shown_by o (code_in bytes)) (expected_destination bytes))

-- ---- R14.7: the report

-- from item k on, which these bytes begin with, with n items at most; an item has bytes, so as many as there are bytes are enough
-- (Reports.antt)
unfoldable pub replay_from : ℕ → State → List ℕ → ℕ → Report
replay_from zero s bytes k = Same k
replay_from (suc n) s bytes k =
    let o : Stepped = step_of s bytes in
    first_of ((eqb (length bytes) 0, Same k) ∷ (is_bad bytes, BadItem k) ∷ (differs o bytes, Differs k) ∷ [])
    (replay_from n o.state (drop (item_size bytes) bytes) (k + 1))

-- R14.1: the items stand behind the saved form
abbrev pub items_in : List ℕ → List ℕ
items_in recording = drop (size_at recording) recording

unfoldable pub replay : List ℕ → Report
replay recording =
    cond (eqb (load_front recording).number 0)
    (replay_from (length (items_in recording)) (load_front recording).state (items_in recording) 0)
    BadState
