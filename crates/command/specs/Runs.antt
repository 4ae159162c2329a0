-- docs/RULES.md, R10.1 to R10.6: what is printed, said by the machine's own `run` and with no limit on the number of steps; that it always
-- fits; and that either version of a saved form is taken. Proofs: proofs/Runs.antt and proofs/Takes.antt.
use Rattle.std.specs.Prelude.{ℕ, ◌+◌, ◌≤◌, ◌<◌, ◌≡◌, ◌≢◌, true, false, List, [], ◌∷◌, ◌++◌, map, length, drop}
use Rattle.machine.specs.State.{State, Stepped}
use Rattle.machine.specs.Step.{wrong_vector_file, high_control_bit, run}
use Rattle.forms.specs.declared.Version.{Version}
use Rattle.forms.specs.Numbers.{big}
use Rattle.forms.specs.Form.{saved_form}
use Rattle.forms.specs.Trips.{Held}
use Rattle.command.specs.Command.{step_line, stop_line, code_of, memory_of, start_of, is_good, printed, room}

-- R10.3: what each step is given, by its offset
abbrev pub codes_at : List ℕ → List ℕ → List (List ℕ)
codes_at code offsets = map (λ at. drop at code) offsets

-- R10.4: a line for each step
abbrev pub step_lines : List ℕ → List Stepped → List ℕ
step_lines [] os = []
step_lines (at ∷ ats) [] = []
step_lines (at ∷ ats) (o ∷ os) = step_line at o.answer.number o.state.control ++ step_lines ats os

-- R10.3, R10.5: from an offset on, steps at these offsets gave these outcomes, and the last offset is `end`.
pub data Course (code : List ℕ) : ℕ → List ℕ → List Stepped → ℕ → Type 0 where
  -- at the end of the code
  ended : {at : ℕ} → length code ≤ at → Course code at [] [] at
  -- with an answer other than 0
  stopped : {at : ℕ} {o : Stepped} → at < length code → o.answer.number ≢ 0 → Course code at (at ∷ []) (o ∷ []) at
  -- a step that is done moves the offset by the instruction's length
  done : {at : ℕ} {o : Stepped} {ats : List ℕ} {os : List Stepped} {end : ℕ} → at < length code → o.answer.number ≡ 0
      → Course code (at + o.answer.length) ats os end → Course code at (at ∷ ats) (o ∷ os) end

-- R10.6: a text is the lines of a run from an offset on, and the last line.
pub record Runs (memory code : List ℕ) (s : State) (at : ℕ) (text : List ℕ) : Type 0 where
  pub offsets : List ℕ
  pub end : ℕ
  pub course : Course code at offsets (run memory s (codes_at code offsets)) end
  pub lines : text ≡ step_lines offsets (run memory s (codes_at code offsets)) ++ stop_line end

-- R10.6: of every input.
pub record Prints : Type 0 where
  -- what is printed for input that is good
  pub runs : (input : List ℕ) → is_good input ≡ true → Runs (memory_of input) (code_of input) (start_of input) 0 (printed input)
  -- what is printed for any input fits the room
  pub fits : (input : List ℕ) → length (printed input) ≤ room

-- R10.1, R10.2: of input that is put together of a saved form, of whatever version, code and memory.
pub record Taken (s : State) (code memory input : List ℕ) : Type 0 where
  pub good : is_good input ≡ true
  pub start : start_of input ≡ s
  pub code_is : code_of input ≡ code
  pub memory_is : memory_of input ≡ memory

abbrev pub Takes : Type 0
Takes =
    (v : Version) (s : State) (code memory : List ℕ) → Held s → wrong_vector_file s ≡ false → high_control_bit s ≡ false
    → length code ≤ 4096 → length memory ≤ 32768
    → Taken s code memory (saved_form v s ++ (big 2 (length code) ++ (code ++ memory)))
