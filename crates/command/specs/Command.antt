-- docs/RULES.md, section 10: what the command prints for what it reads.
use Rattle.std.specs.Prelude.{ℕ, zero, suc, ◌+◌, Bool, cond, ◌&&◌, List, [], ◌∷◌, ◌++◌, eqb, leb, length, take, drop}
use Rattle.machine.specs.State.{State, Stepped}
use Rattle.machine.specs.Step.{step}
use Rattle.forms.specs.Numbers.{number_in}
use Rattle.forms.specs.Saved.{size_at, load_front}
use Rattle.text.specs.Text.{decimal, hex8, space, line_feed}

-- ---- lines, in ASCII

-- R10.4: the line of a step
unfoldable pub step_line : ℕ → ℕ → ℕ → List ℕ
step_line at number control = decimal at ++ space ++ decimal number ++ space ++ hex8 control ++ line_feed

-- R10.5: the last line; it begins with `stop` and a space
unfoldable pub stop_line : ℕ → List ℕ
stop_line at = (115 ∷ 116 ∷ 111 ∷ 112 ∷ 32 ∷ []) ++ decimal at ++ line_feed

-- R10.2: `bad input`
unfoldable pub bad_input : List ℕ
bad_input = 98 ∷ 97 ∷ 100 ∷ 32 ∷ 105 ∷ 110 ∷ 112 ∷ 117 ∷ 116 ∷ line_feed

-- ---- R10.3, R10.5: steps

-- from an offset on, with n steps at most; a step that is done moves the offset, so as many as there are bytes of code are enough
-- (Runs.antt)
unfoldable pub lines_from : ℕ → List ℕ → List ℕ → State → ℕ → List ℕ
lines_from zero memory code s at = stop_line at
lines_from (suc n) memory code s at =
    let o : Stepped = step memory s (drop at code) in
    cond (leb (length code) at) (stop_line at)
    (step_line at o.answer.number o.state.control
    ++ cond (eqb o.answer.number 0) (lines_from n memory code o.state (at + o.answer.length)) (stop_line at))

-- ---- R10.1: the input

-- behind the saved form, which ends where its length field says (R9.13): how many bytes of code there are, the code, and memory to the end
abbrev pub code_length : List ℕ → ℕ
code_length input = number_in input (size_at input) 2

abbrev pub code_of : List ℕ → List ℕ
code_of input = take (code_length input) (drop (size_at input + 2) input)

abbrev pub memory_of : List ℕ → List ℕ
memory_of input = drop (size_at input + 2 + code_length input) input

-- R10.3: the state that the steps begin with
abbrev pub start_of : List ℕ → State
start_of input = (load_front input).state

-- every part is there and has its size
unfoldable pub is_laid_out : List ℕ → Bool
is_laid_out input =
    leb (size_at input + 2) (length input)
    && leb (code_length input) 4096
    && leb (size_at input + 2 + code_length input) (length input)
    && leb (length (memory_of input)) 32768

-- R10.2: and the saved form loads
unfoldable pub is_good : List ℕ → Bool
is_good input = is_laid_out input && eqb (load_front input).number 0

-- R10.2: all that is printed
unfoldable pub printed : List ℕ → List ℕ
printed input =
    cond (is_good input)
    (lines_from (length (code_of input)) (memory_of input) (code_of input) (start_of input) 0)
    bad_input

-- ---- R10.6: the output

-- Every text fits: a step that is done moves the offset by 6 or more and prints 16 bytes at most, so 682 of them 10,912 (Runs.antt).
abbrev pub room : ℕ
room = 12288

-- What the command puts into an output buffer: all that is printed, or nothing where the buffer is shorter than the room.
unfoldable pub commanded : List ℕ → List ℕ → List ℕ
commanded input output = cond (leb room (length output)) (printed input) []
