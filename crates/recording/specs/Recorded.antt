-- docs/RULES.md, R14.2 and R14.11: a run, written down as a recording. The statement; its proof is in proofs/Recorded.antt.
use Rattle.std.specs.Prelude.{ℕ, ◌+◌, ◌≤◌, false, List, [], ◌∷◌, ◌++◌, ◌≡◌, length}
use Rattle.machine.specs.State.{State, Stepped}
use Rattle.machine.specs.Step.{wrong_vector_file, high_control_bit, step}
use Rattle.forms.specs.declared.Version.{Version}
use Rattle.forms.specs.Numbers.{big}
use Rattle.forms.specs.Form.{saved_form}
use Rattle.forms.specs.Trips.{Held}
use Rattle.recording.specs.Replay.{shown_by, replay}
use Rattle.recording.specs.declared.Report.TheVariants.{Same}

-- R14.2: the item of a step, by its code, its memory, and what it gave
unfoldable pub item_of : List ℕ → List ℕ → Stepped → List ℕ
item_of code memory o =
    big 4 (73 + length code + length memory)
    ++ (1 ∷ o.answer.number ∷ length code ∷ [])
    ++ code
    ++ big 2 (length memory)
    ++ memory
    ++ big 4 o.state.control
    ++ shown_by o code

-- R14.4: the items of steps, each with its code and its memory, and each from the state that the one before has left
unfoldable pub items_of : State → List (List ℕ × List ℕ) → List ℕ
items_of s [] = []
items_of s (x ∷ steps) =
    let o : Stepped = step x.1 s x.0 in
    item_of x.0 x.1 o ++ items_of o.state steps

-- R14.3: no code and no memory has more bytes than an item may have
abbrev pub Short : List (List ℕ × List ℕ) → Type 0
Short [] = Unit {0}
Short (x ∷ steps) = (length x.0 ≤ 15) × (length x.1 ≤ 4096) × Short steps

-- R14.11: of every run from a state that can be saved (R9.4) and that registers can hold, whatever its steps answer.
abbrev pub Recorded : Type 0
Recorded =
    (v : Version) (s : State) (steps : List (List ℕ × List ℕ))
    → Held s → wrong_vector_file s ≡ false → high_control_bit s ≡ false → Short steps
    → replay (saved_form v s ++ items_of s steps) ≡ Same (length steps)
