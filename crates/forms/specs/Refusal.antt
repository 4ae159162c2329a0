-- docs/RULES.md, R4.1 and R9.4 to R9.6: what a save, a load or a move is refused for, and its number.
use Rattle.std.specs.Prelude.{ℕ, Result, Ok, Err}
use Rattle.forms.specs.declared.Refusal.{Refusal}
use Rattle.forms.specs.declared.Refusal.TheVariants.{Size, HighControlBit, Form}

-- ---- R4.1, R9.4, R9.5

-- the number of a refusal
abbrev pub refusal_number : Refusal → ℕ
refusal_number Size = 1
refusal_number HighControlBit = 2
refusal_number Form = 10

-- the number of what a call hands back
abbrev pub answer_number : {T : Type 0} → Result T Refusal → ℕ
answer_number (Ok x) = 0
answer_number (Err refusal) = refusal_number refusal
