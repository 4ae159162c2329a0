-- docs/RULES.md, R9.9, R9.12 and R9.13: sizes of saved forms. The statements; their proofs are in proofs/Sizes.antt.
use Rattle.std.specs.Prelude.{ℕ, ◌+◌, ◌≤◌, false, cond, List, ◌++◌, ◌↔◌, ◌≢◌, ◌≡◌, length}
use Rattle.machine.specs.State.{State}
use Rattle.machine.specs.Step.{high_control_bit}
use Rattle.forms.specs.declared.Version.{Version}
use Rattle.forms.specs.declared.Version.TheVariants.{One, Two}
use Rattle.forms.specs.File.{sum_to, register, present}
use Rattle.forms.specs.Form.{content, saved_form, form_size}
use Rattle.forms.specs.Saved.{save, move, size_at, saved_size, moved_size}

-- R9.9: of every state whose vector file has its size.
pub record Sizes (s : State) : Type 0 where
  pub all : (v : Version) → length (saved_form v s) ≡ form_size v s.vectors
  pub one : form_size One s.vectors ≡ 2257
  pub field : length (content One s) ≡ 2253
  pub two : form_size Two s.vectors ≡ 213 + sum_to 32 (λ i. cond (present (register s.vectors i)) 64 0)
  pub most : (v : Version) → form_size v s.vectors ≤ 2261

abbrev pub FormSizes : Type 0
FormSizes = (s : State) → length s.vectors ≡ 2048 → Sizes s

-- R9.12: a save and a move are done exactly where a size is given, the target has it, and nothing else is wrong.
abbrev pub SizesNeeded : Type 0
SizesNeeded =
    ((n : ℕ) (s : State) (target : List ℕ)
    → ((save n s target).number ≡ 0)
    ↔ ((saved_size n s.vectors ≢ 0) × (length target ≡ saved_size n s.vectors) × (high_control_bit s ≡ false)))
    × ((n : ℕ) (bytes target : List ℕ)
    → ((move n bytes target).number ≡ 0) ↔ ((moved_size n bytes ≢ 0) × (length target ≡ moved_size n bytes)))

-- R9.13: of a form in front of any bytes.
abbrev pub FormsInFront : Type 0
FormsInFront =
    (v : Version) (s : State) (rest : List ℕ) → length s.vectors ≡ 2048
    → size_at (saved_form v s ++ rest) ≡ length (saved_form v s)
