-- docs/RULES.md, R9.4 to R9.6 and R9.10: which answer a save, a load and a move give, and what a refusal leaves. The statements; their
-- proofs are in proofs/Refusals.antt.
use Rattle.std.specs.Prelude.{ℕ, true, false, List, ◌⊎◌, ◌≢◌, ◌≡◌}
use Rattle.machine.specs.State.{State}
use Rattle.machine.specs.Step.{wrong_vector_file}
use Rattle.machine.specs.Answers.{InOrder}
use Rattle.forms.specs.Version.{no_version}
use Rattle.forms.specs.Saved.{save_conditions, save, version_number, wrong_size, wrong_length, wrong_file, load_conditions, load}
use Rattle.forms.specs.Saved.{move_conditions, move}

-- R9.4, R9.6: of every save.
abbrev pub SaveRefusals : Type 0
SaveRefusals =
    (n : ℕ) (s : State) (target : List ℕ)
    → InOrder (save_conditions n s target) (save n s target).number × ((save n s target).number ≢ 0 → (save n s target).target ≡ target)

-- R9.5, R9.6: of every load.
abbrev pub LoadRefusals : Type 0
LoadRefusals =
    (bytes : List ℕ) (s : State)
    → InOrder (load_conditions bytes s) (load bytes s).number × ((load bytes s).number ≢ 0 → (load bytes s).state ≡ s)

-- R9.5: bytes that are no saved form are answered 10, whatever control word they hold; on a load only the size of the vector file is asked
-- before.
abbrev pub NoForm : List ℕ → Type 0
NoForm bytes =
    (no_version (version_number bytes) ≡ true) ⊎ ((wrong_size bytes ≡ true) ⊎ ((wrong_length bytes ≡ true) ⊎ (wrong_file bytes ≡ true)))

abbrev pub FormsFirst : Type 0
FormsFirst =
    (bytes : List ℕ) → NoForm bytes
    → ((s : State) → wrong_vector_file s ≡ false → (load bytes s).number ≡ 10) × ((n : ℕ) (target : List ℕ) → (move n bytes target).number ≡ 10)

-- R9.6, R9.10: of every move.
abbrev pub MoveRefusals : Type 0
MoveRefusals =
    (n : ℕ) (bytes target : List ℕ)
    → InOrder (move_conditions n bytes target) (move n bytes target).number
    × ((move n bytes target).number ≢ 0 → (move n bytes target).target ≡ target)
