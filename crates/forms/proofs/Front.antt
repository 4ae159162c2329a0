-- A form in front of other bytes (R9.13): loaded as code lends it, where bytes of it are missing, and as it was saved.
-- Assumes nothing.
use Prim.Native.Nat.{ℕ, ◌-◌, ◌<◌}
use mathlib.Core.Bool.{false}
use mathlib.Core.Path.{◌≡◌, refl, ap, ◌∙◌}
use mathlib.Core.List.{List, ◌++◌}
use mathlib.Core.Logic.{inl, inr}
use native.Mathlib.Omega.{arith}
use lib.ListN.{length, take}
use lib.Seq.{take_all, take_at}
use Rattle.lists.specs.Lists.{table}
use Rattle.lists.proofs.Tests.{differ, equal}
use Rattle.machine.specs.State.{State}
use Rattle.machine.specs.Step.{wrong_vector_file, high_control_bit}
use Rattle.forms.specs.declared.Version.{Version}
use Rattle.forms.specs.Form.{saved_form}
use Rattle.forms.specs.Saved.{size_at, wrong_length, load, blank, load_front}
use Rattle.forms.specs.Trips.{Held}
use Rattle.forms.proofs.Refusals.{forms_first}
use Rattle.forms.proofs.Trips.{load_saved}
use Rattle.forms.proofs.Sizes.{forms_in_front}

pub front_lent : (bytes : List ℕ) {b : ℕ} → b ≡ size_at bytes → load (take (b - 0) bytes) blank ≡ load_front bytes
unfolding load_front
front_lent bytes {b} e = let z : b - 0 ≡ size_at bytes = omega (arith, e) in rw z

pub front_cut : (bytes : List ℕ) → length bytes < size_at bytes → (load_front bytes).number ≡ 10
unfolding load_front blank wrong_vector_file wrong_length table
front_cut bytes h =
    let all : take (size_at bytes) bytes ≡ bytes = take_all (size_at bytes) bytes (omega arith) in
    rw all ((forms_first bytes (inr (inr (inl (differ (size_at bytes) (length bytes) (λ e. omega arith)))))).0 blank refl)

pub front_loads : (v : Version) (s : State) (rest : List ℕ) → Held s → wrong_vector_file s ≡ false → high_control_bit s ≡ false
    → load_front (saved_form v s ++ rest) ≡ record { number = 0; state = s }
unfolding load_front blank wrong_vector_file table
front_loads v s rest S file control =
    let size : size_at (saved_form v s ++ rest) ≡ length (saved_form v s) = forms_in_front v s rest (equal (length s.vectors) 2048 file) in
    ap (λ (l : List ℕ). load l blank) (rw size (take_at (saved_form v s) rest (length (saved_form v s)) refl))
    ∙ load_saved v s blank S file control refl
