-- What is shown of a destination, by the tests of the code.
-- Assumes nothing.
use Prim.Native.Nat.{ℕ}
use mathlib.Core.Path.{◌≡◌}
use mathlib.Core.Bool.{true, false}
use mathlib.Core.List.{List}
use Rattle.std.specs.Prelude.{Ok, Err}
use Rattle.evex.specs.Decode.{decoded}
use Rattle.evex.specs.declared.Instruction.{Instruction}
use Rattle.evex.specs.declared.Refusal.{Refusal}
use Rattle.forms.specs.File.{zeros}
use Rattle.recording.specs.Replay.{held, has_destination, shown}

module _ (code : List ℕ) (number : ℕ) (vectors masks : List ℕ) where
  pub shows_nothing : has_destination number ≡ false → zeros 64 ≡ shown code number vectors masks
  unfolding shown
  shows_nothing e = rw e

  module _ (e : has_destination number ≡ true) where
    pub shows_refused : {r : Refusal} → decoded code ≡ Err r → zeros 64 ≡ shown code number vectors masks
    unfolding shown
    shows_refused f = rw (e, f)

    pub shows : {i : Instruction} → decoded code ≡ Ok i → {l : List ℕ} → l ≡ held vectors masks i.destination
        → l ≡ shown code number vectors masks
    unfolding shown
    shows f g = rw (e, f) g
