-- Two runs of bytes: the library's test of arrays is the one of the specification.
-- Assumes nothing.
use Prim.Native.Nat.{ℕ}
use mathlib.Core.Path.{◌≡◌, refl}
use mathlib.Core.List.{List, [], ◌∷◌}
use lib.Dec.{eqb}
use lib.Pointwise.{pointwise}
use Rattle.recording.specs.Replay.{same_bytes}

pub compared : (a b : List ℕ) → pointwise eqb a b ≡ same_bytes a b
compared [] [] = refl
compared [] (y ∷ b) = refl
compared (x ∷ a) [] = refl
compared (x ∷ a) (y ∷ b) = rw (compared a b)
