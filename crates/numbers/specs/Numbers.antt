-- docs/RULES.md, R8.1 to R8.3 and R8.5: the arithmetic for a caller who has numbers, and answer 9.
use Rattle.std.specs.Prelude.{ℕ, Bool, not, cond, eqb, ltb, Option, None, Some}
use Rattle.half.specs.Modes.{mode_of_bits}
use Rattle.half.specs.declared.Mode.{Mode}
use Rattle.half.specs.declared.Outcome.{Outcome}
use Rattle.numbers.specs.declared.Rounded.{Rounded}

-- R8.2: the mode of a number (R6.4), or none for one that is too large
unfoldable pub mode_of : ℕ → Option Mode
mode_of n = cond (ltb 3 n) None (Some (mode_of_bits n))

-- R8.3: what the number says that stands for yes or no
abbrev pub yes : ℕ → Bool
yes n = not (eqb n 0)

-- R4.1, R8.1, R8.5: 0 with what an operation gives
abbrev pub done : Outcome → Rounded
done o = record { half = o.half; flags = o.flags; number = 0 }

-- R4.1, R8.1, R8.2: the same of one that takes a mode, or 9
unfoldable pub answered : Option Mode → (Mode → Outcome) → Rounded
answered (Some m) f = done (f m)
answered None f = record { half = 0x0000; flags = 0; number = 9 }
