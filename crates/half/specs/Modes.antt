-- docs/RULES.md, R6.4: the rounding modes by their numbers, as instructions and the control word hold them in two bits.
use Rattle.std.specs.Prelude.{ℕ, cond, eqb}
use Rattle.half.specs.declared.Mode.{Mode}
use Rattle.half.specs.declared.Mode.TheVariants.{Nearest, Down, Up, TowardZero}

-- R6.4, in its order. Of a number above 3, which two bits do not hold, it is not asked.
unfoldable pub mode_of_bits : ℕ → Mode
mode_of_bits n = cond (eqb n 0) Nearest (cond (eqb n 1) Down (cond (eqb n 2) Up TowardZero))
