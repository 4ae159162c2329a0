-- What the code gathers. No clause: used by the code, nothing to believe. The laws of the crate step (proofs/Meaning.antt) tie it to the
-- machine's definitions.
use Rattle.std.specs.Prelude.{ℕ, ◌<◌, Bool, true, List}
use Rattle.machine.specs.declared.Located.{Located}
use Rattle.machine.specs.declared.Located.TheVariants as place
use Rattle.machine.specs.Lanes.{register_halves, memory_halves}

abbrev pub every_lane : ℕ → Bool
every_lane j = true

-- a register's number is in range
abbrev pub LocatedIn : Located → Type 0
LocatedIn (place.Register n) = n < 32
LocatedIn (place.Words at broadcast) = Unit {0}

-- a register is read whole, and memory where a lane is on
abbrev pub second_gathered : (ℕ → Bool) → List ℕ → List ℕ → Located → List ℕ
second_gathered on vectors memory (place.Register n) = register_halves every_lane vectors n
second_gathered on vectors memory (place.Words at broadcast) = memory_halves on memory at broadcast
