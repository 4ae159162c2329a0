-- `command::put_lines` meets its contract: `Going` is the loop's invariant, with a law for each way on; the measure is what is left of the
-- code.
-- Assumes nothing.
use Prim.Native.Nat.{◌-◌}
use lib.ListN.{length}
use Rattle.machine.specs.State.{lent_state}
use Rattle.command.proofs.Going.{Going}
use Rattle.command.proofs.put_lines.Given as goal

abbrev pub invariant-loop-offset : goal.invariant-loop-offset
invariant-loop-offset l = Going l.memory l.code (lent_state l.initial.machine) l.initial.out (lent_state l.machine) l.offset l.at l.out

abbrev pub decreases-loop-offset : goal.decreases-loop-offset
decreases-loop-offset l = length l.code - l.offset
