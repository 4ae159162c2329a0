-- `replayer::replay_items` meets its contract: `Going` is the loop's invariant, with a law for each way on; the measure is what is left of
-- the items.
-- Assumes nothing.
use lib.ListN.{length}
use Rattle.machine.specs.State.{lent_state}
use Rattle.replayer.proofs.Going.{Going}
use Rattle.replayer.proofs.replay_items.Given as goal

abbrev pub invariant-loop-machine : goal.invariant-loop-machine
invariant-loop-machine l = Going l.items (lent_state l.initial.machine) (lent_state l.machine) l.rest l.count

abbrev pub decreases-loop-machine : goal.decreases-loop-machine
decreases-loop-machine l = length l.rest
