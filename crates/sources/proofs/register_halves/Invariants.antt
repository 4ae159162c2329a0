-- `sources::register_halves` meets its contract: the loop fills the halves lane by lane.
use Rattle.std.proofs.Common.{◌-◌}
use Rattle.lists.specs.Lists.{number_at}
use Rattle.machine.specs.State.{lane_places}
use Rattle.lists.proofs.Filling.{Filled}
use Rattle.sources.proofs.register_halves.Given as goal

abbrev pub invariant-loop-j : goal.invariant-loop-j
invariant-loop-j l = Filled (λ k. number_at l.vectors (lane_places l.n k)) 32 l.initial.halves l.halves l.j

abbrev pub decreases-loop-j : goal.decreases-loop-j
decreases-loop-j l = 32 - l.j
