-- `sources::register_halves` meets its contract: the loop fills the halves lane by lane.
use Rattle.std.proofs.Common.{arith}
use Rattle.machine.specs.Lanes.{register_halves}
use Rattle.lists.proofs.Filling.{all}
use Rattle.sources.proofs.register_halves.Goals as goal

pub returns : goal.returns
unfolding register_halves
returns c = all c.loop-j.invariant (λ k h l. absurd (omega (arith, c.loop-j-test.false)))
