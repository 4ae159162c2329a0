-- `sources::address::locate` meets its contract: by the kind of the operand.
use Rattle.std.proofs.Common.{subst}
use Rattle.evex.proofs.Bounds.{OperandIn}
use Rattle.machine.specs.Memory.{located}
use Rattle.sources.proofs.address.locate.Goals as goal

pub returns-in-Register : goal.returns-in-Register
unfolding located
returns-in-Register c = (rw c.in-Register.is, subst OperandIn c.in-Register.is c.requires)

pub returns-in-Memory : goal.returns-in-Memory
unfolding located
returns-in-Memory c = (rw (c.in-Memory.is, c.address.ensures), tt)
