-- `sources::address::is_outside` meets its contract: a register needs no address, and memory what its words need.
use Rattle.std.proofs.Common.{sym}
use Rattle.lists.specs.Lists.{table}
use Rattle.evex.specs.Bits.{is_set}
use Rattle.machine.specs.Memory.{outside}
use Rattle.lists.proofs.Filling.{nowhere_off}
use Rattle.sources.proofs.address.is_outside.Goals as goal

pub returns-in-Register : goal.returns-in-Register
unfolding outside
returns-in-Register c = rw c.in-Register.is (sym (nowhere_off (is_set c.args.on) (table 32 (λ j. j))))
