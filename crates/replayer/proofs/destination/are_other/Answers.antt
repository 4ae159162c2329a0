-- `replayer::destination::are_other` meets its contract: the library compares the arrays (Comparing.antt).
-- Assumes nothing.
use Rattle.replayer.proofs.Comparing.{compared}
use Rattle.replayer.proofs.destination.are_other.Goals as goal

pub returns : goal.returns
returns c = rw (← compared c.args.a.now c.args.b.now) c.ne.ensures
