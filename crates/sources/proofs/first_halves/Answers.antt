-- `sources::first_halves` meets its contract: by the kind of the source.
use Rattle.lists.specs.Lists.{table}
use Rattle.sources.proofs.first_halves.Goals as goal

pub returns-in-None : goal.returns-in-None
unfolding table
returns-in-None c = rw c.in-None.is
