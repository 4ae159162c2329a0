-- `replayer::destination::mask_bytes` meets its contract: a number over the first 8 of 64 zeros.
-- Assumes nothing.
use Rattle.lists.specs.Lists.{table}
use Rattle.replayer.proofs.destination.mask_bytes.Goals as goal

pub returns : goal.returns
unfolding table
returns c = rw c.put_number.ensures
