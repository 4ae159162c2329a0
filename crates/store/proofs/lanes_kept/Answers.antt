-- `store::lanes_kept` meets its contract: bit by bit: see proofs/Kept.antt.
use Rattle.store.proofs.Kept.{kept_some}
use Rattle.store.proofs.lanes_kept.Goals as goal

pub returns : goal.returns
returns c = rw c.below.ensures (kept_some c.args.on c.args.i c.ranges.on.fits c.requires.elements c.if-i.false)
