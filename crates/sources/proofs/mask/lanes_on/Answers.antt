-- `sources::mask::lanes_on` meets its contract: bit by bit: see proofs/Sets.antt.
use Rattle.sources.proofs.Sets.{on_all, on_some}
use Rattle.sources.proofs.mask.lanes_on.Goals as goal

pub returns-then-mask-eq0 : goal.returns-then-mask-eq0
returns-then-mask-eq0 c =
    rw c.below.ensures (on_all c.args.masks.now c.args.mask c.args.elements
    c.if-mask-eq0.true)

pub returns : goal.returns
returns c =
    let args = c.args in
    rw c.below-2.ensures (on_some args.masks.now args.mask args.elements c.if-mask-eq0.false)
