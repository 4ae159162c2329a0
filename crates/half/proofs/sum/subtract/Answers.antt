use Rattle.half.proofs.Special.{subtract_adds}
use Rattle.half.proofs.sum.subtract.Goals as goal

pub returns : goal.returns
returns c = subtract_adds c.args.a c.args.b _ _ c.subtrahend.ensures c.add.ensures
