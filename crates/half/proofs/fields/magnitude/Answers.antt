use Rattle.half.proofs.Units.{units_raised}
use Rattle.half.proofs.fields.magnitude.Goals as goal

pub returns : goal.returns
returns c = units_raised c.args.h c.significand_of.ensures c.lift_of.ensures
