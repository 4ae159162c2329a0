use Rattle.std.proofs.Common.{rules}
use Rattle.half.proofs.Steps.{carried}
use Rattle.half.proofs.rounding.whole_steps.Goals as goal

pub returns : goal.returns
returns c = search (rules, carried)
