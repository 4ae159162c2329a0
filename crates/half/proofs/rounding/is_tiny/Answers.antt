use Rattle.std.proofs.Common.{rules}
use Rattle.half.proofs.Steps.{tiny_below}
use Rattle.half.proofs.rounding.is_tiny.Goals as goal

pub returns : goal.returns
returns c = search (rules, tiny_below)
