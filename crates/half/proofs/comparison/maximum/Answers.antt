use Rattle.std.proofs.Common.{rules}
use Rattle.half.proofs.Predicates.{maximum_is}
use Rattle.half.proofs.comparison.maximum.Goals as goal

pub returns : goal.returns
returns c = search (rules, maximum_is)
