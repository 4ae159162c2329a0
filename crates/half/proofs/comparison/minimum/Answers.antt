use Rattle.std.proofs.Common.{rules}
use Rattle.half.proofs.Predicates.{minimum_is}
use Rattle.half.proofs.comparison.minimum.Goals as goal

pub returns : goal.returns
returns c = search (rules, minimum_is)
