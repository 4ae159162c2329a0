use Rattle.std.proofs.Common.{rules}
use Rattle.half.proofs.Predicates.{compare_is}
use Rattle.half.proofs.comparison.compare.Goals as goal

pub returns : goal.returns
returns c = search (rules, compare_is)
