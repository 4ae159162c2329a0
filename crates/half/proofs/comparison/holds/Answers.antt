-- `half::comparison::holds` meets its contract: test by test, in the order of the definition.
use Rattle.std.proofs.Common.{rules}
use Rattle.half.specs.Comparison.{relation}
use Rattle.half.proofs.Predicates.{holds_is}
use Rattle.half.proofs.comparison.holds.Goals as goal

pub returns : goal.returns
unfolding relation
returns c = search (rules, holds_is)
