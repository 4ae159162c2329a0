-- `half::comparison::predicate_of` meets its contract: the table of predicates, packed.
use Rattle.half.proofs.Predicates.{unpacked}
use Rattle.half.proofs.comparison.predicate_of.Goals as goal

pub returns : goal.returns
returns c = unpacked c.args.immediate
