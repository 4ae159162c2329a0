-- `half::comparison::is_less` meets its contract: halves are in the order of their ranks.
use Rattle.half.proofs.Ranks.{ranked}
use Rattle.half.proofs.comparison.is_less.Goals as goal

pub returns : goal.returns
returns c = rw (c.rank.ensures, c.rank-2.ensures) (ranked c.args.a c.args.b)
