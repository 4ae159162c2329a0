use Rattle.std.proofs.Common.{rules}
use Rattle.half.proofs.Sums.{no_sum, summed}
use Rattle.half.proofs.sum.finite_sum.Goals as goal

pub returns-then-m-eq0 : goal.returns-then-m-eq0
returns-then-m-eq0 c = no_sum _ _ _ _ _ _ _ c.total-m.ensures c.if-m-eq0.true c.zero_sum.ensures

pub returns : goal.returns
returns c = search (rules, summed)
