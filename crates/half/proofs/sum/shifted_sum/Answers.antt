use Rattle.std.proofs.Common.{rules}
use Rattle.half.proofs.Sums.{shifted_fit, shifted_sum}
use Rattle.half.proofs.sum.shifted_sum.Goals as goal

pub total-requires : goal.total-requires
total-requires c = search (rules, shifted_fit)

pub returns : goal.returns
returns c = search (rules, shifted_sum)
