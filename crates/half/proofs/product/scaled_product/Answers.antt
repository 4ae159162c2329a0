use Rattle.std.proofs.Common.{rules}
use Rattle.half.proofs.Scales.{raised, lowered}
use Rattle.half.proofs.product.scaled_product.Goals as goal

pub returns-then-e-ge0 : goal.returns-then-e-ge0
returns-then-e-ge0 c = search (rules, raised)

pub returns : goal.returns
returns c = search (rules, lowered)
