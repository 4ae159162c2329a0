use Rattle.std.proofs.Common.{rules}
use Rattle.half.proofs.Cases.{finite_multiply}
use Rattle.half.proofs.Sums.{beside, product_rounded}
use Rattle.half.proofs.product.any_product.Goals as goal

pub returns : goal.returns
returns c = search (rules, beside, product_rounded, finite_multiply)
