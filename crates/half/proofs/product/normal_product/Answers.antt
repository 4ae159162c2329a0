use Rattle.std.proofs.Common.{rules}
use native.Mathlib.Omega.{arith}
use Rattle.half.proofs.Digits.{large_from}
use Rattle.half.proofs.Normals.{product_rounds}
use Rattle.half.proofs.product.normal_product.Goals as goal

pub returns-then-e-lt23 : goal.returns-then-e-lt23
returns-then-e-lt23 c = search (rules, product_rounds)

pub round_large-requires : goal.round_large-requires
round_large-requires c =
    (large_from 20 c.product-m.result _ c.product-m.ensures.1 (omega arith), omega arith)

pub returns : goal.returns
returns c = search (rules, product_rounds)
