use Rattle.std.proofs.Common.{rules}
use Rattle.half.proofs.Units.{finite_le}
use Rattle.half.proofs.Cases.{third, finite_multiply_add}
use Rattle.half.proofs.fused.any_fused.Goals as goal

pub finite_fused-o-requires : goal.finite_fused-o-requires
finite_fused-o-requires c = search (rules, finite_le, third)

pub returns : goal.returns
returns c = search (rules, finite_multiply_add)
