use Rattle.std.proofs.Common.{rules}
use native.Mathlib.Omega.{arith}
use Rattle.half.proofs.Cases.{finite_add}
use Rattle.half.proofs.Sums.{beside, sum_units}
use Rattle.half.proofs.Units.{units_lt}
use Rattle.half.proofs.sum.any_sum.Goals as goal

pub overflow_mul-x : goal.overflow_mul-x
overflow_mul-x c = omega (arith, units_lt c.args.a)

pub overflow_mul-y : goal.overflow_mul-y
overflow_mul-y c = omega (arith, units_lt c.args.b)

pub finite_sum-o-requires : goal.finite_sum-o-requires
finite_sum-o-requires c = omega (arith, units_lt c.args.a, units_lt c.args.b)

pub returns : goal.returns
returns c = search (rules, beside, sum_units, finite_add)
