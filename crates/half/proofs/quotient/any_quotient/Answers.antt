use Rattle.std.proofs.Common.{rules}
use Rattle.half.proofs.Cases.{finite_divide, divisor_not_zero, ordinary}
use Rattle.half.proofs.Sums.{beside}
use Rattle.half.proofs.Quotients.{one_small, divisor_pos, quotient_units}
use Rattle.half.proofs.quotient.any_quotient.Goals as goal

pub finite_quotient-o-requires : goal.finite_quotient-o-requires
finite_quotient-o-requires c = search (rules, ordinary, one_small, divisor_pos, divisor_not_zero)

pub returns : goal.returns
returns c = search (rules, ordinary, quotient_units, divisor_not_zero, beside, finite_divide)
