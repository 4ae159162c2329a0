use Rattle.std.proofs.Common.{rules}
use native.Mathlib.Omega.{arith}
use Rattle.half.proofs.Digits.{large_from}
use Rattle.half.proofs.Quotients.{quotient_ge, quotient_rounds}
use Rattle.half.proofs.quotient.normal_quotient.Goals as goal

pub returns-then-e-lt22 : goal.returns-then-e-lt22
returns-then-e-lt22 c = search (rules, quotient_rounds)

pub round_large-requires : goal.round_large-requires
round_large-requires c = (
  large_from 21 c.quotient_place-m.result _
      (quotient_ge c.args.a.half c.args.b.half c.args.a.normal c.args.b.normal c.significand-n.ensures
      c.significand.ensures c.quotient_place-m.ensures) (omega arith),
  omega arith,
)

pub returns : goal.returns
returns c =
    quotient_rounds c.args.a.half c.args.b.half c.args.a.normal c.args.b.normal c.significand-n.ensures c.significand.ensures
    c.quotient_place-m.ensures _ _ c.exponent.ensures.0 c.exponent-2.ensures.0
    c.unlike_signs-neg.ensures (c.round_large.ensures _)
