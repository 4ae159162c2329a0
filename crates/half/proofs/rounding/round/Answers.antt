use Rattle.std.proofs.Common.{rules}
use native.Mathlib.Omega.{arith}
use lib.Ieee.Digits.{size-le}
use Rattle.half.proofs.Bridge.{steps_le}
use Rattle.half.proofs.Places.{place_half}
use Rattle.half.proofs.Steps.{over, fit}
use Rattle.half.proofs.rounding.round.Goals as goal

pub overflow_add-k : goal.overflow_add-k
overflow_add-k c = let s = size-le c.args.t 64 c.ranges.t.fits in omega arith

pub place_of-z-requires : goal.place_of-z-requires
place_of-z-requires c = let s = size-le c.args.t 64 c.ranges.t.fits in omega arith

pub whole_steps-q-requires : goal.whole_steps-q-requires
whole_steps-q-requires c = place_half c.args.t _ c.ranges.t.fits (omega arith) c.place_of-z.ensures

pub overflow_add-m : goal.overflow_add-m
overflow_add-m c =
    let s = size-le c.args.t 64 c.ranges.t.fits in omega
    (arith, steps_le c.args.mode c.args.neg c.place_of-z.result)

pub returns-then-m-ge31744 : goal.returns-then-m-ge31744
returns-then-m-ge31744 c = search (rules, over)

pub returns : goal.returns
returns c = search (rules, fit)
