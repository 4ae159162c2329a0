use native.Mathlib.Omega.{arith}
use Rattle.half.proofs.Places.{zeros_size}
use Rattle.half.proofs.rounding.dropped.Goals as goal

pub returns-then-zeros-lt50 : goal.returns-then-zeros-lt50
returns-then-zeros-lt50 c = let e = zeros_size c.args.t c.ranges.t.fits in omega arith

pub returns-else-zeros-lt50 : goal.returns-else-zeros-lt50
returns-else-zeros-lt50 c = let e = zeros_size c.args.t c.ranges.t.fits in omega arith
