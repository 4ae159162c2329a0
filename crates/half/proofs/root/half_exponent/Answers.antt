use native.Mathlib.Omega.{arith}
use Rattle.half.proofs.Places.{zeros_size, size_large}
use Rattle.half.proofs.root.half_exponent.Goals as goal

pub returns : goal.returns
returns c = let e = zeros_size c.args.x c.ranges.x.fits in let l = size_large c.args.x 0 c.requires in omega arith
