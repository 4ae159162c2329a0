use mathlib.Core.Path.{refl}
use Rattle.half.proofs.Digits.{large_test}
use Rattle.half.proofs.normal.is_large.Goals as goal

pub returns : goal.returns
returns c = large_test c.args.m c.args.e c.ranges.m.fits refl
