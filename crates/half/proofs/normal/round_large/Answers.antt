use native.Mathlib.Omega.{arith}
use mathlib.Core.Path.{refl}
use Rattle.half.proofs.Digits.{zeros_le, large_digits, large_rounds}
use Rattle.half.proofs.normal.round_large.Goals as goal

pub overflow_sub-e : goal.overflow_sub-e
overflow_sub-e c = omega (arith, zeros_le c.args.m c.args.e c.ranges.m.fits refl c.requires.0)

pub packed-requires : goal.packed-requires
packed-requires c =
    let r = large_digits c.args.m c.args.e c.ranges.m.fits refl c.requires.0
    c.place_of-z.ensures in (r.0, r.1, omega arith)

pub returns : goal.returns
returns c =
    large_rounds c.args.m c.args.e c.ranges.m.fits refl
    c.requires.0 c.place_of-z.ensures _ _ c.packed.ensures
