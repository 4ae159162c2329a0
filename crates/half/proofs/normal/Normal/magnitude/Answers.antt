use native.Mathlib.Omega.{arith}
use Rattle.half.proofs.Units.{finite_lt}
use Rattle.half.proofs.Normals.{normal_finite, normal_raised}
use Rattle.half.proofs.normal.Normal.magnitude.Goals as goal

pub returns : goal.returns
returns c =
    let h = c.args.self.half in
    let n = c.args.self.normal in
    let e = normal_raised h n c.significand.ensures.0
    c.exponent.ensures.0 in (e, omega (arith, e, finite_lt h (normal_finite h n)))
