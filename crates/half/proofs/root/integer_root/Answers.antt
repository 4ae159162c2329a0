-- The loop goes down to the root: n stays below the square of s + 1.
use native.Mathlib.Omega.{arith}
use native.Mathlib.Nat.{div-le_self}
use Rattle.half.proofs.Roots.{mean_above, root_found}
use Rattle.half.proofs.root.integer_root.Goals as goal

pub one_down-s-requires : goal.one_down-s-requires
one_down-s-requires c = (
  omega (arith, c.guess-g.ensures, div-le_self c.args.n c.guess-g.result),
  mean_above c.args.n
      c.guess-g.result c.guess-g.ensures.0,
)

pub returns : goal.returns
returns c = root_found c.args.n c.loop-s.s c.requires c.loop-s.invariant.1 c.loop-s-test.false
