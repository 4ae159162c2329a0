use native.Mathlib.Omega.{arith}
use Rattle.half.proofs.Roots.{root_lt, root_square, root_even, root_odd}
use Rattle.half.proofs.root.root_place.Goals as goal

pub overflow_mul-s : goal.overflow_mul-s
overflow_mul-s c = omega (arith, root_square 12 c.args.n _ c.integer_root-s.ensures c.requires)

pub overflow_mul-result-else-s-n : goal.overflow_mul-result-else-s-n
overflow_mul-result-else-s-n c = omega (arith, root_lt 12 c.args.n _ c.integer_root-s.ensures c.requires)

pub overflow_add-result : goal.overflow_add-result
overflow_add-result c = omega (arith, root_lt 12 c.args.n _ c.integer_root-s.ensures c.requires)

pub returns-then-s-n : goal.returns-then-s-n
returns-then-s-n c = root_even 12 c.args.n _ c.integer_root-s.ensures c.if-s-n.true

pub returns-else-s-n : goal.returns-else-s-n
returns-else-s-n c = root_odd 12 c.args.n _ c.integer_root-s.ensures c.requires c.if-s-n.false
