use Rattle.std.proofs.Common.{rules}
use native.Mathlib.Omega.{arith}
use Rattle.half.proofs.Bridge.{steps_le}
use Rattle.half.proofs.Digits.{packed_over, packed_fits}
use Rattle.half.proofs.normal.packed.Goals as goal

pub overflow_add-m : goal.overflow_add-m
overflow_add-m c = omega (arith, steps_le c.args.mode c.args.neg c.args.z, c.whole_steps-q.ensures)

pub returns-then-m-ge31744 : goal.returns-then-m-ge31744
returns-then-m-ge31744 c = search (rules, packed_over)

pub returns : goal.returns
returns c = search (rules, packed_fits)
