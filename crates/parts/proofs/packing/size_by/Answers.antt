-- `parts::packing::size_by` meets its contract: after i turns `at` is where register i stands.
use native.Mathlib.Omega.{arith}
use Rattle.parts.proofs.Loops.{first_placed, next_placed, last_placed, placed_most}
use Rattle.parts.proofs.packing.size_by.Goals as goal

pub loop-i-init : goal.loop-i-init
loop-i-init c = first_placed _

pub overflow_add-at : goal.overflow_add-at
overflow_add-at c = omega (arith, placed_most (next_placed c.loop-i.invariant (omega arith) c.size_of-at.ensures))

pub loop-i-preserved : goal.loop-i-preserved
loop-i-preserved c = next_placed c.loop-i.invariant (omega arith) c.size_of-at.ensures

pub returns : goal.returns
returns c = (last_placed c.loop-i.invariant (omega arith), placed_most c.loop-i.invariant)
