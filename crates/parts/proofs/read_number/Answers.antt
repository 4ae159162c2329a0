-- `parts::read_number` meets its contract: after k turns x is the number of the first k bytes, which fits.
use native.Mathlib.Omega.{arith}
use Rattle.parts.proofs.Reading.{nothing_read, next_fits, next_read}
use Rattle.parts.proofs.read_number.Goals as goal

pub loop-byte-init : goal.loop-byte-init
loop-byte-init c = nothing_read _ c.requires

pub overflow_mul-x : goal.overflow_mul-x
overflow_mul-x c = record { fits = omega (arith, next_fits c.loop-byte.invariant {b = 0} (omega arith) (omega arith)) }

pub loop-byte-preserved : goal.loop-byte-preserved
loop-byte-preserved c = next_read c.loop-byte.invariant (omega arith) c.from.ensures (rw c.from.ensures (c.type_inv.part c.loop-byte.byte-index).fits)
