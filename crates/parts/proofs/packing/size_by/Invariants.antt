-- `parts::packing::size_by` meets its contract: after i turns `at` is where register i stands.
use Prim.Native.Nat.{◌-◌}
use Rattle.parts.proofs.Loops.{Placed}
use Rattle.parts.proofs.packing.size_by.Given as goal

abbrev pub invariant-loop-i : goal.invariant-loop-i
invariant-loop-i l = Placed l.word l.at l.i

abbrev pub decreases-loop-i : goal.decreases-loop-i
decreases-loop-i l = 32 - l.i
