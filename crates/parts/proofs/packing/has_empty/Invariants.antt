-- `parts::packing::has_empty` meets its contract: before register i none is marked and all zero.
use Prim.Native.Nat.{◌-◌}
use Rattle.parts.proofs.Packed.{Full}
use Rattle.parts.proofs.packing.has_empty.Given as goal

abbrev pub invariant-loop-i : goal.invariant-loop-i
invariant-loop-i l = Full l.part l.word l.at l.i

abbrev pub decreases-loop-i : goal.decreases-loop-i
decreases-loop-i l = 32 - l.i
