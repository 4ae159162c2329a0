-- `parts::packing::read_packed` meets its contract: after i turns the first i registers are read.
use Prim.Native.Nat.{◌-◌}
use Rattle.parts.proofs.Packed.{Unpacking}
use Rattle.parts.proofs.packing.read_packed.Given as goal

abbrev pub invariant-loop-i : goal.invariant-loop-i
invariant-loop-i l = Unpacking l.part l.word l.initial.vectors l.vectors l.at l.i

abbrev pub decreases-loop-i : goal.decreases-loop-i
decreases-loop-i l = 32 - l.i
