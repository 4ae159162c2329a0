-- `parts::packing::put_packed` meets its contract: after i turns the word and the present ones of the first i registers are written.
use Rattle.parts.proofs.Packed.{Putting}
use Rattle.parts.proofs.packing.put_packed.Given as goal

abbrev pub invariant-loop-i : goal.invariant-loop-i
invariant-loop-i l = Putting l.vectors l.initial.part l.part l.at l.i
