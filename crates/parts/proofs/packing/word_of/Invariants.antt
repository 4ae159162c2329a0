-- `parts::packing::word_of` meets its contract: after i turns the word has the bits of the first i registers.
use Rattle.parts.proofs.Loops.{Marked}
use Rattle.parts.proofs.packing.word_of.Given as goal

abbrev pub invariant-loop-i : goal.invariant-loop-i
invariant-loop-i l = Marked l.vectors l.word l.i
