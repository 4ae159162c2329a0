-- `parts::read_number` meets its contract: after k turns x is the number of the first k bytes, which fits.
use Rattle.parts.proofs.Reading.{Reading}
use Rattle.parts.proofs.read_number.Given as goal

abbrev pub invariant-loop-byte : goal.invariant-loop-byte
invariant-loop-byte l = Reading l.part l.x l.byte-index
