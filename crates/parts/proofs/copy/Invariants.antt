-- `parts::copy` meets its contract: after k turns the first k bytes are copied.
use Rattle.parts.proofs.Written.{Written}
use Rattle.parts.proofs.copy.Given as goal

abbrev pub invariant-loop-k : goal.invariant-loop-k
invariant-loop-k l = Written l.bytes l.initial.part l.part l.k
