-- `parts::put_number` meets its contract: after k turns the first k bytes are those of the number.
use Rattle.forms.specs.Numbers.{big}
use Rattle.parts.proofs.Written.{Written}
use Rattle.parts.proofs.put_number.Given as goal

abbrev pub invariant-loop-k : goal.invariant-loop-k
invariant-loop-k l = Written (big l.n l.x) l.initial.part l.part l.k
