-- `parts::read_registers` meets its contract: after k turns the first k values are those that were read.
use Prim.Native.Nat.{◌*◌}
use Rattle.lists.specs.Lists.{table}
use Rattle.forms.specs.Numbers.{number_in}
use Rattle.parts.proofs.Written.{Written}
use Rattle.parts.proofs.read_registers.Given as goal

abbrev pub invariant-loop-k : goal.invariant-loop-k
invariant-loop-k l = Written (table l.k-end (λ i. number_in l.part (8 * i) 8)) l.initial.values l.values l.k
