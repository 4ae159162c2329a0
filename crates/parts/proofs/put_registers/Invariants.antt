-- `parts::put_registers` meets its contract: after k turns the first 8 k bytes are those of the registers.
use Prim.Native.Nat.{◌*◌}
use Rattle.forms.specs.Numbers.{registers}
use Rattle.parts.proofs.Written.{Written}
use Rattle.parts.proofs.put_registers.Given as goal

abbrev pub invariant-loop-k : goal.invariant-loop-k
invariant-loop-k l = Written (registers l.k-end l.values) l.initial.part l.part (8 * l.k)
