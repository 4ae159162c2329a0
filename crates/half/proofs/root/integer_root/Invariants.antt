-- The loop goes down to the root: n stays below the square of s + 1.
use Prim.Native.Nat.{◌<◌, ◌+◌, ◌*◌, ◌^◌}
use Rattle.half.proofs.root.integer_root.Given as goal

abbrev pub invariant-loop-s : goal.invariant-loop-s
invariant-loop-s l = (l.s < 2 ^ 25) × (l.n < (l.s + 1) * (l.s + 1))

abbrev pub decreases-loop-s : goal.decreases-loop-s
decreases-loop-s l = l.s
