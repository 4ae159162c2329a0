-- `store::sixteen_bits` meets its contract: the loop or-s the bits, each at its place.
use Prim.Native.Nat.{◌+◌, ◌-◌, ◌*◌, ◌%◌, ◌^◌, ◌≤◌}
use lib.ListN.{get_or}
use Rattle.lists.proofs.Filling.{Ored}
use Rattle.store.proofs.sixteen_bits.Given as goal

abbrev pub invariant-loop-j : goal.invariant-loop-j
invariant-loop-j l = Ored (λ k. get_or l.halves (l.from + k) 0 % 2 * 2 ^ k) l.bits l.j × (l.j ≤ 16)

abbrev pub decreases-loop-j : goal.decreases-loop-j
decreases-loop-j l = 16 - l.j
