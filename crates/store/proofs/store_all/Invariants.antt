-- `store::store_all` meets its contract: the loop fills the register by two bytes a lane: see proofs/Stored.antt.
use mathlib.Core.Bool.{false}
use Prim.Native.Nat.{◌*◌, ◌-◌}
use Rattle.lists.proofs.Filling.{Filled}
use Rattle.store.proofs.Stored.{byte_of}
use Rattle.store.proofs.store_all.Given as goal

abbrev pub invariant-loop-j : goal.invariant-loop-j
invariant-loop-j l = Filled (byte_of (λ j. false) l.halves 0 l.initial.register) 64 l.initial.register l.register (2 * l.j)

abbrev pub decreases-loop-j : goal.decreases-loop-j
decreases-loop-j l = 32 - l.j
