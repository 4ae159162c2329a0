-- `store::store_some` meets its contract: the loop fills the register by two bytes a lane, and all lanes behind them are kept: see
-- proofs/Stored.antt.
use Prim.Native.Nat.{◌*◌, ◌-◌}
use Rattle.evex.specs.Bits.{is_set}
use Rattle.lists.proofs.Filling.{Filled}
use Rattle.store.proofs.Stored.{byte_of}
use Rattle.store.proofs.store_some.Given as goal

abbrev pub invariant-loop-j : goal.invariant-loop-j
invariant-loop-j l = Filled (byte_of (is_set l.kept) l.halves 0 l.initial.register) 64 l.initial.register l.register (2 * l.j)

abbrev pub decreases-loop-j : goal.decreases-loop-j
decreases-loop-j l = l.end - l.j
