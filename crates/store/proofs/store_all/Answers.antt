-- `store::store_all` meets its contract: the loop fills the register by two bytes a lane: see proofs/Stored.antt.
use native.Mathlib.Omega.{arith}
use Rattle.machine.specs.Lanes.{new_register}
use Rattle.lists.proofs.Filling.{all}
use Rattle.store.proofs.store_all.Goals as goal

pub returns : goal.returns
unfolding new_register
returns c = all c.loop-j.invariant (λ k h l. absurd (omega (arith, c.loop-j-test.false)))
