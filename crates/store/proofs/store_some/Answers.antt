-- `store::store_some` meets its contract: the loop fills the register by two bytes a lane, and all lanes behind them are kept: see
-- proofs/Stored.antt.
use Prim.Native.Nat.{◌*◌, ◌≤◌}
use native.Mathlib.Omega.{arith}
use Rattle.machine.specs.Lanes.{new_register}
use Rattle.lists.proofs.Filling.{all}
use Rattle.store.proofs.Stored.{rest_left}
use Rattle.store.proofs.store_some.Goals as goal

pub returns : goal.returns
unfolding new_register
returns c =
    all c.loop-j.invariant
    (λ k h l.
    let e : 2 * c.end_of-end.result ≤ k = omega (arith, c.loop-j-test.false) in
    rest_left _ _ _ _ c.ranges.kept.fits c.end_of-end.ensures.0 k e l)
