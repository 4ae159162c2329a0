-- `store::scalar::lower_lanes` meets its contract: sixteen bytes, and 0 behind them.
use Prim.Native.Nat.{◌+◌, ◌*◌, ◌-◌}
use mathlib.Core.Path.{◌≡◌}
use native.Mathlib.Omega.{arith}
use Rattle.store.proofs.Upper.{lower_is}
use Rattle.store.proofs.scalar.lower_lanes.Goals as goal

pub returns : goal.returns
returns c =
    let e : c.args.n * 64 + 16 - c.args.n * 64 ≡ 16 = omega arith in
    rw (c.copy_from_slice.ensures.after, e) (lower_is c.args.vectors.now c.args.n c.requires c.told-vectors)
