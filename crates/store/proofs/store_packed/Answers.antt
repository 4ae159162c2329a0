-- `store::store_packed` meets its contract: the register's 64 bytes are lent, and come back in their place.
use Prim.Native.Nat.{◌+◌, ◌*◌, ◌-◌}
use mathlib.Core.Path.{◌≡◌}
use native.Mathlib.Omega.{arith}
use Rattle.evex.specs.Bits.{is_set}
use Rattle.store.proofs.Stored.{pasted}
use Rattle.store.proofs.store_packed.Goals as goal

pub returns : goal.returns
returns c =
    let args = c.args in
    let e : args.n * 64 + 64 - args.n * 64 ≡ 64 = omega arith in
    rw (c.store_lanes.ensures, e) (pasted (is_set args.kept) args.halves args.vectors.now args.n)
