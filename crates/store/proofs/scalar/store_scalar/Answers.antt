-- `store::scalar::store_scalar` meets its contract: the register's 64 bytes are lent, and come back in their place.
use Prim.Native.Nat.{◌+◌, ◌*◌, ◌-◌}
use mathlib.Core.Path.{◌≡◌}
use mathlib.Core.List.{[], ◌∷◌}
use native.Mathlib.Omega.{arith}
use Rattle.evex.specs.Bits.{is_set}
use Rattle.store.proofs.Upper.{stored}
use Rattle.store.proofs.scalar.store_scalar.Goals as goal

pub returns : goal.returns
returns c =
    let args = c.args in
    let e : args.n * 64 + 64 - args.n * 64 ≡ 64 = omega arith in
    rw (
      c.store_around.ensures,
      c.lower_lanes-bytes.ensures,
      c.either-high.ensures,
      c.either-low.ensures,
      c.to_le_bytes.ensures,
      c.has-keeps.ensures,
      e,
    )
    (stored (is_set args.kept) (args.half ∷ []) args.from args.n args.vectors.now)
