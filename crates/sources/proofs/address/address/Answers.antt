-- `sources::address::address` meets its contract: two sums, each modulo 2 to the 64.
use lib.Signed.{mag}
use Rattle.std.proofs.Common.{◌^◌, ◌<◌, arith, to_z-of_z, w32}
use Rattle.machine.specs.Memory.{address_from}
use Rattle.sources.proofs.address.address.Goals as goal

pub returns : goal.returns
unfolding address_from
returns c =
    let d = c.args.a.displacement in
    let f : mag d < 2 ^ 31 = omega arith in
    rw (
      c.wrapped.ensures,
      c.base_value.ensures,
      c.index_value.ensures,
      to_z-of_z {w = w32} {z = d} (record { sfits = f }),
    )
    (omega arith)
