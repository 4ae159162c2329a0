-- `parts::packing::is_present` meets its contract: all bytes are or-ed.
use mathlib.Core.Path.{◌≡◌}
use lib.Bits.{bit_or}
use Rattle.std.proofs.Common.{rules}
use Rattle.std.specs.List.{fold}
use Rattle.parts.proofs.Loops.{present_is}
use Rattle.parts.proofs.packing.is_present.Goals as goal

pub returns : goal.returns
returns c =
    let e : c.fold.result ≡ fold bit_or 0 c.args.register.now = search rules in
    present_is c.args.register.now e
