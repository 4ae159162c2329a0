-- `command::line::put_stop_line` meets its contract: one text behind the other.
-- Assumes nothing.
use Prim.Native.Nat.{◌≤◌}
use native.Mathlib.Omega.{arith}
use lib.ListN.{length}
use Rattle.text.proofs.Writing.{followed}
use Rattle.command.specs.Command.{stop_line}
use Rattle.command.proofs.line.put_stop_line.Goals as goal

pub returns : goal.returns
unfolding stop_line
returns c =
    let put_text = c.put_text-next in
    let put_decimal = c.put_decimal-next in
    let fits : c.args.at ≤ length c.args.out.now = omega (arith, c.requires) in
    followed fits (followed fits put_text.ensures put_decimal.ensures) c.put_text.ensures
