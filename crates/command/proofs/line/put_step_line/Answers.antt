-- `command::line::put_step_line` meets its contract: one text behind the other.
-- Assumes nothing.
use Prim.Native.Nat.{◌≤◌}
use native.Mathlib.Omega.{arith}
use lib.ListN.{length}
use Rattle.text.proofs.Writing.{followed}
use Rattle.command.specs.Command.{step_line}
use Rattle.command.proofs.line.put_step_line.Goals as goal

pub returns : goal.returns
unfolding step_line
returns c =
    let put_decimal = c.put_decimal-next in
    let put_text = c.put_text-next in
    let put_decimal2 = c.put_decimal-next-2 in
    let put_text2 = c.put_text-next-2 in
    let put_hex = c.put_hex-next in
    let fits : c.args.at ≤ length c.args.out.now = omega (arith, c.requires) in
    followed fits
    (followed fits (followed fits (followed fits (followed fits put_decimal.ensures put_text.ensures) put_decimal2.ensures)
    put_text2.ensures) put_hex.ensures)
    c.put_text.ensures
