-- `saved::put_numbers` meets its contract: the four parts are a law of Saving.antt.
use mathlib.Core.Path.{◌∙◌}
use native.Mathlib.Omega.{arith}
use Rattle.saved.proofs.Saving.{numbers_written}
use Rattle.saved.proofs.put_numbers.Goals as goal

pub returns : goal.returns
returns c =
    let put_number = c.put_number in
    let put_number2 = c.put_number-2 in
    let put_registers = c.put_registers in
    numbers_written _ _
    c.args.general.now
    c.args.masks.now
    c.args.part.now
    (omega arith)
    (omega arith)
    c.requires
    (put_number.ensures ∙ rw c.from.ensures)
    put_number2.ensures
    put_registers.ensures
    c.put_registers-2.ensures
