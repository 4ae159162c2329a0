-- `command::print` meets its contract: bad by layout, bad by loading, or the lines of the steps.
use mathlib.Core.Path.{refl}
use Rattle.forms.proofs.Refusals.{some_number}
use Rattle.command.specs.Command.{bad_input}
use Rattle.command.proofs.Input.{short_code, bad_layout, bad_load, good_lines}
use Rattle.command.proofs.print.Goals as goal

pub returns-in_default : goal.returns-in_default
unfolding bad_input
returns-in_default c = rw (bad_layout c.args.input.now c.in_default.ensures) c.put_text.ensures

pub returns-in_default-loaded : goal.returns-in_default-loaded
unfolding bad_input
returns-in_default-loaded c =
    rw (bad_load c.args.input.now c.in-Some.ensures c.in_default-loaded.ensures (some_number _)) c.put_text-in_default-loaded.ensures

pub put_lines-requires : goal.put_lines-requires
put_lines-requires c = (short_code _ c.in-Some.ensures, c.requires)

pub returns : goal.returns
returns c = rw (good_lines c.args.input.now c.in-Some.ensures c.in-Ok.ensures refl) c.put_lines.ensures
