-- `command::command` meets its contract: a buffer that is too short stays as it was, and in any other all that is printed fits.
-- Assumes nothing.
use Prim.Native.Nat.{◌≤◌, ◌<◌}
use native.Mathlib.Omega.{arith}
use borrow.Author.Tests.{lt-leb, le-leb}
use lib.ListN.{length}
use Rattle.text.proofs.Writing.{none, wrote}
use Rattle.command.specs.Command.{room, commanded}
use Rattle.command.proofs.Runs.{prints}
use Rattle.command.proofs.command.Goals as goal

pub returns-then-output-lt-ROOM : goal.returns-then-output-lt-ROOM
unfolding commanded
returns-then-output-lt-ROOM c =
    let short : length c.args.output.now < room = omega arith in
    rw (lt-leb room _ short) (wrote (omega arith) (none _ 0))

pub returns : goal.returns
unfolding commanded
returns c =
    let long : room ≤ length c.args.output.now = omega arith in
    rw (le-leb room _ long)
    (wrote (omega (
      arith,
      prints.fits c.args.input.now,
      c.print.ensures.place,
      c.print.auto.out,
    )) c.print.ensures)
