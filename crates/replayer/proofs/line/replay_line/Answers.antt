-- `replayer::line::replay_line` meets its contract: a buffer that is too short stays as it was, and in any other the line fits.
-- Assumes nothing.
use native.Mathlib.Omega.{arith}
use borrow.Author.Tests.{lt-leb, le-leb}
use Rattle.text.proofs.Writing.{none, wrote}
use Rattle.recording.specs.Report.{line_room, line_for}
use Rattle.replayer.proofs.line.replay_line.Goals as goal

pub returns-then-output-lt32 : goal.returns-then-output-lt32
unfolding line_for
returns-then-output-lt32 c = rw (lt-leb line_room _ c.if-output-lt32.true) (wrote (omega arith) (none _ 0))

pub returns : goal.returns
unfolding line_for
returns c =
    let if1 = c.if-output-lt32 in
    let put_line = c.put_line in
    rw (le-leb line_room _ if1.false) (wrote (omega (arith, put_line.ensures.1, put_line.auto.out, if1.false)) put_line.ensures.0)
