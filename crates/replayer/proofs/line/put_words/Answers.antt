-- `replayer::line::put_words` meets its contract: by the input's length.
-- Assumes nothing.
use native.Mathlib.Omega.{arith}
use borrow.Author.Tests.{lt-ltb}
use lib.ListN.{length}
use Rattle.recording.specs.Report.{too_long}
use Rattle.replayer.proofs.line.put_words.Goals as goal

pub returns-then-input-gt65536 : goal.returns-then-input-gt65536
unfolding too_long
returns-then-input-gt65536 c =
    let if1 = c.if-input-gt65536 in
    let put_text = c.put_text in
    (rw (lt-ltb 65536 (length c.args.input.now) if1.true) put_text.ensures, omega (arith, put_text.ensures.place))
