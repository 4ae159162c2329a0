-- `replayer::line::put_line` meets its contract: the words, and a line feed.
-- Assumes nothing.
use native.Mathlib.Omega.{arith}
use Rattle.text.proofs.Writing.{followed}
use Rattle.recording.specs.Report.{replay_line}
use Rattle.replayer.proofs.line.put_line.Goals as goal

pub returns : goal.returns
unfolding replay_line
returns c =
    let put_words = c.put_words-next in
    let put_text = c.put_text in (
      followed (omega arith) put_words.ensures.0 put_text.ensures,
      omega (arith, put_words.ensures.1, put_text.ensures.place),
    )
