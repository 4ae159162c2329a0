-- `input::program` stays within its buffers: what `answer` puts ends within the output, as its contract says. Assumes nothing.
use Rattle.std.proofs.Common.{arith}
use Rattle.input.proofs.program.Goals as goal

pub shared_whole_as_front-write_all : goal.shared_whole_as_front-write_all
shared_whole_as_front-write_all g c =
    (omega (arith, c.requires.within _ _ _ _ c.answer-m.ensures, c.answer-m.auto.arg3), omega arith)
