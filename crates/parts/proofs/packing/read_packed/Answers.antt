-- `parts::packing::read_packed` meets its contract: after i turns the first i registers are read.
use native.Mathlib.Omega.{arith}
use Rattle.parts.proofs.Written.{kept}
use Rattle.parts.proofs.Loops.{register_long}
use Rattle.parts.proofs.Packed.{packed_least, nothing_unpacked, next_stands, one_unpacked}
use Rattle.parts.proofs.packing.read_packed.Goals as goal

pub word_in-word-requires : goal.word_in-word-requires
word_in-word-requires c = packed_least c.args.part.now c.requires.1

pub loop-i-init : goal.loop-i-init
loop-i-init c = nothing_unpacked c.args.part.now c.args.vectors.now c.requires.0 c.requires.1 c.word_in-word.ensures

pub read_one-at-requires : goal.read_one-at-requires
read_one-at-requires c = (
  omega arith,
  register_long c.loop-i.vectors c.loop-i.i
      (omega (arith, kept c.loop-i.invariant.written, c.requires.0)) (omega arith),
  next_stands c.loop-i.invariant (omega arith),
)

pub loop-i-preserved : goal.loop-i-preserved
loop-i-preserved c =
    let loop = c.loop-i in
    one_unpacked loop.invariant (omega arith) c.read_one-at.ensures.0 c.read_one-at.ensures.1
