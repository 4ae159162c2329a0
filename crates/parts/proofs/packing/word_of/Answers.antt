-- `parts::packing::word_of` meets its contract: after i turns the word has the bits of the first i registers.
use native.Mathlib.Omega.{arith}
use Rattle.parts.proofs.Loops.{nothing_marked, word_fits, one_marked, all_marked, chunk_register}
use Rattle.parts.proofs.packing.word_of.Goals as goal

pub loop-i-init : goal.loop-i-init
loop-i-init c = nothing_marked _

pub overflow_add-word : goal.overflow_add-word
overflow_add-word c =
    let chunks = c.as_chunks.ensures in
    record {
      fits = word_fits c.loop-i.invariant (omega (arith, chunks.front_len, c.loop-i-test.true))
          (chunk_register c.args.vectors.now c.loop-i.i chunks.front (omega (arith, chunks.front_len, c.loop-i-test.true))) c.mark-word.ensures;
    }

pub loop-i-preserved : goal.loop-i-preserved
loop-i-preserved c =
    let chunks = c.as_chunks.ensures in
    one_marked c.loop-i.invariant (omega (arith, chunks.front_len, c.loop-i-test.true))
    (chunk_register c.args.vectors.now c.loop-i.i chunks.front (omega (arith, chunks.front_len, c.loop-i-test.true))) c.mark-word.ensures

pub returns : goal.returns
returns c = all_marked c.loop-i.invariant (omega (arith, c.as_chunks.ensures.front_len))
