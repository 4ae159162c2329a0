-- `parts::packing::put_packed` meets its contract: after i turns the word and the present ones of the first i registers are written.
use Prim.Native.Nat.{◌<◌}
use native.Mathlib.Omega.{arith}
use Rattle.parts.proofs.Packed.{pack_least, says_present, word_put, next_room, one_put, all_put}
use Rattle.parts.proofs.Loops.{chunk_register}
use Rattle.parts.proofs.packing.put_packed.Goals as goal

pub slice_bounds-put_number-end : goal.slice_bounds-put_number-end
slice_bounds-put_number-end c =
    pack_least c.args.vectors.now c.args.part.now c.requires.0
    c.requires.2

pub loop-i-init : goal.loop-i-init
loop-i-init c =
    word_put c.args.vectors.now c.args.part.now c.requires.0 c.requires.2 c.requires.1
    c.put_number.ensures

pub put_one-at-requires : goal.put_one-at-requires
put_one-at-requires c =
    let h : c.loop-i.i < 32 = omega (arith, c.as_chunks.ensures.front_len, c.loop-i-test.true) in
    let is = chunk_register c.args.vectors.now c.loop-i.i c.as_chunks.ensures.front (omega (arith, c.requires.0)) in
    (h, says_present c.args.vectors.now c.loop-i.i h c.requires.1 is, next_room c.loop-i.invariant h is)

pub loop-i-preserved : goal.loop-i-preserved
loop-i-preserved c =
    let h : c.loop-i.i < 32 = omega (arith, c.as_chunks.ensures.front_len, c.loop-i-test.true) in
    one_put c.loop-i.invariant h (chunk_register c.args.vectors.now c.loop-i.i c.as_chunks.ensures.front (omega (arith, c.requires.0)))
    c.put_one-at.ensures.0 c.put_one-at.ensures.1

pub returns : goal.returns
returns c = all_put c.loop-i.invariant (omega (arith, c.as_chunks.ensures.front_len))
