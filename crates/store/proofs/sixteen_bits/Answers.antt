-- `store::sixteen_bits` meets its contract: the loop or-s the bits, each at its place.
use native.Mathlib.Omega.{arith}
use lib.Pow.{shl_exact}
use Rattle.lists.proofs.Filling.{or_none, or_more, bits_joined}
use Rattle.store.proofs.sixteen_bits.Goals as goal

pub loop-j-init : goal.loop-j-init
loop-j-init c = (or_none, omega arith)

pub loop-j-preserved : goal.loop-j-preserved
loop-j-preserved c =
    let turn = c.loop-j in
    (or_more turn.invariant.0 (shl_exact 1 turn.j 16 (omega arith) (omega arith)), omega arith)

pub returns : goal.returns
returns c = bits_joined _ c.loop-j.invariant.0 c.loop-j.invariant.1 c.loop-j-test.false
