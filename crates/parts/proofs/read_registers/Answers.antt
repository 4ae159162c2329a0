-- `parts::read_registers` meets its contract: after k turns the first k values are those that were read.
use mathlib.Core.Path.{◌∙◌}
use native.Mathlib.Omega.{arith}
use Rattle.lists.proofs.Tables.{length-table}
use Rattle.parts.proofs.Turns.{read_register}
use Rattle.parts.proofs.Written.{nothing, stored}
use Rattle.parts.proofs.read_registers.Goals as goal

pub loop-k-init : goal.loop-k-init
loop-k-init c = nothing _ _ (length-table _ _)

pub loop-k-preserved : goal.loop-k-preserved
loop-k-preserved c =
    stored c.loop-k.invariant 0 (omega arith)
    (c.read_number.ensures.0
    ∙ read_register c.args.part.now _ c.loop-k.k c.as_chunks.ensures.front (omega (arith, c.requires)) c.loop-k-test.true)
