-- `parts::put_registers` meets its contract: after k turns the first 8 k bytes are those of the registers.
use Prim.Native.Nat.{◌+◌, ◌*◌}
use mathlib.Core.Path.{sym, ◌∙◌}
use native.Mathlib.Omega.{arith}
use Rattle.forms.proofs.Registers.{length-registers}
use Rattle.parts.proofs.Turns.{written_register}
use Rattle.parts.proofs.Written.{nothing, kept, more}
use Rattle.parts.proofs.put_registers.Goals as goal

pub loop-k-init : goal.loop-k-init
loop-k-init c = nothing _ _ (length-registers _ _ ∙ sym c.requires)

pub loop-k-preserved : goal.loop-k-preserved
loop-k-preserved c =
    let loop = c.loop-k in
    let loop_test = c.loop-k-test in
    more loop.invariant
    (8 * (loop.k + 1)) _ (omega arith) (omega arith)
    (c.put_number.ensures
    ∙ written_register _ _ _ _ loop_test.true (kept loop.invariant ∙ c.requires))
