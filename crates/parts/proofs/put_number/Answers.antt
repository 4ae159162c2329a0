-- `parts::put_number` meets its contract: after k turns the first k bytes are those of the number.
use mathlib.Core.Path.{sym, ◌∙◌}
use native.Mathlib.Omega.{arith}
use Rattle.forms.proofs.Numbers.{length-big, get_or-big}
use Rattle.parts.proofs.Written.{nothing, stored}
use Rattle.parts.proofs.put_number.Goals as goal

pub loop-k-init : goal.loop-k-init
loop-k-init c = nothing _ _ (length-big _ _)

pub loop-k-preserved : goal.loop-k-preserved
loop-k-preserved c = stored c.loop-k.invariant 0 (omega arith) (c.byte_of.ensures ∙ sym (get_or-big _ _ _ c.loop-k-test.true))
