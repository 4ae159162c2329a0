-- `replayer::differs` meets its contract: the step and the tests go by the parts of the item (Playing.antt).
-- Assumes nothing.
use mathlib.Core.Path.{ap}
use Rattle.machine.specs.State.{Stepped, lent_state}
use Rattle.replayer.proofs.Playing.{played, is_differs}
use Rattle.replayer.proofs.differs.Goals as goal

pub returns : goal.returns
returns c =
    let s = lent_state c.args.machine.now in
    let step = c.machine_step-answer.ensures.left in
    record {
      state_after = λ bytes I. ap (λ (x : Stepped). x.state) (played I s step);
      value = λ bytes I. is_differs I s step c.from.ensures c.from-2.ensures c.shown_bytes-shown.ensures c.are_other.ensures;
    }
