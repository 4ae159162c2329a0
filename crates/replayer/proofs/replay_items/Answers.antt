-- `replayer::replay_items` meets its contract: `Going` is the loop's invariant, with a law for each way on; the measure is what is left of
-- the items.
-- Assumes nothing.
use mathlib.Core.Path.{sym, ◌∙◌}
use Rattle.replayer.proofs.Going.{ends, bad, other, goes}
use Rattle.replayer.proofs.replay_items.Goals as goal

pub returns-in_default : goal.returns-in_default
returns-in_default c = bad c.loop-machine.invariant c.is_empty.ensures c.loop-machine-test.true c.in_default.ensures

pub returns-then-differs : goal.returns-then-differs
returns-then-differs c =
    let item = c.in-Some.ensures in
    other c.loop-machine.invariant c.is_empty.ensures c.loop-machine-test.true item
    (sym (c.differs.ensures.value _ item) ∙ c.if-differs.true)

pub loop-machine-preserved : goal.loop-machine-preserved
loop-machine-preserved c =
    let item = c.in-Some.ensures in
    goes c.loop-machine.invariant c.is_empty.ensures c.loop-machine-test.true item
    (sym (c.differs.ensures.value _ item) ∙ c.if-differs.false) (c.differs.ensures.state_after _ item)

pub returns : goal.returns
returns c = ends c.loop-machine.invariant c.is_empty.ensures c.loop-machine-test.false
