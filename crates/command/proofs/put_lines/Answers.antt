-- `command::put_lines` meets its contract: `Going` is the loop's invariant, with a law for each way on; the measure is what is left of the
-- code.
-- Assumes nothing.
use native.Mathlib.Omega.{arith}
use Rattle.command.proofs.Going.{ends, halts, stop_fits, moved, goes}
use Rattle.command.proofs.put_lines.Goals as goal

pub put_stop_line-requires : goal.put_stop_line-requires
put_stop_line-requires c =
    stop_fits c.loop-offset.invariant c.machine_step-answer.ensures.left c.loop-offset-test.true c.put_step_line-at.ensures
    c.requires.0 c.put_step_line-at.auto.out c.requires.1

pub returns-then-answer-ne0 : goal.returns-then-answer-ne0
returns-then-answer-ne0 c =
    halts c.loop-offset.invariant c.machine_step-answer.ensures.left c.loop-offset-test.true c.put_step_line-at.ensures
    c.if-answer-ne0.true c.put_stop_line.ensures

pub loop-offset-smaller : goal.loop-offset-smaller
loop-offset-smaller c =
    let inside = c.loop-offset-test.true in
    omega (arith, moved c.loop-offset.invariant c.machine_step-answer.ensures.left inside c.if-answer-ne0.false, inside)

pub loop-offset-preserved : goal.loop-offset-preserved
loop-offset-preserved c =
    goes c.loop-offset.invariant c.machine_step-answer.ensures.left c.loop-offset-test.true c.put_step_line-at.ensures
    c.requires.0 c.put_step_line-at.auto.out c.if-answer-ne0.false

pub returns : goal.returns
returns c = ends c.loop-offset.invariant c.loop-offset-test.false c.put_stop_line-2.ensures
