-- `step::execute` meets its contract: 7 by the addresses, and else what the lanes give: see proofs/Meaning.antt.
use Rattle.std.proofs.Common.{refl}
use Rattle.evex.specs.Bits.{is_set}
use Rattle.machine.specs.State.{lent_state}
use Rattle.step.proofs.Meaning.{refuses, finishes}
use Rattle.step.proofs.execute.Goals as goal

pub returns-then-is_outside : goal.returns-then-is_outside
returns-then-is_outside c =
    record {
      left =
          rw c.ended.ensures
          (refuses c.args.memory.now (lent_state c.args.machine.now) c.args.i
          (is_set c.lanes_on-on.result) c.lanes_on-on.ensures
          _ refl
          c.locate-second.result c.locate-second.ensures.0
          (rw (← c.is_outside.ensures) c.if-is_outside.true));
      same = (refl, refl, refl, refl, refl);
    }

pub returns : goal.returns
returns c =
    record {
      left =
          finishes c.args.memory.now (lent_state c.args.machine.now) c.args.i
          (is_set c.lanes_on-on.result) c.lanes_on-on.ensures
          _ refl
          c.locate-second.result c.locate-second.ensures.0
          (rw (← c.is_outside.ensures) c.if-is_outside.false)
          c.all_lanes-results.result
          (rw (
            c.environment-environment.ensures,
            c.destination_halves-d.ensures,
            c.first_halves-f.ensures,
            c.second_halves-x.ensures,
          )
          at c.all_lanes-results.ensures)
          c.requires
          c.finish.ensures.left;
      same = c.finish.ensures.same;
    }
