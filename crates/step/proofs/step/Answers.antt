-- `step::step` meets its contract: 1, or the step of a file that has its size.
use Rattle.std.proofs.Common.{rules, sym}
use Rattle.machine.specs.State.{State, state_of}
use Rattle.machine.proofs.Ends.{refuses_size}
use Rattle.step.proofs.Meaning.{by_parts}
use Rattle.step.proofs.step.Goals.{Start}
use Rattle.step.proofs.step.Goals as goal

-- the state as the function begins
abbrev state : Start → State
state c = state_of c.args.vectors.now c.args.masks.now c.args.general.now c.args.control.now c.args.pointer.now

pub returns-in_default : goal.returns-in_default
returns-in_default c =
    rw c.ended.ensures
    (sym (refuses_size c.args.memory.now (state (goal.at.returns-in_default c).Start) c.args.code.now c.in_default.ensures.cases))

pub returns : goal.returns
returns c =
    by_parts c.args.memory.now c.args.code.now c.machine_step.ensures.left (search rules)
    (search rules, search rules, search rules, search rules, search rules)
