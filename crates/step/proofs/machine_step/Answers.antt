-- `step::machine_step` meets its contract: each return is one of the ways in which the machine's step ends.
use Rattle.std.proofs.Common.{sym, refl, ◌∙◌}
use Rattle.evex.proofs.Bounds.{bounds}
use Rattle.machine.specs.State.{lent_state}
use Rattle.machine.proofs.Ends.{refuses_control, refuses_decoding}
use Rattle.step.proofs.Meaning.{executes}
use Rattle.step.proofs.machine_step.Goals as goal

pub returns-then-machine-ge65536 : goal.returns-then-machine-ge65536
returns-then-machine-ge65536 c =
    record {
      left =
          rw c.ended.ensures
          (sym
          (refuses_control c.args.memory.now (lent_state c.args.machine.now) c.args.code.now c.has_its_size.ensures
          c.if-machine-ge65536.true));
      same = (refl, refl, refl, refl, refl);
    }

pub returns-in_default : goal.returns-in_default
returns-in_default c =
    record {
      left =
          rw (c.ended-in_default.ensures, c.refusal_number.ensures, c.in_default.is)
          (sym
          (refuses_decoding c.args.memory.now (lent_state c.args.machine.now) c.args.code.now c.has_its_size.ensures
          c.if-machine-ge65536.false (sym c.decode-decoded.ensures ∙ c.in_default.is)));
      same = (refl, refl, refl, refl, refl);
    }

pub execute-requires : goal.execute-requires
execute-requires c = bounds c.args.code.now (sym c.decode-decoded.ensures ∙ c.in-Ok.is)

pub returns : goal.returns
returns c =
    record {
      left =
          rw
          (← executes c.args.memory.now (lent_state c.args.machine.now) c.args.code.now c.has_its_size.ensures
          c.if-machine-ge65536.false (sym c.decode-decoded.ensures ∙ c.in-Ok.is))
          c.execute.ensures.left;
      same = c.execute.ensures.same;
    }
