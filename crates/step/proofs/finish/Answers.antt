-- `step::finish` meets its contract: 8 leaves all but the flags, and 0 has the destination stored: `finished` by its two cases. Where
-- nothing stops it, no flag is left out.
use Rattle.std.proofs.Common.{sym, refl, ap, ◌∙◌}
use Rattle.machine.proofs.Flags.{all_added}
use Rattle.machine.specs.State.{stepped_of}
use Rattle.step.specs.Work.{finished}
use Rattle.lanes.specs.declared.control.Control.{Control}
use Rattle.step.proofs.finish.Goals as goal

pub returns-then-raises : goal.returns-then-raises
unfolding finished
returns-then-raises c =
    record {
      left =
          rw (← c.added.ensures, ← c.raises.ensures, c.if-raises.true, c.ended.ensures)
          (ap (λ (word : Control). stepped_of (record { number = 8; length = 0 }) c.args.machine.now.vectors.now
          c.args.machine.now.masks.now c.args.machine.now.general.now word.bits c.args.machine.now.pointer.now)
          c.recorded-flagged.ensures);
      same = (refl, refl, refl, refl, refl);
    }

pub returns : goal.returns
unfolding finished
returns c =
    let none = sym c.raises.ensures ∙ c.if-raises.false in
    record {
      left =
          rw (
            all_added _ _ _ none,
            none,
            c.recorded-flagged-2.ensures,
            c.store.ensures.0,
            c.store.ensures.1,
          );
      same = (refl, refl, refl, refl, refl);
    }
