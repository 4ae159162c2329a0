-- `lanes::whole_vector` meets its contract: the loop fills the results lane by lane, and or-s the halves and the flags.
use mathlib.Core.Path.{refl}
use native.Mathlib.Omega.{arith}
use Rattle.lists.proofs.Filling.{none, more, full, or_none, or_more, or_full}
use Rattle.lanes.specs.Work.{results_by}
use Rattle.lanes.proofs.whole_vector.Goals as goal

pub loop-j-init : goal.loop-j-init
loop-j-init c = (none refl, or_none, or_none)

pub loop-j-preserved : goal.loop-j-preserved
loop-j-preserved c = (
  more c.loop-j.invariant.0 (omega arith) (rw c.picked-r.ensures),
  or_more c.loop-j.invariant.1 (rw c.picked-r.ensures),
  or_more c.loop-j.invariant.2 (rw c.picked-r.ensures),
)

pub returns : goal.returns
unfolding results_by
returns c =
    let inv = c.loop-j.invariant in
    let end = c.loop-j-test.false in
    λ i.
    record {
      halves = full inv.0 end i;
      joined = or_full inv.1 inv.0.within end i;
      flags = or_full inv.2 inv.0.within end i;
    }
