-- `lanes::only_on` meets its contract: the loop fills the lanes, and or-s them.
use mathlib.Core.Path.{refl}
use native.Mathlib.Omega.{arith}
use Rattle.lists.proofs.Filling.{none, more, full, or_none, or_more, or_full}
use Rattle.lanes.proofs.only_on.Goals as goal

pub loop-j-init : goal.loop-j-init
loop-j-init c = (none refl, or_none)

pub loop-j-preserved : goal.loop-j-preserved
loop-j-preserved c = (
  more c.loop-j.invariant.0 (omega arith) (rw (c.either-half.ensures, c.has.ensures)),
  or_more c.loop-j.invariant.1 (rw (c.either-half.ensures, c.has.ensures)),
)

pub returns : goal.returns
returns c =
    let inv = c.loop-j.invariant in
    let end = c.loop-j-test.false in
    λ i. record { halves = full inv.0 end i; joined = or_full inv.1 inv.0.within end i }
