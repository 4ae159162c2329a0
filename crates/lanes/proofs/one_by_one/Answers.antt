-- `lanes::one_by_one` meets its contract: the loop fills the results lane by lane, and or-s the halves and the flags; no lane is on
-- behind them.
use Prim.Native.Nat.{◌<◌}
use mathlib.Core.Path.{refl, ◌∙◌, sym}
use native.Mathlib.Nat.{le_trans}
use native.Mathlib.Omega.{arith}
use lib.ListN.{get_or-replicate}
use Rattle.evex.proofs.Bitwise.{bit_above}
use Rattle.lanes.specs.Work.{results_by}
use Rattle.lists.proofs.Filling.{none, more, same, all, or_none, or_more, or_same, or_all_lem}
use Rattle.lanes.proofs.one_by_one.Goals as goal

pub loop-j-init : goal.loop-j-init
loop-j-init c = (none refl, or_none, or_none)

pub loop-j-preserved-then-not-has : goal.loop-j-preserved-then-not-has
loop-j-preserved-then-not-has c =
    let below : c.loop-j.j < 32 = omega (arith, c.end_of-end.ensures.1) in
    let off = sym c.has.ensures ∙ c.if-not-has.true in (
      same c.loop-j.invariant.0 below (get_or-replicate 32 c.loop-j.j 0 0 below ∙ sym (rw off)),
      or_same c.loop-j.invariant.1 (rw off),
      or_same c.loop-j.invariant.2 (rw off),
    )

pub loop-j-preserved : goal.loop-j-preserved
loop-j-preserved c =
    let on = sym c.has.ensures ∙ c.if-not-has.false in (
      more c.loop-j.invariant.0 (omega (arith, c.end_of-end.ensures.1)) (rw (on, ← c.operate-r.ensures)),
      or_more c.loop-j.invariant.1 (rw (on, ← c.operate-r.ensures)),
      or_more c.loop-j.invariant.2 (rw (on, ← c.operate-r.ensures)),
    )

pub returns : goal.returns
unfolding results_by
returns c =
    let end = c.end_of-end.ensures in
    λ i.
    record {
      halves =
          all c.loop-j.invariant.0
          (λ k h l. get_or-replicate 32 k 0 0 l ∙ sym (rw (bit_above _ _ k end.0 (le_trans c.loop-j-test.false h)))) i;
      joined =
          or_all_lem c.loop-j.invariant.1 c.loop-j.invariant.0.within
          (λ k h. rw (bit_above _ _ k end.0 (le_trans c.loop-j-test.false h))) i;
      flags =
          or_all_lem c.loop-j.invariant.2 c.loop-j.invariant.0.within
          (λ k h. rw (bit_above _ _ k end.0 (le_trans c.loop-j-test.false h))) i;
    }
