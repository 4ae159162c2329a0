-- `lanes::all_at_once` meets its contract: by whether all lanes are on.
use mathlib.Core.Path.{◌∙◌}
use Rattle.evex.specs.Bits.{is_set}
use Rattle.sources.specs.Work.{every_lane}
use Rattle.lanes.specs.Work.{results_by, picked_at}
use Rattle.lanes.proofs.AtOnce.{all_on, zeros_where_off}
use Rattle.lanes.proofs.all_at_once.Goals as goal

pub returns-then-on-eq4294967295 : goal.returns-then-on-eq4294967295
returns-then-on-eq4294967295 c = c.whole_vector.ensures ∙ all_on c.if-on-eq4294967295.true _

pub returns : goal.returns
returns c =
    let args = c.args in
    zeros_where_off (is_set args.on) args.p args.f args.x {r = c.whole_vector-all.result}
    {l = c.only_on-left.result}
    (c.whole_vector-all.ensures
    ∙ (λ i. results_by every_lane
    (picked_at args.p (c.only_on-first.ensures i).halves (c.only_on-second.ensures i).halves)))
    c.only_on-left.ensures
