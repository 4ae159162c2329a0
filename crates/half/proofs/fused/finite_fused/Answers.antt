use Rattle.std.proofs.Common.{rules}
use native.Mathlib.Omega.{arith}
use Rattle.half.proofs.Scales.{up_lt, up_units, down_units}
use Rattle.half.proofs.Sums.{coarse_sum, fine_sum}
use Rattle.half.proofs.fused.finite_fused.Goals as goal

pub finite_sum-requires : goal.finite_sum-requires
finite_sum-requires c =
    let p = c.scaled_product-p.ensures in
    omega (arith, up_lt _ _ p.small c.in-Above.k (rw c.in-Above.is at p.shifted), c.magnitude-n.ensures, c.requires)

pub returns-in-Above : goal.returns-in-Above
returns-in-Above c =
    let args = c.args in
    let p = c.scaled_product-p.ensures in
    coarse_sum args.mode args.unmasked_ue args.a args.b args.c c.unlike_signs-neg.ensures c.sign_of-sc.ensures c.magnitude-n.ensures _
    (up_units _ _ p.small c.in-Above.k (rw c.in-Above.is at p.shifted)) c.finite_sum.ensures

pub returns-in-Below : goal.returns-in-Below
returns-in-Below c = search (rules, fine_sum, down_units)
