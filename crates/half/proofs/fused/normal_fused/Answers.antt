use Rattle.std.proofs.Common.{rules}
use Rattle.half.proofs.Sums.{normal_fused}
use Rattle.half.proofs.fused.normal_fused.Goals as goal

pub returns : goal.returns
returns c = search (rules, normal_fused)
