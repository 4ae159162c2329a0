use Rattle.std.proofs.Common.{rules}
use Rattle.half.proofs.Sticky.{far_too_large, placed_ratio}
use Rattle.half.proofs.quotient.finite_quotient.Goals as goal

pub returns-then-y-x : goal.returns-then-y-x
returns-then-y-x c = search (rules, far_too_large)

pub returns : goal.returns
returns c = placed_ratio _ _ _ c.args.x c.args.y c.requires.1 c.quotient_place.ensures c.round.ensures
