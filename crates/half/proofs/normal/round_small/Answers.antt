use Rattle.std.proofs.Common.{rules}
use Rattle.half.proofs.Digits.{small_rounds}
use Rattle.half.proofs.normal.round_small.Goals as goal

pub returns : goal.returns
returns c = search (rules, small_rounds)
