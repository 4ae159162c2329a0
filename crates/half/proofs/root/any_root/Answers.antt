use Rattle.std.proofs.Common.{rules}
use Rattle.half.proofs.Cases.{radicand, finite_root}
use Rattle.half.proofs.root.any_root.Goals as goal

pub returns : goal.returns
returns c = λ u. search (rules, finite_root, radicand)
