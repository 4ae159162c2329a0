use mathlib.Core.Path.{sym, ◌∙◌}
use borrow.Author.Tests.{leb-true}
use Rattle.half.proofs.Normals.{normal_is}
use Rattle.half.proofs.Sums.{add_rounds}
use Rattle.half.proofs.sum.add.Goals as goal

pub returns : goal.returns
returns c =
    let x = c.in-Some.x in
    let y = c.in-Some-of.y in
    rw (← normal_is c.args.a c.of.ensures c.in-Some.is, ← normal_is c.args.b c.of-2.ensures c.in-Some-of.is)
    (add_rounds _ _ x.half y.half x.normal y.normal c.normal_sum-s.ensures
    (leb-true _ _ (sym c.is_large.ensures ∙ c.if-not-is_large.false)) c.round_large.ensures)
