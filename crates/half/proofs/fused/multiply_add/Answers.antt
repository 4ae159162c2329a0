use mathlib.Core.Path.{sym, ◌∙◌}
use borrow.Author.Tests.{leb-true}
use Rattle.half.proofs.Normals.{normal_is}
use Rattle.half.proofs.Sums.{fused_rounds}
use Rattle.half.proofs.fused.multiply_add.Goals as goal

pub returns : goal.returns
returns c =
    let n = c.in-Some-Some-Some in
    rw (← normal_is c.args.a c.of.ensures n.is-0, ← normal_is c.args.b c.of-2.ensures n.is-1, ← normal_is c.args.c c.of-3.ensures n.is-2)
    (fused_rounds _ _ n.x.half n.y.half n.z.half n.x.normal n.y.normal n.z.normal c.normal_fused-s.ensures
    (leb-true _ _ (sym c.is_large.ensures ∙ c.if-not-is_large.false)) c.round_large.ensures)
