use Rattle.std.proofs.Common.{rules}
use native.Mathlib.Omega.{arith}
use mathlib.Core.Path.{sym, ◌∙◌}
use Rattle.half.proofs.Normals.{normal_root}
use Rattle.half.proofs.Radicands.{normal_radicand_lt, normal_radicand, root_digits, root_rounds}
use Rattle.half.proofs.root.normal_root.Goals as goal

pub root_place-z-requires : goal.root_place-z-requires
root_place-z-requires c = search (rules, normal_radicand_lt)

pub packed-requires : goal.packed-requires
packed-requires c =
    let r = root_digits (normal_radicand c.args.a.half c.args.a.normal c.significand.ensures
    c.exponent-e.ensures.0 c.root_place-z.ensures) in (r.0, r.1, omega arith)

pub returns : goal.returns
returns c =
    λ u. root_rounds (normal_radicand c.args.a.half c.args.a.normal c.significand.ensures
    c.exponent-e.ensures.0 c.root_place-z.ensures) _ _ c.packed.ensures u
    ∙ sym (normal_root _ u c.args.a.half c.args.a.normal c.requires)
