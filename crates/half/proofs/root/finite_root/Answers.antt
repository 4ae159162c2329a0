use Rattle.std.proofs.Common.{rules}
use native.Mathlib.Omega.{arith}
use Rattle.half.proofs.Units.{units_pos}
use Rattle.half.proofs.Radicands.{exponent_le, radicand_lt, finite_radicand, root_digits, root_rounds}
use Rattle.half.proofs.root.finite_root.Goals as goal

pub half_exponent-j-requires : goal.half_exponent-j-requires
half_exponent-j-requires c = rw c.magnitude-x.ensures (units_pos c.args.a c.requires.1)

pub overflow_mul-j : goal.overflow_mul-j
overflow_mul-j c = grind (arith, exponent_le)

pub overflow_shr-x : goal.overflow_shr-x
overflow_shr-x c = grind (arith, exponent_le)

pub root_place-z-requires : goal.root_place-z-requires
root_place-z-requires c = search (rules, radicand_lt)

pub overflow_add-j : goal.overflow_add-j
overflow_add-j c = grind (arith, exponent_le)

pub packed-requires : goal.packed-requires
packed-requires c =
    let r = root_digits (finite_radicand c.args.a c.magnitude-x.result c.half_exponent-j.result
    c.magnitude-x.ensures c.requires.0 c.requires.1 c.half_exponent-j.ensures c.root_place-z.ensures)
    in (
      r.0,
      r.1,
      omega (
        arith,
        exponent_le c.args.a c.magnitude-x.result c.half_exponent-j.result
            c.magnitude-x.ensures c.requires.0 c.requires.1 c.half_exponent-j.ensures,
      ),
    )

pub returns : goal.returns
returns c =
    root_rounds (finite_radicand c.args.a c.magnitude-x.result c.half_exponent-j.result
    c.magnitude-x.ensures c.requires.0 c.requires.1 c.half_exponent-j.ensures
    c.root_place-z.ensures) _ _ c.packed.ensures
