-- How long an instruction can be, by its parts.
-- Assumes nothing.
use mathlib.Core.Bool.{◌||◌}
use Prim.Native.Nat.{◌≤◌}
use native.Mathlib.Nat.{add-le-add, le_trans, le-add_right}
use lib.Dec.{eqb, lit≤}
use Rattle.lists.proofs.Tests.{either}
use Rattle.evex.specs.List.{shape}
use Rattle.evex.specs.Fields.{mod_bits, has_sib, no_base, displacement_at, displacement_size, size}
use Rattle.evex.specs.Sizes.{shortest, longest}
use Rattle.evex.specs.declared.head.Head.{Head}
use Rattle.evex.specs.declared.list.Row.{Row}

module _ (h : Head) (row : Row) where
  at_most : displacement_at h ≤ 7
  unfolding displacement_at
  at_most = either (λ n. n ≤ 7) (has_sib h) (lit≤ tt) (lit≤ tt)

  bytes_most : displacement_size h ≤ 4
  unfolding displacement_size
  bytes_most =
      either (λ n. n ≤ 4) (eqb (mod_bits h) 1) (lit≤ tt) (either (λ n. n ≤ 4) (eqb (mod_bits h) 2 || no_base h) (lit≤ tt) (lit≤ tt))

  pub size_most : size h row ≤ longest
  unfolding size
  size_most = add-le-add (add-le-add at_most bytes_most) (either (λ n. n ≤ 1) (shape row).immediate (lit≤ tt) (lit≤ tt))

  pub size_least : shortest ≤ size h row
  unfolding size displacement_at
  size_least =
      le_trans (either (λ n. 6 ≤ n) (has_sib h) (lit≤ tt) (lit≤ tt)) (le_trans (le-add_right _ (displacement_size h)) (le-add_right _ _))
