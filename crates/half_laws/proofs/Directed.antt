-- The directed roundings of signed numbers. Down and up are one argument: up is down with all signs turned.
use Prim.Native.Nat.{ℕ, zero, suc, ◌^◌, ◌≤◌, ◌<◌}
use mathlib.Core.Bool.{Bool, true, false, not}
use mathlib.Core.Path.{◌≡◌, refl}
use native.Mathlib.Omega.{arith}
use lib.Dec.{le→leb}
use lib.Signed.{◌≤ℤ◌, le_z_yes}
use Rattle.half.specs.Format.{signed}
use Rattle.half.specs.Exact.{Magnitude, denominator, is_nearest, outward}
use Rattle.half.specs.Round.{delivered}
use Rattle.half.specs.declared.Mode.{Mode}
use Rattle.half_laws.specs.Values.{NotAbove}
use Rattle.half_laws.proofs.Sides.{most_le, le_most, least_ge, ge_least}
use Rattle.half_laws.proofs.Grid.{OnGrid, toward_zero, away_from_zero}

-- ---- signed numbers, by four cases

-- ± m ≤ ± n. A minus is at most a plus; a plus is at most a minus only where both are zero.
abbrev SignedLe : Bool → ℕ → Bool → ℕ → Type 0
SignedLe false m false n = m ≤ n
SignedLe true m true n = n ≤ m
SignedLe true m false n = Unit
SignedLe false m true n = (m ≡ 0) × (n ≡ 0)

pub as_numbers : (s : Bool) (m : ℕ) (t : Bool) (n : ℕ) → SignedLe s m t n → signed s m ≤ℤ signed t n
as_numbers false m false n h = le_z_yes (le→leb m n h)
as_numbers true zero true zero h = le_z_yes tt
as_numbers true zero true (suc n) h = absurd (omega arith)
as_numbers true (suc m) true zero h = le_z_yes tt
as_numbers true (suc m) true (suc n) h = le_z_yes (le→leb n m (omega arith))
as_numbers true zero false n h = le_z_yes (le→leb 0 n (omega arith))
as_numbers true (suc m) false n h = le_z_yes tt
as_numbers false m true n h = rw (h.0, h.1) (le_z_yes tt)

-- ---- what is delivered

zero_on_grid : OnGrid 0
zero_on_grid = (0, 0, omega arith, refl)

-- A mode that leads away from zero exactly if t: what is delivered, with the sign t, is the greatest number on the grid not above ± x.
pub greatest : (mode : Mode) (neg t : Bool) (x : Magnitude) → 0 < denominator x → is_nearest mode ≡ false → outward mode neg ≡ t
    → NotAbove t (delivered mode neg x) t x × ((s : Bool) (m : ℕ) → OnGrid m → NotAbove s m t x → SignedLe s m t (delivered mode neg x))
greatest mode neg false x hd e o = (ge_least x (delivered mode neg x) (2 ^ 24) (toward_zero 24 x hd mode neg e o).0, best)
  where
    best : (s : Bool) (m : ℕ) → OnGrid m → NotAbove s m false x → SignedLe s m false (delivered mode neg x)
    best false m g l = (toward_zero 24 x hd mode neg e o).1 m g (least_ge x m (2 ^ 24) l)
    best true m g l = tt
greatest mode neg true x hd e o = (le_most x (delivered mode neg x) (2 ^ 24) (away_from_zero 24 x hd mode neg e o).0, best)
  where
    best : (s : Bool) (m : ℕ) → OnGrid m → NotAbove s m true x → SignedLe s m true (delivered mode neg x)
    best true m g l = (away_from_zero 24 x hd mode neg e o).1 m g (most_le x m (2 ^ 24) l)
    best false m g l =
        let z : delivered mode neg x ≤ 0 = (away_from_zero 24 x hd mode neg e o).1 0 zero_on_grid (most_le x 0 (2 ^ 24) l.1) in
        (l.0, omega arith)

-- with both signs turned the order turns
pub turned : (s t : Bool) (m n : ℕ) → SignedLe (not s) m (not t) n → SignedLe t n s m
turned false false m n h = h
turned true true m n h = h
turned true false m n h = (h.1, h.0)
turned false true m n h = tt
