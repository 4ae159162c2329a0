-- From which exact value on a rounding overflows: top is 65,504, the largest half, and the next number on the grid would be 65,536.
use Prim.Native.Nat.{ℕ, suc, ◌+◌, ◌*◌, ◌%◌, ◌^◌, ◌≤◌, ◌<◌}
use mathlib.Core.Bool.{Bool, true, false}
use mathlib.Core.Logic.{◌↔◌}
use mathlib.Core.Path.{◌≡◌, refl, sym, ap, ◌∙◌}
use native.Mathlib.Omega.{arith}
use native.Mathlib.Nat.{le_antisymm, le_trans, le_of_eq, lt_of_not-le, not-le_of_lt, le_of_suc-le-suc}
use borrow.Author.Tests.{leb-true, le-leb}
use Rattle.half.specs.Exact.{Magnitude, denominator, against, is_nearest, outward}
use Rattle.half.specs.Round.{delivered, overflows, encode}
use Rattle.half.specs.declared.Mode.{Mode}
use Rattle.half.proofs.Cuts.{left, right, against_scale, right_mono, scale_ge, ge_scale}
use Rattle.half.proofs.Bridge.{encode_is}
use Rattle.half.proofs.Units.{finite_le}
use Rattle.half_laws.specs.Values.{AtLeast, Above}
use Rattle.half_laws.proofs.Sides.{Le, Ge, right_back, least_ge, ge_least, above_gt, gt_above}
use Rattle.half_laws.proofs.Grid.{OnGrid, toward_zero, away_from_zero, none_nearer, tie_even}
use Rattle.half_laws.proofs.Fields.{signed_finite}
use Rattle.half_laws.proofs.Delivered.{fields_fit, delivered_is, overflows_is}

abbrev top : ℕ
top = 2047 * 2 ^ 29

top_on_grid : OnGrid top
top_on_grid = (2047, 29, omega arith, refl)

next_on_grid : OnGrid (2 ^ 40)
next_on_grid = (1, 40, omega arith, refl)

-- top's lowest fraction bit is 1
top_odd : encode top % 2 ≡ 1
top_odd = ap (λ (n : ℕ). n % 2) (encode_is 29 2047 (omega arith) (λ (h : 2047 < 1024). omega arith))

module _ (mode : Mode) (neg : Bool) (x : Magnitude) (hd : 0 < denominator x) where
  abbrev D : ℕ
  D = delivered mode neg x

  -- what is delivered below 2 ^ 40 is a half, so at most the largest
  to_top : D < 2 ^ 40 → D ≤ top
  to_top h =
      le_trans (le_of_eq (sym (delivered_is mode neg x hd h)))
      (finite_le (encode D) (signed_finite false (encode D) (fields_fit mode neg x hd h)))

  -- a bound on D, from what follows without it
  reaches : (D < 2 ^ 40 → ⊥) → 2 ^ 40 ≤ D
  reaches f = le_of_suc-le-suc (lt_of_not-le (λ (h : suc D ≤ 2 ^ 40). f h))

  pub inward_from : is_nearest mode ≡ false → outward mode neg ≡ false → (2 ^ 40 ≤ D) ↔ Ge x (65536 * 2 ^ 24) (2 ^ 24)
  inward_from e o =
      let t = toward_zero 24 x hd mode neg e o in (
        λ (h : 2 ^ 40 ≤ D). le_trans (right_mono x {a = 2 ^ 40} {c = D} h) t.0,
        λ (g : Ge x (2 ^ 40) (2 ^ 24)). t.1 (2 ^ 40) next_on_grid g,
      )

  pub outward_from : is_nearest mode ≡ false → outward mode neg ≡ true → (2 ^ 40 ≤ D) ↔ (right x (65504 * 2 ^ 24) < left x (2 ^ 24))
  outward_from e o =
      let t = away_from_zero 24 x hd mode neg e o in (
        λ (h : 2 ^ 40 ≤ D). lt_of_not-le (λ (k : Le x top (2 ^ 24)). let l : D ≤ top = t.1 top top_on_grid k in omega arith),
        λ (g : right x top < left x (2 ^ 24)).
            reaches (λ (h : D < 2 ^ 40). not-le_of_lt g (le_trans t.0 (right_mono x {a = D} {c = top} (to_top h)))),
      )

  pub nearest_from : is_nearest mode ≡ true → (2 ^ 40 ≤ D) ↔ Ge x (65520 * 2 ^ 24) (2 ^ 24)
  nearest_from e = (
    λ (h : 2 ^ 40 ≤ D).
        let b : Ge x (D + top) (2 ^ 25) = (none_nearer 24 x hd mode neg e top top_on_grid).1 (omega arith) in
        ge_scale x (65520 * 2 ^ 24) (2 ^ 24) 2 (omega arith) (le_trans (right_mono x {a = top + 2 ^ 40} {c = D + top} (omega arith)) b),
    λ (g : Ge x (65520 * 2 ^ 24) (2 ^ 24)). reaches (λ (h : D < 2 ^ 40). at_middle h (scale_ge x (65520 * 2 ^ 24) (2 ^ 24) 2 g)),
  )
    where
      -- x would lie at the middle between top and 2 ^ 40, and D would be top, which is odd
      at_middle : D < 2 ^ 40 → Ge x (top + 2 ^ 40) (2 ^ 25) → ⊥
      at_middle h g =
          let a : Le x (D + 2 ^ 40) (2 ^ 25) = (none_nearer 24 x hd mode neg e (2 ^ 40) next_on_grid).0 h in
          let b : top + 2 ^ 40 ≤ D + 2 ^ 40 = right_back x hd (top + 2 ^ 40) (D + 2 ^ 40) (le_trans g a) in
          let i : D ≡ top = omega (arith, to_top h) in
          let t : left x (2 ^ 25) ≡ right x (D + 2 ^ 40) = le_antisymm a (rw i g) in
          let v : encode D % 2 ≡ 0 = tie_even 24 x hd mode neg e (2 ^ 40) next_on_grid (λ (n : 2 ^ 40 ≡ D). omega arith) t in
          let w : encode D % 2 ≡ 1 = rw i top_odd in
          omega arith

  over : (overflows mode neg x ≡ true) ↔ (2 ^ 40 ≤ D)
  over = (
    λ (e : overflows mode neg x ≡ true). leb-true _ _ (sym (overflows_is mode neg x hd) ∙ e),
    λ (h : 2 ^ 40 ≤ D). overflows_is mode neg x hd ∙ le-leb _ _ h,
  )

  -- a whole number, in units of 2 ^ -24
  scaled : (a : ℕ) → against x (a * 2 ^ 24) (2 ^ 24) ≡ against x a 1
  scaled a = against_scale x a 1 (2 ^ 24) (omega arith)

  pub at_least : (a : ℕ) → (2 ^ 40 ≤ D) ↔ Ge x (a * 2 ^ 24) (2 ^ 24) → (overflows mode neg x ≡ true) ↔ AtLeast x a 1
  at_least a f = (
    λ (e : overflows mode neg x ≡ true). rw (scaled a) at (ge_least x (a * 2 ^ 24) (2 ^ 24) (f.0 (over.0 e))),
    λ (l : AtLeast x a 1). over.1 (f.1 (least_ge x (a * 2 ^ 24) (2 ^ 24) (rw (scaled a) l))),
  )

  pub above : (a : ℕ) → (2 ^ 40 ≤ D) ↔ (right x (a * 2 ^ 24) < left x (2 ^ 24)) → (overflows mode neg x ≡ true) ↔ Above x a 1
  above a f = (
    λ (e : overflows mode neg x ≡ true). rw (scaled a) at (gt_above x (a * 2 ^ 24) (2 ^ 24) (f.0 (over.0 e))),
    λ (l : Above x a 1). over.1 (f.1 (above_gt x (a * 2 ^ 24) (2 ^ 24) (rw (scaled a) l))),
  )
