-- The grid of numbers with 11 significant bits: a directed rounding gives the next number on it, rounding to nearest one than which
-- none is nearer. The unit is 2 ^ shift of the finest, 2 ^ -l; x holds `kept` whole ones, and the grid has nothing between kept and
-- kept + 1 units.
use Prim.Native.Nat.{ℕ, suc, ◌+◌, ◌-◌, ◌*◌, ◌%◌, ◌^◌, ◌≤◌, ◌<◌, Ordering}
use mathlib.Core.Bool.{Bool, true, false}
use mathlib.Core.Logic.{◌≢◌}
use mathlib.Core.Path.{◌≡◌, refl, sym, ap, ◌∙◌}
use native.Mathlib.Omega.{arith}
use native.Mathlib.Nat.{mul_assoc, mul_comm, mul-le-mul_right, lt_of_mul-lt-mul_right, le_trans, le_of_eq, le_of_lt, lt_of_lt_of_le}
use native.Mathlib.Nat.{lt_of_le_of_lt, lt_of_not-le, not-le_of_lt, le_of_suc-le-suc, lt_irrefl}
use lib.Dec.{leb, ltb}
use lib.Pow.{pow_pos, pow_mono, pow-add}
use lib.Ieee.{size, nearest}
use lib.Ieee.Digits.{size-lt, size_reaches}
use borrow.Author.Tests.{leb-true, leb-false, ltb-true, ltb-false}
use Rattle.half.specs.Format.{units, significand}
use Rattle.half.specs.Exact.{Magnitude, denominator, against, whole, is_nearest, outward, ceiling, round_to}
use Rattle.half.specs.Round.{significant, encode}
use Rattle.half.specs.declared.Mode.{Mode}
use Rattle.half.proofs.Compare.{cmp, Cmp}
use Rattle.half.proofs.Cuts.{left, right, against_is, right_mono, right_strict, whole_spec, whole_le, whole_ge, round_to_le, scale_ge}
use Rattle.half.proofs.Cuts.{scale_lt}
use Rattle.half.proofs.Bridge.{encode_is}
use Rattle.half.proofs.Units.{lift, significand_lt}
use Rattle.half_laws.proofs.Sides.{Le, Ge}

-- m has at most 11 significant bits, or is a power of two
abbrev pub OnGrid : ℕ → Type 0
OnGrid m = (j : ℕ) × (k : ℕ) × (j ≤ 2048) × (m ≡ j * 2 ^ k)

pub half_on_grid : (h : ℕ) → OnGrid (units h)
unfolding units
half_on_grid h = (significand h, lift h, omega (arith, significand_lt h), refl)

abbrev pub shift : ℕ → Magnitude → ℕ
shift l x = size (whole x 1 (2 ^ l)) - 11

abbrev kept : ℕ → Magnitude → ℕ
kept l x = whole x (2 ^ shift l x) (2 ^ l)

module _ (l : ℕ) (x : Magnitude) (hd : 0 < denominator x) where
  -- kept units, and one more
  abbrev Low : ℕ
  Low = kept l x * 2 ^ shift l x

  abbrev High : ℕ
  High = (kept l x + 1) * 2 ^ shift l x

  between : (right x Low ≤ left x (2 ^ l)) × (left x (2 ^ l) < right x High)
  between = whole_spec x (2 ^ shift l x) (2 ^ l) hd (pow_pos (shift l x))

  pub kept_lt : kept l x < 2048
  kept_lt =
      let w : ℕ = whole x 1 (2 ^ l) in
      let h : w < 2048 * 2 ^ shift l x = lt_of_lt_of_le (size-lt w)
      (le_trans (pow_mono {i = size w} {j = 11 + (size w - 11)} (omega arith)) (le_of_eq (pow-add 2 11 (size w - 11)))) in
      let k : kept l x ≤ 2047 = whole_le x (2 ^ shift l x) (2 ^ l) hd (pow_pos (shift l x)) 2047
      (lt_of_lt_of_le (whole_spec x 1 (2 ^ l) hd (omega arith)).1
      (right_mono x {a = (w + 1) * 1} {c = 2048 * 2 ^ shift l x} (omega arith))) in
      omega arith

  pub kept_ge : 11 ≤ size (whole x 1 (2 ^ l)) → 1024 ≤ kept l x
  kept_ge h =
      let w : ℕ = whole x 1 (2 ^ l) in
      let r : 1024 * 2 ^ shift l x ≤ w = le_trans (le_of_eq (sym (pow-add 2 10 (size w - 11))))
      (size_reaches w (10 + (size w - 11)) (omega arith)) in
      whole_ge x (2 ^ shift l x) (2 ^ l) hd (pow_pos (shift l x)) 1024
      (le_trans (right_mono x {a = 1024 * 2 ^ shift l x} {c = w * 1} (omega arith)) (whole_spec x 1 (2 ^ l) hd (omega arith)).0)

  -- the finest unit, where fewer than 11 bits are kept
  pub kept_small : kept l x < 1024 → shift l x ≡ 0
  kept_small h = go (ltb 0 (shift l x)) refl
    where
      go : (b : Bool) → ltb 0 (shift l x) ≡ b → shift l x ≡ 0
      go true k = absurd (not-le_of_lt h (kept_ge (let p : 0 < shift l x = ltb-true _ _ k in omega arith)))
      go false k = let z : shift l x ≤ 0 = ltb-false _ _ k in omega arith

  -- a number on the grid above Low is not below High
  gap : (m : ℕ) → OnGrid m → Low < m → High ≤ m
  gap m g h = go (leb (shift l x) g.1) refl
    where
      go : (b : Bool) → leb (shift l x) g.1 ≡ b → High ≤ m
      go true e =
          let s : ℕ = shift l x in
          let u : s ≤ g.1 = leb-true _ _ e in
          let p : 2 ^ g.1 ≡ 2 ^ (g.1 - s) * 2 ^ s =
          ap (λ (y : ℕ). 2 ^ y) (let y : g.1 ≡ g.1 - s + s = omega arith in y) ∙ pow-add 2 (g.1 - s) s in
          let f : m ≡ g.0 * 2 ^ (g.1 - s) * 2 ^ s = g.3 ∙ ap (λ (y : ℕ). g.0 * y) p ∙ sym (mul_assoc g.0 (2 ^ (g.1 - s)) (2 ^ s)) in
          let k : kept l x < g.0 * 2 ^ (g.1 - s) = lt_of_mul-lt-mul_right (2 ^ s) (lt_of_lt_of_le h (le_of_eq f)) in
          le_trans (mul-le-mul_right {m = kept l x + 1} {n = g.0 * 2 ^ (g.1 - s)} (2 ^ s) (omega arith)) (le_of_eq (sym f))
      go false e =
          let u : g.1 < shift l x = leb-false _ _ e in
          let a : m ≤ 2048 * 2 ^ g.1 = le_trans (le_of_eq g.3) (mul-le-mul_right (2 ^ g.1) g.2) in
          let b : 2 ^ suc g.1 ≤ 2 ^ shift l x = pow_mono u in
          let c : 1024 * 2 ^ shift l x ≤ Low = mul-le-mul_right (2 ^ shift l x) (kept_ge (omega arith)) in
          omega arith

  gap_below : (m : ℕ) → OnGrid m → m < High → m ≤ Low
  gap_below m g h = le_of_suc-le-suc (lt_of_not-le (λ (k : suc Low ≤ m). not-le_of_lt h (gap m g k)))

  module _ (mode : Mode) (neg : Bool) where
    abbrev D : ℕ
    D = significant l mode neg x

    pub delivered_on_grid : OnGrid D
    unfolding significant
    delivered_on_grid = (
      round_to mode neg x (2 ^ shift l x) (2 ^ l),
      shift l x,
      le_trans (round_to_le mode neg x (2 ^ shift l x) (2 ^ l))
          (omega (arith, kept_lt)),
      refl,
    )

    -- ---- the directed roundings

    inward_is : is_nearest mode ≡ false → outward mode neg ≡ false → D ≡ Low
    unfolding significant round_to
    inward_is m o = rw (m, o)

    outward_is : is_nearest mode ≡ false → outward mode neg ≡ true → D ≡ ceiling (kept l x) (against x Low (2 ^ l)) * 2 ^ shift l x
    unfolding significant round_to
    outward_is m o = rw (m, o)

    -- toward zero: the greatest number on the grid that is not above x
    pub toward_zero : is_nearest mode ≡ false → outward mode neg ≡ false → Ge x D (2 ^ l) × ((m : ℕ) → OnGrid m → Ge x m (2 ^ l) → m ≤ D)
    toward_zero e o =
        let i : D ≡ Low = inward_is e o in (
          rw i between.0,
          λ (m : ℕ) (g : OnGrid m) (h : Ge x m (2 ^ l)). rw i
              (gap_below m g (lt_of_not-le (λ (k : High ≤ m). not-le_of_lt between.1 (le_trans (right_mono x k) h)))),
        )

    -- away from zero: the least that is not below it
    pub away_from_zero : is_nearest mode ≡ false → outward mode neg ≡ true → Le x D (2 ^ l) × ((m : ℕ) → OnGrid m → Le x m (2 ^ l) → D ≤ m)
    away_from_zero e o = go (against x Low (2 ^ l)) (rw (against_is x Low (2 ^ l)) (cmp (left x (2 ^ l)) (right x Low))) (outward_is e o)
      where
        go : (c : Ordering) → Cmp c (left x (2 ^ l)) (right x Low) → D ≡ ceiling (kept l x) c * 2 ^ shift l x
            → Le x D (2 ^ l) × ((m : ℕ) → OnGrid m → Le x m (2 ^ l) → D ≤ m)
        go Ordering.lt c i = absurd (not-le_of_lt c between.0)
        go Ordering.eq c i = (
          rw i (le_of_eq c),
          λ (m : ℕ) (g : OnGrid m) (h : Le x m (2 ^ l)).
              rw i (le_of_suc-le-suc (lt_of_not-le (λ (k : suc m ≤ Low). not-le_of_lt (right_strict x hd {a = m} {c = Low} k)
              (le_trans (le_of_eq (sym c)) h)))),
        )
        go Ordering.gt c i =
            let j : suc (kept l x) * 2 ^ shift l x ≡ High = ap (λ (y : ℕ). y * 2 ^ shift l x) (omega arith) in (
              rw (i, j) (le_of_lt between.1),
              λ (m : ℕ) (g : OnGrid m) (h : Le x m (2 ^ l)). rw (i, j)
                  (gap m g (lt_of_not-le (λ (k : m ≤ Low). not-le_of_lt c (le_trans h (right_mono x k))))),
            )

    -- ---- nearest: half way between D and another number m of the grid lies (D + m) / 2

    nearest_is : is_nearest mode ≡ true → D ≡ nearest (kept l x) (against x ((2 * kept l x + 1) * 2 ^ shift l x) (2 * 2 ^ l)) * 2 ^ shift l x
    unfolding significant round_to
    nearest_is m = rw m

    -- the middle between Low and High, in half units; x lies between the two
    abbrev Mid : ℕ
    Mid = (2 * kept l x + 1) * 2 ^ shift l x

    low2 : right x (Low * 2) ≤ left x (2 * 2 ^ l)
    low2 = rw (mul_comm 2 (2 ^ l)) (scale_ge x Low (2 ^ l) 2 between.0)

    high2 : left x (2 * 2 ^ l) < right x (High * 2)
    high2 = rw (mul_comm 2 (2 ^ l)) (scale_lt x High (2 ^ l) 2 (omega arith) between.1)

    -- what nearest comes to
    data Near : Type 0 where
      down : left x (2 * 2 ^ l) < right x Mid → D ≡ Low → Near
      tied : left x (2 * 2 ^ l) ≡ right x Mid → D ≡ (kept l x + kept l x % 2) * 2 ^ shift l x → Low ≤ D → D ≤ High → Near
      up : right x Mid < left x (2 * 2 ^ l) → D ≡ High → Near

    near : is_nearest mode ≡ true → Near
    near e = go (against x Mid (2 * 2 ^ l)) (rw (against_is x Mid (2 * 2 ^ l)) (cmp (left x (2 * 2 ^ l)) (right x Mid))) (nearest_is e)
      where
        go : (c : Ordering) → Cmp c (left x (2 * 2 ^ l)) (right x Mid) → D ≡ nearest (kept l x) c * 2 ^ shift l x → Near
        go Ordering.lt c i = down c i
        go Ordering.eq c i =
            tied c i (le_trans (mul-le-mul_right {m = kept l x} {n = kept l x + kept l x % 2} (2 ^ shift l x) (omega arith))
            (le_of_eq (sym i))) (le_trans (le_of_eq i)
            (mul-le-mul_right {m = kept l x + kept l x % 2} {n = kept l x + 1} (2 ^ shift l x) (omega arith)))
        go Ordering.gt c i = up c (i ∙ ap (λ (y : ℕ). y * 2 ^ shift l x) (omega arith))

    -- a is below b; or at most b, and then D's lowest fraction bit is 0
    data Beside (a b : ℕ) : Type 0 where
      clear : a < b → Beside a b
      tie : a ≤ b → encode D % 2 ≡ 0 → Beside a b

    even_fields : D ≡ (kept l x + kept l x % 2) * 2 ^ shift l x → encode D % 2 ≡ 0
    even_fields i =
        let q : ℕ = kept l x + kept l x % 2 in
        let n : encode D ≡ shift l x * 1024 + q =
        ap encode i ∙ encode_is (shift l x) q (omega (arith, kept_lt)) (λ (h : q < 1024). kept_small (omega arith)) in
        omega arith

    beside : is_nearest mode ≡ true → (m : ℕ) → OnGrid m
        → (D < m → Beside (left x (2 * 2 ^ l)) (right x (D + m))) × (m < D → Beside (right x (D + m)) (left x (2 * 2 ^ l)))
    beside e m g = go (near e)
      where
        -- the middle lies between D and m
        to_mid : Low ≤ D → D < m → right x Mid ≤ right x (D + m)
        to_mid lo h = right_mono x {a = Mid} {c = D + m} (let k : High ≤ m = gap m g (lt_of_le_of_lt lo h) in omega arith)

        from_mid : D ≤ High → m < D → right x (D + m) ≤ right x Mid
        from_mid hi h = right_mono x {a = D + m} {c = Mid} (let k : m ≤ Low = gap_below m g (lt_of_lt_of_le h hi) in omega arith)

        go : Near → (D < m → Beside (left x (2 * 2 ^ l)) (right x (D + m))) × (m < D → Beside (right x (D + m)) (left x (2 * 2 ^ l)))
        go (down c i) = (
          λ (h : D < m). clear (lt_of_lt_of_le c (to_mid (le_of_eq (sym i)) h)),
          λ (h : m < D). clear (lt_of_lt_of_le (right_strict x hd {a = D + m} {c = Low * 2} (omega arith)) low2),
        )
        go (tied c i lo hi) = (
          λ (h : D < m). tie (le_trans (le_of_eq c) (to_mid lo h)) (even_fields i),
          λ (h : m < D). tie (le_trans (from_mid hi h) (le_of_eq (sym c))) (even_fields i),
        )
        go (up c i) = (
          λ (h : D < m). clear (lt_of_lt_of_le high2 (right_mono x {a = High * 2} {c = D + m} (omega arith))),
          λ (h : m < D). clear (lt_of_le_of_lt (from_mid (le_of_eq i) h) c),
        )

    besides : (a b : ℕ) → Beside a b → a ≤ b
    besides a b (clear h) = le_of_lt h
    besides a b (tie h e) = h

    ties : (a b : ℕ) → Beside a b → a ≡ b → encode D % 2 ≡ 0
    ties a b (clear h) e = absurd (lt_irrefl _ (lt_of_lt_of_le h (le_of_eq (sym e))))
    ties a b (tie h v) e = v

    -- no number on the grid is nearer: x is on D's side of the middle, or at it
    pub none_nearer : is_nearest mode ≡ true → (m : ℕ) → OnGrid m → (D < m → Le x (D + m) (2 * 2 ^ l)) × (m < D → Ge x (D + m) (2 * 2 ^ l))
    none_nearer e m g = let b = beside e m g in (λ (h : D < m). besides _ _ (b.0 h), λ (h : m < D). besides _ _ (b.1 h))

    -- at the middle between D and another, D's lowest fraction bit is 0
    pub tie_even : is_nearest mode ≡ true → (m : ℕ) → OnGrid m → m ≢ D → left x (2 * 2 ^ l) ≡ right x (D + m) → encode D % 2 ≡ 0
    tie_even e m g n q = go (leb m D) refl
      where
        go : (b : Bool) → leb m D ≡ b → encode D % 2 ≡ 0
        go true f = ties _ _ ((beside e m g).1 (let u : m ≤ D = leb-true _ _ f in omega arith)) (sym q)
        go false f = ties _ _ ((beside e m g).0 (leb-false _ _ f)) q
