-- Finite sums as the code works them out.
use Prim.Native.Nat.{ℕ, ◌+◌, ◌-◌, ◌*◌, ◌%◌, ◌^◌, ◌≤◌, ◌<◌, min}
use mathlib.Core.Bool.{Bool, true, false, cond, beq}
use mathlib.Core.List.{[], ◌∷◌}
use mathlib.Core.Path.{◌≡◌, refl, sym, ap, ◌∙◌}
use native.Mathlib.Omega.{arith}
use native.Mathlib.Nat.{zero-div, zero-mod, add-mul, mul_assoc, mul-le-mul, mod-eq_of_lt}
use lib.Bits.{bit_or}
use lib.Dec.{ltb, leb}
use lib.Pow.{pow_pos, pow_mono}
use borrow.Author.Tests.{lt-ltb, le-ltb, ltb-true, ltb-false, leb-true, leb-false}
use Rattle.half.specs.Format.{exponent_field, significand, is_subnormal, negative, with_sign, units}
use Rattle.half.specs.Exact.{ratio}
use Rattle.half.specs.Round.{DE, flag, outcome, rounded_half}
use Rattle.lists.specs.Lists.{some}
use Rattle.half.specs.Operations.{cancelled, with_denormals, unlike, exact_sum, half_add, half_multiply_add}
use Rattle.half.specs.Work.{place, is_normal, sum_magnitude, sum_sign, Summed}
use Rattle.half.specs.declared.Mode.{Mode}
use Rattle.half.specs.declared.Outcome.{Outcome}
use Rattle.half.specs.declared.normal.Sum.{Sum}
use Rattle.half.proofs.Cases.{again}
use Rattle.half.proofs.Places.{pow_join}
use Rattle.half.proofs.Normals.{normal_units, normal_add, normal_multiply_add, product_units}
use Rattle.half.proofs.Sticky.{sticky_shift, less_scale, ltb_scale, sum_scale}
use Rattle.half.proofs.Steps.{zero_rounds}

pub beq_eq : (p q : Bool) → beq p q ≡ true → p ≡ q
beq_eq true true e = refl
beq_eq true false e = cc
beq_eq false true e = cc
beq_eq false false e = refl

-- ---- the magnitude of a sum, where it is not 0, rounds as the sum does
sum_rounded : (mode : Mode) (unmasked_ue sx : Bool) (x : ℕ) (sy : Bool) (y d : ℕ) → 0 < sum_magnitude (beq sx sy) x y
    → rounded_half mode unmasked_ue (sum_sign sx x sy y) (ratio (sum_magnitude (beq sx sy) x y) d) ≡ exact_sum mode unmasked_ue sx x sy y d
unfolding exact_sum
sum_rounded mode unmasked_ue sx x sy y d n = go (beq sx sy) (ltb x y) refl refl n
  where
    go : (l b : Bool) → beq sx sy ≡ l → ltb x y ≡ b → 0 < cond l (x + y) (cond b (y - x) (x - y))
        → rounded_half mode unmasked_ue (cond b sy sx) (ratio (cond l (x + y) (cond b (y - x) (x - y))) d) ≡ exact_sum mode unmasked_ue sx x sy
        y d
    go true true p q n = rw (p, beq_eq sx sy p)
    go true false p q n = rw p
    go false true p q n = let l : x < y = ltb-true _ _ q in rw (p, le-ltb y x (let g : x ≤ y = omega arith in g), q)
    go false false p q n = rw (p, lt-ltb y x (let g : y < x = omega arith in g))

-- ---- ± x and ± y, in units of 2 ^ -(k + 26): m is the magnitude of the sum
module _ (mode : Mode) (unmasked_ue sx : Bool) (x : ℕ) (sy : Bool) (y k : ℕ) {m : ℕ} (hm : m ≡ sum_magnitude (beq sx sy) x y) where
  -- what t rounds to, if t is the place of n
  at : (n : ℕ) (s : Bool) {t : ℕ} {o : Outcome} → t ≡ place n (2 ^ k) → o ≡ rounded_half mode unmasked_ue s (ratio t (2 ^ 27))
      → o ≡ rounded_half mode unmasked_ue s (ratio n (2 ^ (k + 26)))
  at n s ht h = h ∙ rw ht (sym (sticky_shift mode unmasked_ue s n k))

  nothing : (n : ℕ) → n ≡ 0 → 0 ≡ place n (2 ^ k)
  unfolding place
  nothing n e = rw (e, zero-div (2 ^ k), zero-mod (2 ^ k)) refl

  pub no_sum : m ≡ 0 → {h : ℕ} → h ≡ cond (beq sx sy) (with_sign sx 0) (cancelled mode)
      → outcome h 0 ≡ exact_sum mode unmasked_ue sx x sy y (2 ^ (k + 26))
  unfolding exact_sum
  no_sum z {h} hh = go (beq sx sy) (ltb x y) refl refl hm hh
    where
      go : (l b : Bool) → beq sx sy ≡ l → ltb x y ≡ b → m ≡ cond l (x + y) (cond b (y - x) (x - y))
          → h ≡ cond l (with_sign sx 0) (cancelled mode) → outcome h 0 ≡ exact_sum mode unmasked_ue sx x sy y (2 ^ (k + 26))
      go true b p q em eh = rw (p, eh) (at (x + y) sx (nothing (x + y) (sym em ∙ z)) (zero_rounds mode unmasked_ue sx))
      go false true p q em eh = let l : x < y = ltb-true _ _ q in absurd (let f : y - x ≡ 0 = sym em ∙ z in omega arith)
      go false false p q em eh =
          let l : y ≤ x = ltb-false _ _ q in
          let g : x ≤ y = let f : x - y ≡ 0 = sym em ∙ z in omega arith in
          rw (p, q, le-ltb y x g, ← eh)

  pub summed : (m ≡ 0 → ⊥) → {t : ℕ} {neg : Bool} {o : Outcome} → neg ≡ sum_sign sx x sy y → t ≡ place m (2 ^ k)
      → o ≡ rounded_half mode unmasked_ue neg (ratio t (2 ^ 27)) → o ≡ exact_sum mode unmasked_ue sx x sy y (2 ^ (k + 26))
  summed n {t} {neg} hn ht h =
      at m neg ht h ∙ rw (hn, hm) (sum_rounded mode unmasked_ue sx x sy y (2 ^ (k + 26)) (let g : 0 < m = omega arith in rw (← hm) g))

-- ---- the DE of two operands, of which the code hands the last in again, beside what follows
pub beside : (a b : ℕ) {f : ℕ} {o r q : Outcome} → f ≡ flag DE (some is_subnormal (a ∷ b ∷ b ∷ []))
    → r ≡ outcome o.half (bit_or f o.flags) → o ≡ q → r ≡ with_denormals (a ∷ b ∷ []) q
beside a b hf hr ho = rw (← ho, ← again (is_subnormal b), ← hf) hr

-- ---- a + b in units of 2 ^ -27
pub sum_units : (mode : Mode) (unmasked_ue : Bool) (a b : ℕ) {x y : ℕ} {sx sy : Bool} {o : Outcome} → x ≡ units a → y ≡ units b
    → sx ≡ negative a → sy ≡ negative b
    → o ≡ exact_sum mode unmasked_ue sx (x * 8) sy (y * 8) (2 ^ 27) → o ≡ exact_sum mode unmasked_ue (negative a) (units a) (negative b)
    (units b) (2 ^ 24)
sum_units mode unmasked_ue a b {x} {y} {sx} {sy} hx hy hs ht h =
    rw (← hx, ← hy, ← hs, ← ht) (h ∙ sum_scale mode unmasked_ue sx x sy y (2 ^ 24) 8 (omega arith) (omega arith))

-- ---- a * b + c: in units of 2 ^ -27, or of 2 ^ -48
module _ (mode : Mode) (unmasked_ue : Bool) (a b c : ℕ) {neg sc : Bool} {n : ℕ} (hu : neg ≡ unlike a b) (hs : sc ≡ negative c)
    (hc : n ≡ units c) {o : Outcome} where
  pub coarse_sum : (x : ℕ) → x * 2 ^ 21 ≡ units a * units b → o ≡ exact_sum mode unmasked_ue neg x sc (n * 8) (2 ^ 27)
      → o ≡ exact_sum mode unmasked_ue (unlike a b) (units a * units b) (negative c) (units c * 2 ^ 24) (2 ^ 48)
  coarse_sum x hx h =
      let e : n * 8 * 2 ^ 21 ≡ n * 2 ^ 24 = omega arith in
      rw (← hu, ← hs, ← hc, ← hx, ← e) (h ∙ sym (sum_scale mode unmasked_ue neg x sc (n * 8) (2 ^ 27) (2 ^ 21) (omega arith) (omega arith)))

  pub fine_sum : {x : ℕ} → x ≡ units a * units b → o ≡ exact_sum mode unmasked_ue neg x sc (n * 2 ^ 24) (2 ^ 48)
      → o ≡ exact_sum mode unmasked_ue (unlike a b) (units a * units b) (negative c) (units c * 2 ^ 24) (2 ^ 48)
  fine_sum hx h = rw (← hu, ← hs, ← hc, ← hx) h

-- ---- a product, from its place
pub product_rounded : (mode : Mode) (unmasked_ue : Bool) (a b : ℕ) {neg : Bool} {t : ℕ} {o : Outcome} → neg ≡ unlike a b
    → t ≡ place (units a * units b) (2 ^ 22)
    → o ≡ rounded_half mode unmasked_ue neg (ratio t (2 ^ 27)) → o ≡ rounded_half mode unmasked_ue (unlike a b)
    (ratio (units a * units b) (2 ^ 48))
product_rounded mode unmasked_ue a b {neg} hu ht h = rw (← hu) (h ∙ sym (rw ht (sticky_shift mode unmasked_ue neg (units a * units b) 22)))

-- ---- sums of the short way, in units of 2 ^ -57
magnitude_scale : (like : Bool) (x y c : ℕ) → 0 < c → sum_magnitude like x y * c ≡ sum_magnitude like (x * c) (y * c)
magnitude_scale true x y c h = add-mul x y c
magnitude_scale false x y c h = rw (ltb_scale x y c h) (go (ltb x y))
  where
    go : (b : Bool) → cond b (y - x) (x - y) * c ≡ cond b (y * c - x * c) (x * c - y * c)
    go true = sym (less_scale y x c)
    go false = sym (less_scale x y c)

-- m is the magnitude of ± x and ± y added, at the exponent l
scaled_sum : {sx sy : Bool} (x y : ℕ) {l m X Y : ℕ} {neg : Bool} → l < 64 → x * 2 ^ l ≡ X → y * 2 ^ l ≡ Y
    → m ≡ sum_magnitude (beq sx sy) x y → neg ≡ sum_sign sx x sy y
    → Summed sx X sy Y (record { neg = neg; digits = m; exponent = l })
scaled_sum {sx} {sy} x y {l} h hx hy hm hn =
    record {
      room = h;
      magnitude = rw (hm, ← hx, ← hy) (magnitude_scale (beq sx sy) x y (2 ^ l) (pow_pos l));
      sign = rw (← hx, ← hy, ltb_scale x y (2 ^ l) (pow_pos l)) hn;
    }

-- two normal halves, x and y in units of 2 ^ -25
pub normal_sum : (a b : ℕ) {x y m : ℕ} {sx sy neg : Bool} → x ≡ units a * 2 → y ≡ units b * 2 → sx ≡ negative a → sy ≡ negative b
    → m ≡ sum_magnitude (beq sx sy) x y → neg ≡ sum_sign sx x sy y
    → Summed (negative a) (units a * 2 ^ 33) (negative b) (units b * 2 ^ 33) (record { neg = neg; digits = m; exponent = 32 })
normal_sum a b {x} {y} hx hy hs ht hm hn = rw (← hs, ← ht) (scaled_sum x y (omega arith) (omega arith) (omega arith) hm hn)

-- x * 2 ^ i and y * 2 ^ j at the lower exponent, l
module _ (x i y j : ℕ) {l : ℕ} (hl : l ≡ min i j) (hx : x < 2 ^ 22) (hy : y < 2 ^ 11) (lo : 9 ≤ i) (hi : i ≤ 67) (jlo : 33 ≤ j)
    (jhi : j ≤ 62) where
  fit : x * 2 ^ (i - l) + y * 2 ^ (j - l) < 2 ^ 64
  fit = go (leb i j) refl
    where
      go : (b : Bool) → leb i j ≡ b → x * 2 ^ (i - l) + y * 2 ^ (j - l) < 2 ^ 64
      go true e =
          let g : i ≤ j = leb-true _ _ e in
          let u : y * 2 ^ (j - l) ≤ 2047 * 2 ^ 53 =
          mul-le-mul {n₁ = y} {m₁ = 2 ^ (j - l)} {n₂ = 2047} {m₂ = 2 ^ 53} (omega arith) (pow_mono {i = j - l} {j = 53} (omega arith)) in
          rw (let z : i - l ≡ 0 = omega arith in z) (omega arith)
      go false e =
          let g : j < i = leb-false _ _ e in
          let u : x * 2 ^ (i - l) ≤ 2 ^ 22 * 2 ^ 34 =
          mul-le-mul {n₁ = x} {m₁ = 2 ^ (i - l)} {n₂ = 2 ^ 22} {m₂ = 2 ^ 34} (omega arith) (pow_mono {i = i - l} {j = 34} (omega arith)) in
          rw (let z : j - l ≡ 0 = omega arith in z) (omega arith)

  shl_x : x * 2 ^ (i - l) % 2 ^ 64 ≡ x * 2 ^ (i - l)
  shl_x = mod-eq_of_lt (omega (arith, fit))

  shl_y : y * 2 ^ (j - l) % 2 ^ 64 ≡ y * 2 ^ (j - l)
  shl_y = mod-eq_of_lt (omega (arith, fit))

  back : (n k : ℕ) → l ≤ k → n * 2 ^ (k - l) * 2 ^ l ≡ n * 2 ^ k
  back n k g = pow_join n (k - l) l (let f : k - l + l ≡ k = omega arith in f)

  pub shifted_fit : x * 2 ^ (i - l) % 2 ^ 64 + y * 2 ^ (j - l) % 2 ^ 64 < 2 ^ 64
  shifted_fit = rw (shl_x, shl_y) fit

  pub shifted_sum : {sx sy neg : Bool} {m : ℕ} → m ≡ sum_magnitude (beq sx sy) (x * 2 ^ (i - l) % 2 ^ 64) (y * 2 ^ (j - l) % 2 ^ 64)
      → neg ≡ sum_sign sx (x * 2 ^ (i - l) % 2 ^ 64) sy (y * 2 ^ (j - l) % 2 ^ 64)
      → Summed sx (x * 2 ^ i) sy (y * 2 ^ j) (record { neg = neg; digits = m; exponent = l })
  shifted_sum hm hn =
      scaled_sum (x * 2 ^ (i - l) % 2 ^ 64) (y * 2 ^ (j - l) % 2 ^ 64) (omega arith)
      (ap (λ (n : ℕ). n * 2 ^ l) shl_x ∙ back x i (omega arith))
      (ap (λ (n : ℕ). n * 2 ^ l) shl_y ∙ back y j (omega arith)) hm hn

-- a product and an addend that are normal
pub normal_fused : (a b c : ℕ) → is_normal a ≡ true → is_normal b ≡ true → is_normal c ≡ true → {x i j y k : ℕ} {sx sy : Bool} {s : Sum}
    → x ≡ significand a * significand b → i ≡ exponent_field a → j ≡ exponent_field b
    → y ≡ significand c → k ≡ exponent_field c → sx ≡ unlike a b → sy ≡ negative c → Summed sx (x * 2 ^ (i + j + 7)) sy (y * 2 ^ (k + 32)) s
    → Summed (unlike a b) (units a * units b * 2 ^ 9) (negative c) (units c * 2 ^ 33) s
normal_fused a b c na nb nc {y = y} {k = k} hx hi hj hy hk hs ht h =
    let e : y * 2 ^ (k + 32) ≡ units c * 2 ^ 33 =
    sym (pow_join y k 32 refl) ∙ ap (λ (n : ℕ). n * 2 ^ 32) (normal_units c nc hy hk) ∙ mul_assoc (units c) 2 (2 ^ 32) in
    rw (← hs, ← ht, ← product_units a b na nb hx hi hj, ← e) h

-- rounded, where it is large
large_sum : (mode : Mode) (unmasked_ue : Bool) {sx sy : Bool} {x y : ℕ} {s : Sum} {o : Outcome} → Summed sx x sy y s
    → 2 ^ 43 ≤ s.digits * 2 ^ s.exponent
    → ((u : Bool) → o ≡ rounded_half mode u s.neg (ratio (s.digits * 2 ^ s.exponent) (2 ^ 57))) → o ≡ exact_sum mode unmasked_ue sx x sy
    y (2 ^ 57)
large_sum mode unmasked_ue {sx} {sy} {x} {y} h n ho =
    ho unmasked_ue ∙ rw (h.magnitude, h.sign)
    (sum_rounded mode unmasked_ue sx x sy y (2 ^ 57)
    (let g : 2 ^ 43 ≤ sum_magnitude (beq sx sy) x y = rw h.magnitude at n in omega (arith, g)))

pub add_rounds : (mode : Mode) (unmasked_ue : Bool) (a b : ℕ) → is_normal a ≡ true → is_normal b ≡ true → {s : Sum} {o : Outcome}
    → Summed (negative a) (units a * 2 ^ 33) (negative b) (units b * 2 ^ 33) s → 2 ^ 43 ≤ s.digits * 2 ^ s.exponent
    → ((u : Bool) → o ≡ rounded_half mode u s.neg (ratio (s.digits * 2 ^ s.exponent) (2 ^ 57))) → o ≡ half_add mode unmasked_ue a b
add_rounds mode unmasked_ue a b na nb h n ho =
    large_sum mode unmasked_ue h n ho ∙ sum_scale mode unmasked_ue (negative a) (units a) (negative b) (units b) (2 ^ 24) (2 ^ 33)
    (omega arith) (omega arith) ∙ sym (normal_add mode unmasked_ue a b na nb)

pub fused_rounds : (mode : Mode) (unmasked_ue : Bool) (a b c : ℕ) → is_normal a ≡ true → is_normal b ≡ true → is_normal c ≡ true
    → {s : Sum} {o : Outcome} → Summed (unlike a b) (units a * units b * 2 ^ 9) (negative c) (units c * 2 ^ 33) s
    → 2 ^ 43 ≤ s.digits * 2 ^ s.exponent → ((u : Bool) → o ≡ rounded_half mode u s.neg (ratio (s.digits * 2 ^ s.exponent) (2 ^ 57)))
    → o ≡ half_multiply_add mode unmasked_ue a b c
fused_rounds mode unmasked_ue a b c na nb nc h n ho =
    large_sum mode unmasked_ue h n ho
    ∙ ap (λ (v : ℕ). exact_sum mode unmasked_ue (unlike a b) (units a * units b * 2 ^ 9) (negative c) v (2 ^ 57))
    (let u : units c * 2 ^ 33 ≡ units c * 2 ^ 24 * 2 ^ 9 = omega arith in u)
    ∙ sum_scale mode unmasked_ue (unlike a b) (units a * units b) (negative c) (units c * 2 ^ 24) (2 ^ 48) (2 ^ 9) (omega arith)
    (omega arith)
    ∙ sym (normal_multiply_add mode unmasked_ue a b na nb c nc)
