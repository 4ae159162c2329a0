-- Operands with a NaN, an infinity or a zero divisor: what each rule gives, by the tests that lead to it.
use Prim.Native.Nat.{ℕ, ◌/◌, ◌%◌}
use mathlib.Core.Bool.{Bool, true, false, not, ◌&&◌, ◌||◌, cond, beq}
use mathlib.Core.List.{[], ◌∷◌}
use mathlib.Core.Path.{◌≡◌, refl, sym, ap, ◌∙◌}
use native.Mathlib.Omega.{arith}
use lib.Bits.{or_zero_r, xor_zero_r, xor_shr, xor_mod}
use Rattle.half.specs.Format.{exponent_field, fraction_field, is_finite, is_infinite, is_nan, is_subnormal, is_zero, negative, with_sign}
use Rattle.half.specs.Format.{infinity, negated}
use Rattle.half.specs.Round.{DE, ZE, flag, outcome}
use Rattle.lists.specs.Lists.{some}
use Rattle.half.specs.Operations.{nan_result, invalid, unlike, half_add, half_subtract, half_multiply, half_divide, half_root}
use Rattle.half.specs.Operations.{half_multiply_add}
use Rattle.half.specs.declared.Mode.{Mode}
use Rattle.half.specs.declared.Outcome.{Outcome}
use Rattle.half.proofs.Compare.{or_left, or_right}
use Rattle.half.proofs.Units.{must_be_infinite}
use Rattle.half.proofs.Cases.{again, nan_again, nan_thrice}

-- ---- tests of operands of which the last comes again

pub two_nan : (a b : ℕ) {r t : Bool} → r ≡ some is_nan (a ∷ b ∷ b ∷ []) → r ≡ t → some is_nan (a ∷ b ∷ []) ≡ t
two_nan a b e f = rw (← again (is_nan b)) (sym e ∙ f)

pub one_nan : (a : ℕ) {r t : Bool} → r ≡ some is_nan (a ∷ a ∷ a ∷ []) → r ≡ t → some is_nan (a ∷ []) ≡ t
one_nan a e f = sym (again (is_nan a)) ∙ two_nan a a e f

pub two_denormals : (a b : ℕ) {de : ℕ} → de ≡ flag DE (some is_subnormal (a ∷ b ∷ b ∷ [])) → flag DE (some is_subnormal (a ∷ b ∷ [])) ≡ de
two_denormals a b e = rw (← again (is_subnormal b)) (sym e)

-- the other sign makes no NaN
pub exponent_negated : (h : ℕ) → exponent_field (negated h) ≡ exponent_field h
exponent_negated h = ap (λ (n : ℕ). n % 32) (xor_shr h 0x8000 10) ∙ xor_mod (h / 1024) 32 5 ∙ xor_zero_r (h / 1024 % 32)

pub fraction_negated : (h : ℕ) → fraction_field (negated h) ≡ fraction_field h
fraction_negated h = xor_mod h 0x8000 10 ∙ xor_zero_r (h % 1024)

nan_negated : (h : ℕ) → is_nan (negated h) ≡ is_nan h
nan_negated h = rw (exponent_negated h, fraction_negated h)

-- where one is not finite and none is a NaN, one is an infinity
pub some_infinite : (a b c : ℕ) → (is_finite a && (is_finite b && is_finite c)) ≡ false → some is_nan (a ∷ b ∷ c ∷ []) ≡ false
    → (is_infinite a || (is_infinite b || is_infinite c)) ≡ true
some_infinite a b c f n = go (is_finite a) (is_finite b) (is_finite c) refl refl refl f
  where
    na : is_nan a ≡ false
    na = or_left (is_nan a) (some is_nan (b ∷ c ∷ [])) n

    nb : is_nan b ≡ false
    nb = or_left (is_nan b) (some is_nan (c ∷ [])) (or_right (is_nan a) (some is_nan (b ∷ c ∷ [])) n)

    nc : is_nan c ≡ false
    nc = or_left (is_nan c) false (or_right (is_nan b) (some is_nan (c ∷ [])) (or_right (is_nan a) (some is_nan (b ∷ c ∷ [])) n))

    or_true : (p : Bool) → (p || true) ≡ true
    or_true true = refl
    or_true false = refl

    go : (x y z : Bool) → is_finite a ≡ x → is_finite b ≡ y → is_finite c ≡ z → (x && (y && z)) ≡ false
        → (is_infinite a || (is_infinite b || is_infinite c)) ≡ true
    go false y z p q r e = rw (must_be_infinite a p na)
    go true false z p q r e = rw (must_be_infinite b q nb) (or_true (is_infinite a))
    go true true false p q r e = rw (must_be_infinite c r nc, or_true (is_infinite b)) (or_true (is_infinite a))
    go true true true p q r e = cc

-- and where the others are not, it is the last
pub other_infinite : (a b c : ℕ) → (is_finite a && (is_finite b && is_finite c)) ≡ false → some is_nan (a ∷ b ∷ c ∷ []) ≡ false
    → (is_infinite a || is_infinite b) ≡ false → is_infinite c ≡ true
other_infinite a b c f n i =
    let e : (is_infinite a || (is_infinite b || is_infinite c)) ≡ is_infinite c =
    rw (or_left (is_infinite a) (is_infinite b) i, or_right (is_infinite a) (is_infinite b) i) in
    sym e ∙ some_infinite a b c f n

pub two_infinite : (a b : ℕ) → (is_finite a && (is_finite b && is_finite b)) ≡ false → some is_nan (a ∷ b ∷ b ∷ []) ≡ false
    → (is_infinite a || is_infinite b) ≡ true
two_infinite a b f n = sym (ap (λ (p : Bool). is_infinite a || p) (or_same (is_infinite b))) ∙ some_infinite a b b f n
  where
    or_same : (p : Bool) → (p || p) ≡ p
    or_same true = refl
    or_same false = refl

-- ---- sums
module _ (a b : ℕ) (mode : Mode) (unmasked_ue : Bool) where
  pub add_nan : some is_nan (a ∷ b ∷ []) ≡ true → {o : Outcome} → o ≡ nan_result (a ∷ b ∷ b ∷ []) → o ≡ half_add mode unmasked_ue a b
  unfolding half_add
  add_nan n h = rw n (h ∙ nan_again a b)

  -- a difference is a sum with the sign of b turned, but that of a NaN: it comes back as it is
  pub subtract_adds : {c : ℕ} {o : Outcome} → c ≡ cond (is_nan b) b (negated b) → o ≡ half_add mode unmasked_ue a c
      → o ≡ half_subtract mode unmasked_ue a b
  unfolding half_add half_subtract
  subtract_adds {c} {o} hc h = go (is_nan a) (is_nan b) refl refl hc
    where
      go : (p q : Bool) → is_nan a ≡ p → is_nan b ≡ q → c ≡ cond q b (negated b) → o ≡ half_subtract mode unmasked_ue a b
      go true true e f g = let k : c ≡ b = g in h ∙ rw (k, e, f)
      go false true e f g = let k : c ≡ b = g in h ∙ rw (k, e, f)
      go true false e f g = let k : c ≡ negated b = g in h ∙ rw (k, e, nan_negated b ∙ f, f)
      go false false e f g = let k : c ≡ negated b = g in h ∙ rw (k, e, f)

  module _ (n : some is_nan (a ∷ b ∷ []) ≡ false) where
    pub add_invalid : (is_infinite a && is_infinite b && unlike a b) ≡ true → {o : Outcome} → o ≡ invalid → o ≡ half_add mode unmasked_ue a b
    unfolding half_add
    add_invalid i h = rw (n, i) h

    module _ (v : (is_infinite a && is_infinite b && unlike a b) ≡ false) {de : ℕ} (d : de ≡ flag DE (some is_subnormal (a ∷ b ∷ b ∷ [])))
      where
        pub add_left : is_infinite a ≡ true → outcome a de ≡ half_add mode unmasked_ue a b
        unfolding half_add
        add_left i = rw (n, v, i, or_zero_r, two_denormals a b d)

        pub add_right : is_infinite a ≡ false → is_infinite b ≡ true → outcome b de ≡ half_add mode unmasked_ue a b
        unfolding half_add
        add_right i j = rw (n, v, i, j, or_zero_r, two_denormals a b d)

-- ---- products
module _ (a b : ℕ) (mode : Mode) (unmasked_ue : Bool) where
  pub multiply_nan : some is_nan (a ∷ b ∷ []) ≡ true → {o : Outcome} → o ≡ nan_result (a ∷ b ∷ b ∷ []) → o ≡ half_multiply mode unmasked_ue a b
  unfolding half_multiply
  multiply_nan n h = rw n (h ∙ nan_again a b)

  module _ (n : some is_nan (a ∷ b ∷ []) ≡ false) where
    pub multiply_invalid : (is_zero a && is_infinite b || is_infinite a && is_zero b) ≡ true → {o : Outcome} → o ≡ invalid
        → o ≡ half_multiply mode unmasked_ue a b
    unfolding half_multiply
    multiply_invalid i h = rw (n, i) h

    pub multiply_infinite : (is_zero a && is_infinite b || is_infinite a && is_zero b) ≡ false → (is_infinite a || is_infinite b) ≡ true
        → {de h : ℕ} → de ≡ flag DE (some is_subnormal (a ∷ b ∷ b ∷ [])) → h ≡ infinity (unlike a b) → outcome h de ≡ half_multiply mode
        unmasked_ue a b
    unfolding half_multiply
    multiply_infinite v i d h = rw (n, v, i, or_zero_r, two_denormals a b d, ← h)

-- ---- quotients
module _ (a b : ℕ) (mode : Mode) (unmasked_ue : Bool) where
  pub divide_nan : some is_nan (a ∷ b ∷ []) ≡ true → {o : Outcome} → o ≡ nan_result (a ∷ b ∷ b ∷ []) → o ≡ half_divide mode unmasked_ue a b
  unfolding half_divide
  divide_nan n h = rw n (h ∙ nan_again a b)

  module _ (n : some is_nan (a ∷ b ∷ []) ≡ false) where
    pub divide_invalid : (is_zero a && is_zero b || is_infinite a && is_infinite b) ≡ true → {o : Outcome} → o ≡ invalid
        → o ≡ half_divide mode unmasked_ue a b
    unfolding half_divide
    divide_invalid i h = rw (n, i) h

    module _ (v : (is_zero a && is_zero b || is_infinite a && is_infinite b) ≡ false) where
      pub divide_by_zero : (is_finite a && not (is_zero a) && is_zero b) ≡ true → {h : ℕ} → h ≡ infinity (unlike a b)
          → outcome h ZE ≡ half_divide mode unmasked_ue a b
      unfolding half_divide
      divide_by_zero z h = rw (n, v, z, ← h)

      module _ (z : (is_finite a && not (is_zero a) && is_zero b) ≡ false) {de h : ℕ} (d : de ≡ flag DE (some is_subnormal (a ∷ b ∷ b ∷ [])))
        where
          pub divide_infinite : is_infinite a ≡ true → h ≡ infinity (unlike a b) → outcome h de ≡ half_divide mode unmasked_ue a b
          unfolding half_divide
          divide_infinite i e = rw (n, v, z, i, or_zero_r, two_denormals a b d, ← e)

          pub divide_by_infinite : is_infinite a ≡ false → is_infinite b ≡ true → h ≡ with_sign (unlike a b) 0
              → outcome h de ≡ half_divide mode unmasked_ue a b
          unfolding half_divide
          divide_by_infinite i j e = rw (n, v, z, i, j, or_zero_r, two_denormals a b d, ← e)

-- a divisor left by the rules before
pub divisor_infinite : (a b : ℕ) → (is_finite a && (is_finite b && not (is_zero b))) ≡ false → some is_nan (a ∷ b ∷ []) ≡ false
    → (is_zero a && is_zero b || is_infinite a && is_infinite b) ≡ false → (is_finite a && not (is_zero a) && is_zero b) ≡ false → is_infinite a
    ≡ false → is_infinite b ≡ true
divisor_infinite a b f n v z i =
    go (is_finite a) (is_finite b) (is_zero a) (is_zero b) refl refl f (or_left (is_zero a && is_zero b) (is_infinite a && is_infinite b) v) z
  where
    go : (x y p q : Bool) → is_finite a ≡ x → is_finite b ≡ y → (x && (y && not q)) ≡ false → (p && q) ≡ false → (x && not p && q) ≡ false
        → is_infinite b ≡ true
    go false y p q e g k l m =
        absurd (let t : is_infinite a ≡ true = must_be_infinite a e (or_left (is_nan a) (is_nan b || false) n) in clash (sym t ∙ i))
      where
        clash : true ≡ false → ⊥
        clash w = let u : ◌≡◌ {A = ℕ} 0 1 = ap (λ (b : Bool). cond b 0 1) w in omega arith
    go true false p q e g k l m = must_be_infinite b g (or_left (is_nan b) false (or_right (is_nan a) (is_nan b || false) n))
    go true true p false e g k l m = cc
    go true true true true e g k l m = cc
    go true true false true e g k l m = cc

-- ---- roots
module _ (a : ℕ) (mode : Mode) (unmasked_ue : Bool) where
  pub root_nan : some is_nan (a ∷ []) ≡ true → {o : Outcome} → o ≡ nan_result (a ∷ a ∷ a ∷ []) → o ≡ half_root mode unmasked_ue a
  unfolding half_root
  root_nan n h = rw n (h ∙ nan_thrice a)

  module _ (n : some is_nan (a ∷ []) ≡ false) where
    pub root_invalid : (negative a && not (is_zero a)) ≡ true → {o : Outcome} → o ≡ invalid → o ≡ half_root mode unmasked_ue a
    unfolding half_root
    root_invalid i h = rw (n, i) h

    pub root_itself : (negative a && not (is_zero a)) ≡ false → (is_zero a || is_infinite a) ≡ true → {de : ℕ}
        → de ≡ flag DE (some is_subnormal (a ∷ a ∷ a ∷ [])) → outcome a de ≡ half_root mode unmasked_ue a
    unfolding half_root
    root_itself v i d = rw (n, v, i, or_zero_r, ← again (is_subnormal a), two_denormals a a d)

-- a radicand left by the rules before
pub radicand_itself : (a : ℕ) → (is_finite a && (not (negative a) && not (is_zero a))) ≡ false → some is_nan (a ∷ []) ≡ false
    → (negative a && not (is_zero a)) ≡ false → (is_zero a || is_infinite a) ≡ true
radicand_itself a f n v = go (is_finite a) (negative a) (is_zero a) refl f v
  where
    go : (x s z : Bool) → is_finite a ≡ x → (x && (not s && not z)) ≡ false → (s && not z) ≡ false → (z || is_infinite a) ≡ true
    go x s true e g w = refl
    go false s false e g w = must_be_infinite a e (or_left (is_nan a) false n)
    go true true false e g w = cc
    go true false false e g w = cc

-- ---- fused
module _ (a b c : ℕ) (mode : Mode) (unmasked_ue : Bool) where
  pub fused_nan : some is_nan (a ∷ b ∷ c ∷ []) ≡ true → {o : Outcome} → o ≡ nan_result (a ∷ b ∷ c ∷ [])
      → o ≡ half_multiply_add mode unmasked_ue a b c
  unfolding half_multiply_add
  fused_nan n h = rw n h

  module _ (n : some is_nan (a ∷ b ∷ c ∷ []) ≡ false) where
    pub fused_invalid : (is_zero a && is_infinite b || is_infinite a && is_zero b) ≡ true → {o : Outcome} → o ≡ invalid
        → o ≡ half_multiply_add mode unmasked_ue a b c
    unfolding half_multiply_add
    fused_invalid i h = rw (n, i) h

    module _ (v : (is_zero a && is_infinite b || is_infinite a && is_zero b) ≡ false) where
      pub fused_cancels : ((is_infinite a || is_infinite b) && is_infinite c && not (beq (unlike a b) (negative c))) ≡ true
          → {o : Outcome} → o ≡ invalid → o ≡ half_multiply_add mode unmasked_ue a b c
      unfolding half_multiply_add
      fused_cancels i h = rw (n, v, i) h

      module _ (w : ((is_infinite a || is_infinite b) && is_infinite c && not (beq (unlike a b) (negative c))) ≡ false) {de : ℕ}
          (d : de ≡ flag DE (some is_subnormal (a ∷ b ∷ c ∷ []))) where
        pub fused_infinite : (is_infinite a || is_infinite b) ≡ true → {h : ℕ} → h ≡ infinity (unlike a b)
            → outcome h de ≡ half_multiply_add mode unmasked_ue a b c
        unfolding half_multiply_add
        fused_infinite i h = rw (n, v, w, i, or_zero_r, ← d, ← h)

        pub fused_addend : (is_infinite a || is_infinite b) ≡ false → is_infinite c ≡ true
            → outcome c de ≡ half_multiply_add mode unmasked_ue a b c
        unfolding half_multiply_add
        fused_addend i j = rw (n, v, w, i, j, or_zero_r, ← d)
