-- Each law of specs/Laws.antt and its proof, in the order of that file.
use Prim.Native.Nat.{ℕ, ◌+◌, ◌*◌, ◌^◌, ◌<◌, Ordering}
use mathlib.Core.Bool.{Bool, true, false, not, ◌&&◌, ◌||◌, cond}
use mathlib.Core.List.{[], ◌∷◌}
use mathlib.Core.Logic.{◌≢◌, ◌↔◌}
use mathlib.Core.Path.{◌≡◌, refl, sym, ap, ◌∙◌}
use native.Mathlib.Omega.{arith}
use native.Mathlib.Nat.{lt_of_le_of_lt, le_of_eq}
use lib.Bits.{bit_or}
use lib.Dec.{compare_is_eq, eqb}
use borrow.Author.Tests.{lt-leb, le-leb, leb-true}
use Rattle.lists.specs.Lists.{some}
use Rattle.half.specs.Format.{is_finite, negative, with_sign, units}
use Rattle.half.specs.Exact.{Magnitude, denominator, against, whole, is_nearest}
use Rattle.half.specs.Round as round
use Rattle.half.specs.Round.{OE, UE, PE, flag, overflows, tiny, encode}
use Rattle.half.specs.declared.Mode.{Mode}
use Rattle.half.specs.declared.Mode.TheVariants.{Nearest, Down, Up, TowardZero}
use Rattle.half.specs.declared.Outcome.{Outcome}
use Rattle.half.proofs.Cuts.{whole_spec}
use Rattle.half.proofs.Bridge.{right_zero}
use Rattle.half.proofs.Units.{finite_lt}
use Rattle.half.proofs.Encoding.{encode-units}
use Rattle.half_laws.specs.Values.{AtLeast, Equals, HalfNotAbove, HalfNotBelow}
use Rattle.half_laws.specs.Laws.{half_of, after_overflow, NearestTo}
use Rattle.half_laws.specs.Laws.{WholeUnitsLaw, DeliveredHalfLaw, NearestLaw, DownLaw, UpLaw, TowardZeroLaw, InexactLaw}
use Rattle.half_laws.specs.Laws.{OverflowFlagLaw, OverflowLaw, OverflowGridLaw, TooLargeLaw, UnderflowFlagLaw, TooSmallLaw, FlagsLaw}
use Rattle.half_laws.specs.Laws.{FinerLaw, ElevenBitsLaw, ExactLaw, OrderLaw, HalfOrderLaw}
use Rattle.half_laws.proofs.Sides.{least_ge, ge_least, le_most, lt_below, equals_eq, above_gt}
use Rattle.half_laws.proofs.Grid as grid
use Rattle.half_laws.proofs.Grid.{half_on_grid, none_nearer, tie_even}
use Rattle.half_laws.proofs.Fields.{signed_even, signed_back}
use Rattle.half_laws.proofs.Delivered as given
use Rattle.half_laws.proofs.Order as ordered
use Rattle.half_laws.proofs.Exactness as exactness
use Rattle.half_laws.proofs.Overflow as over
use Rattle.half_laws.proofs.Underflow as under
use Rattle.half_laws.proofs.Directed as directed

-- ---- 0

pub whole_units : WholeUnitsLaw
whole_units x hd a b ha =
    let s = whole_spec x a b hd ha in
    (ge_least x (whole x a b * a) b s.0, lt_below x ((whole x a b + 1) * a) b s.1)

-- ---- 1

pub delivered_half : DeliveredHalfLaw
delivered_half mode unmasked_ue neg x hd fits = given.stands mode neg x hd fits unmasked_ue

-- the sign and the number that the laws below are about
module _ (mode : Mode) (unmasked_ue neg : Bool) (x : Magnitude) (hd : 0 < denominator x) (fits : overflows mode neg x ≡ false) where
  sign : negative (half_of mode unmasked_ue neg x) ≡ neg
  sign = (delivered_half mode unmasked_ue neg x hd fits).sign

  number : units (half_of mode unmasked_ue neg x) ≡ round.delivered mode neg x
  number = (delivered_half mode unmasked_ue neg x hd fits).number

-- ---- 2

nearest_in : (mode : Mode) → is_nearest mode ≡ true → (unmasked_ue neg : Bool) (x : Magnitude) → 0 < denominator x
    → overflows mode neg x ≡ false → NearestTo x (half_of mode unmasked_ue neg x)
nearest_in mode i unmasked_ue neg x hd fits =
    let D : ℕ = round.delivered mode neg x in
    let n : units (half_of mode unmasked_ue neg x) ≡ D = number mode unmasked_ue neg x hd fits in
    record {
      below = λ (h : ℕ) (f : is_finite h ≡ true).
          rw n (λ (l : D < units h). le_most x (D + units h) (2 ^ 25) ((none_nearer 24 x hd mode neg i (units h) (half_on_grid h)).0 l));
      above = λ (h : ℕ) (f : is_finite h ≡ true).
          rw n (λ (l : units h < D). ge_least x (D + units h) (2 ^ 25) ((none_nearer 24 x hd mode neg i (units h) (half_on_grid h)).1 l));
      even = λ (h : ℕ) (f : is_finite h ≡ true). rw n (λ (d : units h ≢ D) (e : Equals x (D + units h) (2 ^ 25)).
          rw (given.half_is mode neg x hd fits unmasked_ue)
          (signed_even neg (encode D) (tie_even 24 x hd mode neg i (units h) (half_on_grid h) d (equals_eq x (D + units h) (2 ^ 25) e))));
    }

pub nearest : NearestLaw
nearest = nearest_in _ refl

-- ---- 3

pub down : DownLaw
down unmasked_ue neg x hd fits =
    let g = directed.greatest Down neg neg x hd refl refl in
    let s = sign Down unmasked_ue neg x hd fits in
    let n = number Down unmasked_ue neg x hd fits in
    record {
      fits = rw (s, n) g.0;
      best = λ (h : ℕ) (f : is_finite h ≡ true) (l : HalfNotAbove h neg x).
          rw (s, n) (directed.as_numbers (negative h) (units h) neg _ (g.1 (negative h) (units h) (half_on_grid h) l));
    }

pub up : UpLaw
up unmasked_ue neg x hd fits =
    let g = directed.greatest Up neg (not neg) x hd refl refl in
    let s = sign Up unmasked_ue neg x hd fits in
    let n = number Up unmasked_ue neg x hd fits in
    record {
      fits = rw (s, n) g.0;
      best = λ (h : ℕ) (f : is_finite h ≡ true) (l : HalfNotBelow h neg x).
          rw (s, n)
          (directed.as_numbers neg _ (negative h) (units h)
          (directed.turned (negative h) neg (units h) (round.delivered Up neg x) (g.1 (not (negative h)) (units h) (half_on_grid h) l)));
    }

pub toward_zero : TowardZeroLaw
toward_zero unmasked_ue neg x hd fits =
    let t = grid.toward_zero 24 x hd TowardZero neg refl refl in
    let n : units (half_of TowardZero unmasked_ue neg x) ≡ round.delivered TowardZero neg x = number TowardZero unmasked_ue neg x hd fits in
    record {
      fits = rw n (ge_least x (round.delivered TowardZero neg x) (2 ^ 24) t.0);
      best = λ (h : ℕ) (f : is_finite h ≡ true) (l : AtLeast x (units h) (2 ^ 24)).
          rw n (t.1 (units h) (half_on_grid h) (least_ge x (units h) (2 ^ 24) l));
    }

-- ---- 4

differs : (o : Ordering) → (not (compare_is_eq o) ≡ true) ↔ (o ≢ Ordering.eq)
differs o = (λ (e : not (compare_is_eq o) ≡ true) (q : o ≡ Ordering.eq). clash (rw q at e), other o)
  where
    clash : false ≡ true → ⊥
    clash e = let z : ◌≡◌ {A = ℕ} 0 1 = cc in omega arith

    other : (o : Ordering) → o ≢ Ordering.eq → not (compare_is_eq o) ≡ true
    other Ordering.lt n = refl
    other Ordering.eq n = absurd (n refl)
    other Ordering.gt n = refl

pub inexact : InexactLaw
inexact mode unmasked_ue neg x hd fits =
    rw (given.inexact_flag mode neg x hd fits unmasked_ue, number mode unmasked_ue neg x hd fits)
    (differs (against x (round.delivered mode neg x) (2 ^ 24)))

-- ---- 5

pub overflow_flag : OverflowFlagLaw
overflow_flag mode unmasked_ue neg x = rw (given.overflow_flag mode unmasked_ue neg x) (
  leb-true (65536 * 2 ^ round.fine x) (round.unlimited mode neg x),
  le-leb (65536 * 2 ^ round.fine x) (round.unlimited mode neg x),
)

pub overflow : OverflowLaw
overflow mode unmasked_ue neg x e = (
  given.over_half mode unmasked_ue neg x e ∙ after mode neg,
  ap (λ (o : Outcome). o.flags) (given.over_is mode unmasked_ue neg x e),
)
  where
    after : (mode : Mode) (neg : Bool) → with_sign neg (round.overflow_fields mode neg) ≡ after_overflow mode neg
    after Nearest false = refl
    after Nearest true = refl
    after Down false = refl
    after Down true = refl
    after Up false = refl
    after Up true = refl
    after TowardZero false = refl
    after TowardZero true = refl

pub overflow_grid : OverflowGridLaw
overflow_grid = given.overflows_is

pub too_large : TooLargeLaw
too_large Nearest neg x hd = over.at_least Nearest neg x hd 65520 (over.nearest_from Nearest neg x hd refl)
too_large Down false x hd = over.at_least Down false x hd 65536 (over.inward_from Down false x hd refl refl)
too_large Down true x hd = over.above Down true x hd 65504 (over.outward_from Down true x hd refl refl)
too_large Up false x hd = over.above Up false x hd 65504 (over.outward_from Up false x hd refl refl)
too_large Up true x hd = over.at_least Up true x hd 65536 (over.inward_from Up true x hd refl refl)
too_large TowardZero neg x hd = over.at_least TowardZero neg x hd 65536 (over.inward_from TowardZero neg x hd refl refl)

-- ---- 6

pub underflow_flag : UnderflowFlagLaw
underflow_flag = given.underflow_flag

pub too_small : TooSmallLaw
too_small Nearest neg x hd = under.small x hd Nearest neg 2 refl (under.below x hd 4095 4095 (2 ^ 26) 1 refl refl (omega arith))
too_small Down false x hd = under.small x hd Down false 0 refl (under.below x hd 4096 1 (2 ^ 14) (2 ^ 12) refl refl (omega arith))
too_small Down true x hd = under.small x hd Down true 3 refl (under.at_most x hd 4094 2047 (2 ^ 25) 2 refl refl (omega arith))
too_small Up false x hd = under.small x hd Up false 3 refl (under.at_most x hd 4094 2047 (2 ^ 25) 2 refl refl (omega arith))
too_small Up true x hd = under.small x hd Up true 0 refl (under.below x hd 4096 1 (2 ^ 14) (2 ^ 12) refl refl (omega arith))
too_small TowardZero neg x hd = under.small x hd TowardZero neg 0 refl (under.below x hd 4096 1 (2 ^ 14) (2 ^ 12) refl refl (omega arith))

-- ---- 7

pub flags : FlagsLaw
flags mode unmasked_ue neg x =
    rw (given.flags_are mode unmasked_ue neg x)
    (go (overflows mode neg x) (round.inexact mode neg x) (tiny mode neg x && (unmasked_ue || round.inexact mode neg x)))
  where
    go : (o i u : Bool)
        → some (eqb (cond o (bit_or OE PE) (bit_or (flag PE i) (flag UE u)))) (0 ∷ UE ∷ PE ∷ bit_or UE PE ∷ bit_or OE PE ∷ []) ≡ true
    go true i u = refl
    go false true true = refl
    go false true false = refl
    go false false true = refl
    go false false false = refl

-- ---- 8

pub finer : FinerLaw
finer = exactness.finer

pub eleven_bits : ElevenBitsLaw
eleven_bits mode neg x hd a = exactness.eleven mode neg x hd (lt_of_le_of_lt (le_of_eq (sym (right_zero x))) (above_gt x 0 1 a))

-- ---- 9

pub exact : ExactLaw
exact mode unmasked_ue x hd h small finite e =
    let s : Bool = negative h in
    let d : round.delivered mode s x ≡ units h = exactness.held mode s x hd (units h) (half_on_grid h) (equals_eq x (units h) (2 ^ 24) e) in
    let f : overflows mode s x ≡ false = given.overflows_is mode s x hd ∙ rw d (lt-leb (2 ^ 40) (units h) (finite_lt h finite)) in
    let i : against x (round.delivered mode s x) (2 ^ 24) ≡ Ordering.eq = rw d e in (
      given.half_is mode s x hd f unmasked_ue ∙ ap (λ (n : ℕ). with_sign s n) (ap encode d ∙ encode-units h) ∙ signed_back h small,
      given.inexact_flag mode s x hd f unmasked_ue ∙ ap (λ (o : Ordering). not (compare_is_eq o)) i,
    )

-- ---- 10

pub order : OrderLaw
order mode neg x y hx hy l = ordered.order_kept x y hx hy (ordered.leq_ordered x y hx hy l) mode neg

pub half_order : HalfOrderLaw
half_order mode unmasked_ue neg x y hx hy l = ordered.half_order x y hx hy (ordered.leq_ordered x y hx hy l) mode neg unmasked_ue
