-- Masks that are written, and exceptions that are suppressed: the statements of specs/Compared.antt, from the reserved forms and the rows
-- of the list.
-- Assumes nothing.
use Prim.Native.Nat.{ℕ, ◌<◌}
use mathlib.Core.Path.{◌≡◌, refl, sym, ap, ◌∙◌}
use mathlib.Core.Bool.{Bool, true, false, not, ◌&&◌, beq, not-eq-not}
use mathlib.Core.List.{List}
use native.Mathlib.Omega.{arith}
use borrow.Author.Tests.{ltb-false}
use Rattle.std.specs.Prelude.{Ok, Some}
use Rattle.lists.specs.Lists.{some}
use Rattle.evex.specs.List.{rows, operation, shape}
use Rattle.evex.specs.Fields.{head_of, listed, destination, vector_lanes, destination_of, elements, rounding, instruction}
use Rattle.evex.specs.Decode.{zeroing_mask, no_such_mask, reserved_forms, decoded}
use Rattle.evex.specs.Compared.{Destinations, ByB, SuppressedForms}
use Rattle.evex.specs.declared.head.Head.{Head}
use Rattle.evex.specs.declared.list.Row.{Row}
use Rattle.evex.specs.declared.Operation.{Operation}
use Rattle.evex.specs.declared.Operation.TheVariants.{Add, Multiply, Subtract, Divide, SquareRoot, Fused132, Fused213, Fused231}
use Rattle.evex.specs.declared.Operation.TheVariants.{Minimum, Maximum, Compare}
use Rattle.evex.specs.declared.Destination.TheVariants.{Vector, Mask}
use Rattle.evex.specs.declared.Instruction.{Instruction}
use Rattle.evex.proofs.Search.{passes_test, none_found}
use Rattle.evex.proofs.After.{whole}

-- ---- what is written: a row's column says that it is a comparison

abbrev is_compare : Operation → Bool
is_compare Add = false
is_compare Multiply = false
is_compare Subtract = false
is_compare Divide = false
is_compare SquareRoot = false
is_compare Fused132 = false
is_compare Fused213 = false
is_compare Fused231 = false
is_compare Minimum = false
is_compare Maximum = false
is_compare Compare = true

is_compare_lem : (op : Operation) → is_compare op ≡ true → op ≡ Compare
is_compare_lem Add e = cc
is_compare_lem Multiply e = cc
is_compare_lem Subtract e = cc
is_compare_lem Divide e = cc
is_compare_lem SquareRoot e = cc
is_compare_lem Fused132 e = cc
is_compare_lem Fused213 e = cc
is_compare_lem Fused231 e = cc
is_compare_lem Minimum e = cc
is_compare_lem Maximum e = cc
is_compare_lem Compare e = refl

abbrev wrong_column : Row → Bool
wrong_column row = not (beq (shape row).mask (is_compare (operation row)))

none_wrong : some wrong_column rows ≡ false
unfolding rows
none_wrong = refl

column : (h : Head) (row : Row) → listed h ≡ Some row → (shape row).mask ≡ is_compare (operation row)
unfolding listed
column h row found =
    let none : passes_test wrong_column (listed h) ≡ false = none_found wrong_column rows _ _ _ _ none_wrong in
    alike (shape row).mask (is_compare (operation row)) (rw found at none)
  where
    alike : (a b : Bool) → not (beq a b) ≡ false → a ≡ b
    alike true true e = refl
    alike true false e = e
    alike false true e = sym e
    alike false false e = refl

-- by whether it is one
written : (code : List ℕ) (i : Instruction) → decoded code ≡ Ok i
    → (is_compare i.operation ≡ true → (n : ℕ) × (n < 8) × (i.destination ≡ Mask n) × (i.zeroing ≡ false))
    × (is_compare i.operation ≡ false → (n : ℕ) × (n < 32) × (i.destination ≡ Vector n))
unfolding instruction destination_of zeroing_mask no_such_mask reserved_forms
written code i e =
    let h : Head = head_of code in
    let w = whole code e in
    let row : (shape w.row).mask ≡ is_compare i.operation =
    column h w.row w.found ∙ ap (λ (i : Instruction). is_compare i.operation) (sym w.is) in
    let to : i.destination ≡ destination_of h w.row = ap (λ (i : Instruction). i.destination) w.is in (
      λ t. (
        destination h,
        omega (arith, ltb-false 7 (destination h) (rw (row ∙ t) at w.plain.1.1.1.1.1.0)),
        to ∙ rw (row ∙ t),
        ap (λ (i : Instruction). i.zeroing) w.is ∙ (rw (row ∙ t) at w.plain.1.1.1.1.0),
      ),
      λ t. (destination h, omega arith, to ∙ rw (row ∙ t)),
    )

pub destinations : Destinations
destinations code i e =
    record {
      mask = λ c. (written code i e).0 (rw c);
      vector = λ n. (written code i e).1 ((not-eq-not {a = is_compare i.operation} {b = false}).0 (λ t. n (is_compare_lem i.operation t)));
    }

-- so what writes a mask is one
pub mask_compares : (code : List ℕ) (i : Instruction) (n : ℕ) → decoded code ≡ Ok i → i.destination ≡ Mask n → i.operation ≡ Compare
mask_compares code i n e to = go (is_compare i.operation) refl
  where
    go : (t : Bool) → is_compare i.operation ≡ t → i.operation ≡ Compare
    go true c = is_compare_lem i.operation c
    go false c =
        let v = (written code i e).1 c in
        let clash : Mask n ≡ Vector v.0 = sym to ∙ v.2 in
        cc

-- ---- what b is in register form: no row that suppresses has one element

abbrev one_suppresses : Row → Bool
one_suppresses row = (shape row).suppresses && (shape row).scalar

none_one : some one_suppresses rows ≡ false
unfolding rows
none_one = refl

packed_is : (h : Head) (row : Row) → listed h ≡ Some row → (shape row).suppresses ≡ true → (shape row).scalar ≡ false
unfolding listed
packed_is h row found t =
    let none : passes_test one_suppresses (listed h) ≡ false = none_found one_suppresses rows _ _ _ _ none_one in
    rw (found, t) at none

-- what its fields give
by_b : (h : Head) (row : Row) {i : Instruction} → i.shape ≡ shape row → i.rounding ≡ rounding h row → i.elements ≡ elements h row
    → ((shape row).suppresses ≡ true → (shape row).scalar ≡ false) → ByB h i
unfolding rounding elements vector_lanes
by_b h row s r n packed =
    record {
      suppresses = λ b t.
          let u : (shape row).suppresses ≡ true = rw s at t in
          (r ∙ rw (b, u), n ∙ rw (packed u, b));
      rounds = λ b t.
          let u : (shape row).suppresses ≡ false = rw s at t in
          r ∙ rw (b, u);
      control = λ b. r ∙ rw b;
    }

pub suppressed_forms : SuppressedForms
unfolding instruction
suppressed_forms code i e =
    let h : Head = head_of code in
    let w = whole code e in
    by_b h w.row
    (ap (λ (i : Instruction). i.shape) w.is)
    (ap (λ (i : Instruction). i.rounding) w.is)
    (ap (λ (i : Instruction). i.elements) w.is)
    (packed_is h w.row w.found)
