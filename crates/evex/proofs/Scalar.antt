-- Scalar instructions: the statement of specs/Scalar.antt, from the rows of the list and the reserved forms.
-- Assumes nothing.
use mathlib.Core.Path.{◌≡◌, refl, sym, ap, ◌∙◌}
use mathlib.Core.Bool.{Bool, true, false, cond, not, ◌&&◌, and-true}
use Prim.Native.Nat.{ℕ}
use borrow.Author.Tests.{not-false}
use Rattle.std.specs.Prelude.{Some}
use Rattle.lists.specs.Lists.{some}
use Rattle.evex.specs.List.{rows, shape}
use Rattle.evex.specs.Fields.{head_of, b, register_form, listed, first_source, second, first, instruction}
use Rattle.evex.specs.Decode.{scalar_broadcast, reserved_forms}
use Rattle.evex.specs.Scalar.{ScalarForms}
use Rattle.evex.specs.declared.head.Head.{Head}
use Rattle.evex.specs.declared.list.Row.{Row}
use Rattle.evex.specs.declared.Address.{Address}
use Rattle.evex.specs.declared.Operand.{Operand}
use Rattle.evex.specs.declared.Operand.TheVariants as operand
use Rattle.evex.specs.declared.Instruction.{Instruction}
use Rattle.evex.proofs.Bounds.{bounds}
use Rattle.evex.proofs.Search.{passes_test, none_found}
use Rattle.evex.proofs.After.{whole}

-- ---- the first source: no scalar row is without one

abbrev without_first : Row → Bool
without_first row = (shape row).scalar && not (shape row).first

none_without : some without_first rows ≡ false
unfolding rows
none_without = refl

first_is : (h : Head) (row : Row) → listed h ≡ Some row → (shape row).scalar ≡ true → first h row ≡ Some (first_source h)
unfolding listed first
first_is h row found t =
    let none : passes_test without_first (listed h) ≡ false = none_found without_first rows _ _ _ _ none_without in
    rw (not-false (shape row).first (rw (found, t) at none))

-- ---- the second source: b is not set in memory form

abbrev broadcast_of : Operand → Bool
broadcast_of (operand.Register n) = false
broadcast_of (operand.Memory address broadcast) = broadcast

second_plain : (form t : Bool) (n : ℕ) (x address : Address) (broadcast : Bool) → (t && not form) ≡ false
    → cond form (operand.Register n) (operand.Memory x t) ≡ operand.Memory address broadcast → broadcast ≡ false
second_plain true t n x address broadcast e s = ap broadcast_of (sym s)
second_plain false t n x address broadcast e s = ap broadcast_of (sym s) ∙ sym (and-true t) ∙ e

-- ---- the whole

pub scalar_forms : ScalarForms
unfolding instruction second scalar_broadcast reserved_forms
scalar_forms code i e t =
    let h : Head = head_of code in
    let w = whole code e in
    let one : (shape w.row).scalar ≡ true = ap (λ (i : Instruction). i.shape.scalar) (sym w.is) ∙ t in
    record {
      elements = (bounds code e).one t;
      has_first = (first_source h, ap (λ (i : Instruction). i.first) w.is ∙ first_is h w.row w.found one);
      plain = λ address broadcast s.
          second_plain (register_form h) (b h) _ _ address broadcast (rw one at w.plain.1.1.1.0)
          (ap (λ (i : Instruction). i.second) (sym w.is) ∙ s);
    }
