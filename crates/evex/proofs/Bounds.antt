-- The ranges of a decoded instruction's fields, for whoever uses them as indices: each is a few bits, so they hold of any bytes, but for
-- the number of a mask that is written, which a reserved form keeps below 8. And a comparison alone writes one.
-- Assumes nothing.
use mathlib.Core.Path.{◌≡◌, sym, ap, subst, ◌∙◌}
use mathlib.Core.Bool.{Bool, true, false, cond, not, ◌&&◌}
use mathlib.Core.List.{List}
use Prim.Native.Nat.{ℕ, ◌≤◌, ◌<◌}
use native.Mathlib.Omega.{arith}
use borrow.Author.Tests.{ltb-false}
use lib.Dec.{eqb, ltb, lit≤}
use lib.IntN.{ℤ}
use Rattle.std.specs.Prelude.{Ok, Option, Some, None}
use Rattle.lists.proofs.Tests.{either}
use Rattle.evex.specs.List.{shape}
use Rattle.evex.specs.Fields.{head_of, length_bits, destination, destination_of, first, register_form, register_b, vector_lanes, elements}
use Rattle.evex.specs.Fields.{has_sib, base_bits, index_number, index_of, no_base, base_of, displacement_of, second, instruction}
use Rattle.evex.specs.Decode.{no_such_mask, reserved_forms, decoded}
use Rattle.evex.specs.Sizes.{longest}
use Rattle.evex.specs.declared.head.Head.{Head}
use Rattle.evex.specs.declared.list.Row.{Row}
use Rattle.evex.specs.declared.Operation.TheVariants.{Compare}
use Rattle.evex.specs.declared.Destination.{Destination}
use Rattle.evex.specs.declared.Destination.TheVariants.{Vector, Mask}
use Rattle.evex.specs.declared.Base.{Base}
use Rattle.evex.specs.declared.Base.TheVariants as base
use Rattle.evex.specs.declared.Index.{Index}
use Rattle.evex.specs.declared.Operand.{Operand}
use Rattle.evex.specs.declared.Operand.TheVariants as operand
use Rattle.evex.specs.declared.Instruction.{Instruction}
use Rattle.evex.proofs.Lengths.{size_most}
use Rattle.evex.proofs.After.{whole}
use Rattle.evex.proofs.Compared.{mask_compares}

abbrev pub DestinationIn : Destination → Type 0
DestinationIn (Vector n) = n < 32
DestinationIn (Mask n) = n < 8

abbrev pub SourceIn : Option ℕ → Type 0
SourceIn None = Unit {0}
SourceIn (Some n) = n < 32

abbrev pub BaseIn : Option Base → Type 0
BaseIn None = Unit {0}
BaseIn (Some (base.General n)) = n < 16
BaseIn (Some base.NextInstruction) = Unit {0}

abbrev pub IndexIn : Option Index → Type 0
IndexIn None = Unit {0}
IndexIn (Some i) = (i.number < 16) × (i.scale < 4)

abbrev pub OperandIn : Operand → Type 0
OperandIn (operand.Register n) = n < 32
OperandIn (operand.Memory address broadcast) = BaseIn address.base × IndexIn address.index

pub record Bounds (i : Instruction) : Type 0 where
  pub elements : i.elements ≤ 32
  pub one : i.shape.scalar ≡ true → i.elements ≡ 1
  pub mask : i.mask < 8
  pub destination : DestinationIn i.destination
  pub compared : (n : ℕ) → i.destination ≡ Mask n → i.operation ≡ Compare
  pub first : SourceIn i.first
  pub second : OperandIn i.second
  pub size : i.size ≤ longest

-- ---- each field

module _ (h : Head) where
  lanes_in : vector_lanes h ≤ 32
  unfolding vector_lanes
  lanes_in =
      either (λ n. n ≤ 32) (register_b h) (lit≤ tt)
      (either (λ n. n ≤ 32) (eqb (length_bits h) 0) (lit≤ tt) (either (λ n. n ≤ 32) (eqb (length_bits h) 1) (lit≤ tt) (lit≤ tt)))

  base_bits_in : base_bits h ≤ 7
  unfolding base_bits
  base_bits_in = either (λ n. n ≤ 7) (has_sib h) (omega arith) (omega arith)

  base_in : BaseIn (base_of h)
  unfolding base_of
  base_in =
      either BaseIn (no_base h) (either BaseIn (has_sib h) tt tt)
      (omega (arith, base_bits_in))

  index_in : IndexIn (index_of h)
  unfolding index_of
  index_in =
      either IndexIn (has_sib h && not (eqb (index_number h) 4)) (omega arith, omega arith) tt

  second_in : (d : ℤ) → OperandIn (second h d)
  unfolding second
  second_in d =
      either OperandIn (register_form h) (omega arith) (base_in, index_in)

module _ (h : Head) (row : Row) where
  first_in : SourceIn (first h row)
  unfolding first
  first_in = either SourceIn (shape row).first (omega arith) tt

  elements_in : elements h row ≤ 32
  unfolding elements
  elements_in = either (λ n. n ≤ 32) (shape row).scalar (lit≤ tt) (lanes_in h)

  one_in : (shape row).scalar ≡ true → elements h row ≡ 1
  unfolding elements
  one_in e = rw e

  -- a mask's number is below 8 where none of the reserved forms is
  destination_by : no_such_mask h row ≡ false → DestinationIn (destination_of h row)
  unfolding no_such_mask destination_of
  destination_by none = go (shape row).mask none
    where
      go : (t : Bool) → (t && ltb 7 (destination h)) ≡ false → DestinationIn (cond t (Mask (destination h)) (Vector (destination h)))
      go true e = omega (arith, ltb-false 7 (destination h) e)
      go false e = omega arith

  instruction_in : (code : List ℕ) → no_such_mask h row ≡ false
      → ((n : ℕ) → (instruction h row code).destination ≡ Mask n → (instruction h row code).operation ≡ Compare)
      → Bounds (instruction h row code)
  unfolding instruction
  instruction_in code none compares =
      record {
        elements = elements_in;
        one = one_in;
        mask = omega arith;
        destination = destination_by none;
        compared = compares;
        first = first_in;
        second = second_in h (displacement_of h row code);
        size = size_most h row;
      }

-- ---- the whole

pub bounds : (code : List ℕ) {i : Instruction} → decoded code ≡ Ok i → Bounds i
unfolding reserved_forms
bounds code e =
    let w = whole code e in
    subst Bounds (sym w.is)
    (instruction_in (head_of code) w.row code w.plain.1.1.1.1.1.0
    (λ n to. mask_compares code (instruction (head_of code) w.row code) n (e ∙ ap Ok w.is) to))
