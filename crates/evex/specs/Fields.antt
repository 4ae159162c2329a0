-- docs/RULES.md, section 3: the fields of an instruction, first what its bytes say whatever their row, then what they say with it, each in
-- the section's order. Of bytes that are refused they do not count (Decode.antt).
use Rattle.std.specs.Prelude.{ℕ, ◌+◌, ◌*◌, Bool, cond, not, ◌&&◌, ◌||◌, List, eqb, ℤ, pos, ◌*ℤ◌, Option, Some, None}
use Rattle.half.specs.Modes.{mode_of_bits}
use Rattle.evex.specs.Bits.{bits, is_set, inverted, byte, four_bytes, signed}
use Rattle.evex.specs.List.{rows, find, operation, shape}
use Rattle.evex.specs.declared.head.Head.{Head}
use Rattle.evex.specs.declared.list.Row.{Row}
use Rattle.evex.specs.declared.Rounding.{Rounding}
use Rattle.evex.specs.declared.Rounding.TheVariants.{Control, Embedded, Suppressed}
use Rattle.evex.specs.declared.Destination.{Destination}
use Rattle.evex.specs.declared.Destination.TheVariants.{Vector, Mask}
use Rattle.evex.specs.declared.Base.{Base}
use Rattle.evex.specs.declared.Base.TheVariants as base
use Rattle.evex.specs.declared.Index.{Index}
use Rattle.evex.specs.declared.Operand.{Operand}
use Rattle.evex.specs.declared.Operand.TheVariants as operand
use Rattle.evex.specs.declared.Instruction.{Instruction}

-- R3.9: a memory form whose rm is 4 has a SIB byte. It is asked of ModRM alone, since `head_of` needs it.
unfoldable pub takes_sib : ℕ → Bool
takes_sib modrm = not (eqb (bits modrm 6 2) 3) && eqb (bits modrm 0 3) 4

-- R3.1: the bytes behind byte 0, up to the SIB byte (0 where there is none).
unfoldable pub head_of : List ℕ → Head
head_of code =
    record {
      byte1 = byte code 1;
      byte2 = byte code 2;
      byte3 = byte code 3;
      opcode = byte code 4;
      modrm = byte code 5;
      sib = cond (takes_sib (byte code 5)) (byte code 6) 0;
    }

module _ (h : Head) where
  -- ---- R3.2: byte 1, but for its fixed bit

  abbrev pub R : ℕ
  R = inverted h.byte1 7 1

  abbrev pub X : ℕ
  X = inverted h.byte1 6 1

  abbrev pub B : ℕ
  B = inverted h.byte1 5 1

  abbrev pub R' : ℕ
  R' = inverted h.byte1 4 1

  abbrev pub map_bits : ℕ
  map_bits = bits h.byte1 0 3

  -- ---- R3.3: byte 2, but for its fixed bit

  abbrev pub W : ℕ
  W = bits h.byte2 7 1

  abbrev pub vvvv : ℕ
  vvvv = inverted h.byte2 3 4

  abbrev pub prefix_bits : ℕ
  prefix_bits = bits h.byte2 0 2

  -- ---- R3.4: byte 3

  abbrev pub z : Bool
  z = is_set h.byte3 7

  abbrev pub length_bits : ℕ
  length_bits = bits h.byte3 5 2

  abbrev pub b : Bool
  b = is_set h.byte3 4

  abbrev pub V' : ℕ
  V' = inverted h.byte3 3 1

  abbrev pub aaa : ℕ
  aaa = bits h.byte3 0 3

  -- ---- R3.5: ModRM

  abbrev pub mod_bits : ℕ
  mod_bits = bits h.modrm 6 2

  abbrev pub reg : ℕ
  reg = bits h.modrm 3 3

  abbrev pub rm : ℕ
  rm = bits h.modrm 0 3

  -- ---- the row, and the registers

  -- R4.9: the row of the list that these bytes have, if there is one.
  unfoldable pub listed : Option Row
  listed = find rows prefix_bits map_bits W h.opcode

  -- R3.6: the numbers of registers.
  abbrev pub destination : ℕ
  destination = R' * 16 + R * 8 + reg

  abbrev pub first_source : ℕ
  first_source = V' * 16 + vvvv

  abbrev pub second_source : ℕ
  second_source = X * 16 + B * 8 + rm

  -- ---- the form

  -- R3.5: register form, else memory form.
  unfoldable pub register_form : Bool
  register_form = eqb mod_bits 3

  -- R3.8: b in register form.
  unfoldable pub register_b : Bool
  register_b = register_form && b

  -- R3.7, R3.8: the lanes of a vector: 32 with b in register form, else by the length bits.
  unfoldable pub vector_lanes : ℕ
  vector_lanes = cond register_b 32 (cond (eqb length_bits 0) 8 (cond (eqb length_bits 1) 16 32))

  -- ---- memory

  -- R3.9: base bits are those of the SIB byte, or rm.
  unfoldable pub has_sib : Bool
  has_sib = takes_sib h.modrm

  unfoldable pub base_bits : ℕ
  base_bits = cond has_sib (bits h.sib 0 3) rm

  -- R3.10: the index with its scale; number 4 is none.
  abbrev pub index_number : ℕ
  index_number = X * 8 + bits h.sib 3 3

  unfoldable pub index_of : Option Index
  index_of = cond (has_sib && not (eqb index_number 4)) (Some (record { number = index_number; scale = bits h.sib 6 2 })) None

  -- R3.11: no register is the base.
  unfoldable pub no_base : Bool
  no_base = eqb mod_bits 0 && eqb base_bits 5

  -- R3.11: a general register, or what takes its place.
  unfoldable pub base_of : Option Base
  base_of = cond no_base (cond has_sib None (Some base.NextInstruction)) (Some (base.General (B * 8 + base_bits)))

  -- R3.12: where the displacement stands, and how many bytes it has.
  unfoldable pub displacement_at : ℕ
  displacement_at = cond has_sib 7 6

  unfoldable pub displacement_size : ℕ
  displacement_size = cond (eqb mod_bits 1) 1 (cond (eqb mod_bits 2 || no_base) 4 0)

  -- R3.6, R3.8: the second source, with the displacement that it has in memory; b is broadcast there.
  unfoldable pub second : ℤ → Operand
  second displacement =
      cond register_form (operand.Register second_source)
      (operand.Memory (record { base = base_of; index = index_of; displacement = displacement }) b)

-- ---- with its row

module _ (h : Head) (row : Row) where
  -- R3.6: the destination, a mask or a vector register.
  unfoldable pub destination_of : Destination
  destination_of = cond (shape row).mask (Mask (destination h)) (Vector (destination h))

  -- R2.2, R3.6: the first source, where there is one.
  unfoldable pub first : Option ℕ
  first = cond (shape row).first (Some (first_source h)) None

  -- R3.7: the elements that the operation works on: one, or as many as a vector has lanes.
  unfoldable pub elements : ℕ
  elements = cond (shape row).scalar 1 (vector_lanes h)

  -- R3.8: whose mode and masks count; b in register form suppresses exceptions, or rounds by the length bits besides.
  unfoldable pub rounding : Rounding
  rounding = cond (register_b h) (cond (shape row).suppresses Suppressed (Embedded (mode_of_bits (length_bits h)))) Control

  -- R3.13: the unit of a displacement of one byte: an element, which has 2 bytes, or all of them.
  unfoldable pub N : ℕ
  N = 2 * cond (b h) 1 elements

  -- R3.12, R3.13: the displacement, 0 where there is none.
  unfoldable pub displacement_of : List ℕ → ℤ
  displacement_of code =
      cond (eqb (displacement_size h) 1) (signed 8 (byte code (displacement_at h)) *ℤ pos N)
      (cond (eqb (displacement_size h) 4) (signed 32 (four_bytes code (displacement_at h))) (pos 0))

  -- R3.15: where the immediate stands, behind all else, and the byte there; 0 where there is none.
  abbrev pub immediate_at : ℕ
  immediate_at = displacement_at h + displacement_size h

  unfoldable pub immediate_of : List ℕ → ℕ
  immediate_of code = cond (shape row).immediate (byte code immediate_at) 0

  -- R3.14: the instruction's length in bytes.
  unfoldable pub size : ℕ
  size = immediate_at + cond (shape row).immediate 1 0

  -- R3.1: all fields.
  unfoldable pub instruction : List ℕ → Instruction
  instruction code =
      record {
        operation = operation row;
        shape = shape row;
        elements = elements;
        rounding = rounding;
        zeroing = z h;
        mask = aaa h;
        destination = destination_of;
        first = first;
        second = second h (displacement_of code);
        immediate = immediate_of code;
        size = size;
      }
