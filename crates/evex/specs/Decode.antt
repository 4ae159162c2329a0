-- docs/RULES.md, R4.5 to R4.11: the refusals that an instruction's bytes decide, in their order, and its fields where none applies.
use Rattle.std.specs.Prelude.{ℕ, Bool, true, false, not, ◌&&◌, ◌||◌, List, [], ◌∷◌, ◌++◌, map, eqb, ltb, length}
use Rattle.std.specs.Prelude.{Result, Ok, Err, Option, Some, None}
use Rattle.lists.specs.Lists.{first_of}
use Rattle.evex.specs.Bits.{is_set, byte}
use Rattle.evex.specs.List.{shape}
use Rattle.evex.specs.Fields.{head_of, listed, length_bits, b, register_form, register_b, z, aaa, destination, first_source, size}
use Rattle.evex.specs.Fields.{instruction}
use Rattle.evex.specs.declared.head.Head.{Head}
use Rattle.evex.specs.declared.list.Row.{Row}
use Rattle.evex.specs.declared.Instruction.{Instruction}
use Rattle.evex.specs.declared.Refusal.{Refusal}
use Rattle.evex.specs.declared.Refusal.TheVariants.{Incomplete, Unlisted, Reserved}

-- R4.1: the numbers. R4.12: 6 is none of them.
abbrev pub number_of : Refusal → ℕ
number_of Incomplete = 3
number_of Unlisted = 4
number_of Reserved = 5

-- ---- the conditions

-- R4.5: there is no code.
unfoldable pub no_bytes : List ℕ → Bool
no_bytes code = eqb (length code) 0

-- R4.6: another byte 0 than 62. R2.3: so a prefix before it is refused too.
unfoldable pub wrong_first_byte : List ℕ → Bool
wrong_first_byte code = not (eqb (byte code 0) 0x62)

-- R4.7: every instruction has six bytes.
unfoldable pub fewer_than_six_bytes : List ℕ → Bool
fewer_than_six_bytes code = ltb (length code) 6

-- R4.8: a fixed bit of the prefix is wrong.
unfoldable pub wrong_fixed_bits : Head → Bool
wrong_fixed_bits h = is_set h.byte1 3 || not (is_set h.byte2 2)

-- R4.9: no row of the list. R2.3: so every other opcode is refused.
unfoldable pub not_in_list : Option Row → Bool
not_in_list (Some row) = false
not_in_list None = true

-- R4.10: length bits 3, but for b in register form, where they are no length (R3.8). Every row reserves them.
unfoldable pub reserved_length : Head → Bool
reserved_length h = eqb (length_bits h) 3 && not (register_b h)

-- R4.10: zeroing without a mask.
unfoldable pub zeroing_without_mask : Head → Bool
zeroing_without_mask h = z h && eqb (aaa h) 0

-- R4.10: bits for a first source, where the row has none; five ones, stored inverted, are the number 0.
unfoldable pub extra_source : Head → Row → Bool
extra_source h row = not (shape row).first && not (eqb (first_source h) 0)

-- R4.10: b in memory form, where the row has one element.
unfoldable pub scalar_broadcast : Head → Row → Bool
scalar_broadcast h row = (shape row).scalar && (b h && not (register_form h))

-- R4.10: zeroing, where the row writes a mask.
unfoldable pub zeroing_mask : Head → Row → Bool
zeroing_mask h row = (shape row).mask && z h

-- R4.10: a mask that there is not, where the row writes one.
unfoldable pub no_such_mask : Head → Row → Bool
no_such_mask h row = (shape row).mask && ltb 7 (destination h)

-- R4.10: the reserved forms, a line for each.
unfoldable pub reserved_forms : Head → Row → List Bool
reserved_forms h row =
    reserved_length h
    ∷ zeroing_without_mask h
    ∷ extra_source h row
    ∷ scalar_broadcast h row
    ∷ zeroing_mask h row
    ∷ no_such_mask h row
    ∷ []

-- R4.11: there are fewer bytes than the instruction has, the SIB byte, the displacement and the immediate among them. Where the SIB byte is
-- missing the length counts it all the same.
unfoldable pub bytes_missing : Head → Row → List ℕ → Bool
bytes_missing h row code = ltb (length code) (size h row)

-- ---- R4.2: the order

-- by the row, where there is one
abbrev pub of_row : {A : Type 0} → Option Row → A → (Row → A) → A
of_row (Some row) otherwise f = f row
of_row None otherwise f = otherwise

-- from R4.5 to R4.9
unfoldable pub head_conditions : List ℕ → List (Bool × Refusal)
head_conditions code =
    let h : Head = head_of code in
    (no_bytes code, Incomplete)
    ∷ (wrong_first_byte code, Unlisted)
    ∷ (fewer_than_six_bytes code, Incomplete)
    ∷ (wrong_fixed_bits h, Reserved)
    ∷ (not_in_list (listed h), Unlisted)
    ∷ []

-- R4.10, then R4.11
unfoldable pub row_conditions : Head → List ℕ → Row → List (Bool × Refusal)
row_conditions h code row =
    map (λ reserved. (reserved, Reserved)) (reserved_forms h row) ++ ((bytes_missing h row code, Incomplete) ∷ [])

-- all of them; where there is no row one of the head's has refused
unfoldable pub refusals : List ℕ → List (Bool × Refusal)
refusals code =
    let h : Head = head_of code in
    head_conditions code ++ of_row (listed h) [] (row_conditions h code)

-- ---- R4.2: decoding

-- The fields, where nothing refuses. (Without a row `not_in_list` has refused.)
abbrev pub fields : Head → List ℕ → Option Row → Result Instruction Refusal
fields h code l = of_row l (Err Unlisted) (λ row. Ok (instruction h row code))

-- The refusal that comes first, or else the fields. (R11.5 calls code decoded only where, besides, neither R4.3 nor R4.4 holds.)
unfoldable pub decoded : List ℕ → Result Instruction Refusal
decoded code =
    let h : Head = head_of code in
    first_of (map (λ c. (c.0, Err c.1)) (refusals code)) (fields h code (listed h))
