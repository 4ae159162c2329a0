-- Both ways of a saved form, over any version: `state_back` from a state to bytes and back, `bytes_back` from bytes to a state and back. Each
-- part goes by itself, since it is read at the place where it is written.
-- Assumes nothing.
use Prim.Native.Nat.{ℕ, ◌+◌, ◌*◌, ◌^◌, ◌≤◌, ◌<◌}
use mathlib.Core.Bool.{false}
use mathlib.Core.List.{List, ◌∷◌, ◌++◌}
use mathlib.Core.Path.{◌≡◌, refl, sym, ap, ap₂, ◌∙◌}
use native.Mathlib.Omega.{arith}
use borrow.Author.Tests.{lt-leb}
use lib.Dec.{lit≤}
use lib.ListN.{length, get_or, take, drop, length-drop, take-append-drop}
use lib.Seq.{get_or-take, get_or-drop, drop-cons, drop-drop}
use Rattle.lists.specs.Lists.{Each, table, NoneHolds}
use Rattle.lists.proofs.Tests.{equal, same}
use Rattle.lists.proofs.Tables.{table_equal, length-table, each_table}
use Rattle.machine.specs.State.{State}
use Rattle.machine.specs.Step.{high_control_bit}
use Rattle.forms.specs.declared.Version.{Version}
use Rattle.forms.specs.declared.Version.TheVariants.{One, Two}
use Rattle.forms.specs.Version.{version_byte, is_packed, version_of, no_version}
use Rattle.forms.specs.Numbers.{big, value_from, number_in, registers}
use Rattle.forms.specs.Form.{numbers, file_at, file, content, saved_form, form_size, loaded_state}
use Rattle.forms.specs.Saved.{size_at, version_number, version_in, state_in, wrong_size, wrong_length, wrong_file, source_conditions}
use Rattle.forms.specs.Trips.{Held, Bytes}
use Rattle.forms.proofs.Slices.{part_part, part_next, length_part, each_drop, each_part}
use Rattle.forms.proofs.Numbers.{value_big, big_value, value_below}
use Rattle.forms.proofs.Registers.{read_registers, write_registers}
use Rattle.forms.proofs.Files.{FileLaws, file_laws}
use Rattle.forms.proofs.Places.{control_there, pointer_there, general_there, masks_there, length-content, length_saved, length_there}
use Rattle.forms.proofs.Places.{version_there, numbers_there, file_there}

-- the version of a version's number
pub version_of_lem : (v : Version) → version_of (version_byte v) ≡ v
unfolding version_of
version_of_lem One = refl
version_of_lem Two = refl

pub has_version : (v : Version) → no_version (version_byte v) ≡ false
unfolding no_version
has_version v = same (version_byte v) (version_byte (version_of (version_byte v))) (ap version_byte (sym (version_of_lem v)))

-- n registers in a part of the bytes, and in the bytes
pub registers_in : (bytes : List ℕ) (at n : ℕ)
    → table n (λ k. number_in (take (8 * n) (drop at bytes)) (8 * k) 8) ≡ table n (λ k. number_in bytes (at + 8 * k) 8)
registers_in bytes at n = table_equal n (λ k h. ap (value_from 0) (part_part at (8 * n) (8 * k) 8 bytes (omega arith)))

abbrev laws : (v : Version) → FileLaws (file v)
laws v = file_laws (is_packed v)

pub most : (v : Version) (vectors : List ℕ) → length vectors ≡ 2048 → form_size v vectors ≤ 2261
unfolding form_size
most v vectors h = omega (arith, (laws v).most_put vectors h)

-- ---- from a state to bytes and back

module _ (v : Version) (s : State) (long : length s.vectors ≡ 2048) where
  -- a part of the numbers, in the saved form
  inside : (at n : ℕ) → at + n ≤ 204
      → take n (drop (5 + at) (saved_form v s)) ≡ take n (drop at (numbers s.control s.pointer s.general s.masks))
  inside at n h = sym (part_part 5 204 at n (saved_form v s) h) ∙ ap (λ (l : List ℕ). take n (drop at l)) (numbers_there v s)

  pub number_there : version_number (saved_form v s) ≡ version_byte v
  number_there =
      sym (get_or-take 1 (drop 4 (saved_form v s)) 0 0 (lit≤ tt) ∙ get_or-drop 4 (saved_form v s) 0 0) ∙ ap (λ (l : List ℕ). get_or l 0 0)
      (version_there v s)

  pub version_back : version_in (saved_form v s) ≡ v
  version_back = ap version_of number_there ∙ version_of_lem v

  pub field_there : size_at (saved_form v s) ≡ form_size v s.vectors
  unfolding size_at form_size
  field_there =
      rw (length_there v s, value_big 4 (length (content v s)) (omega (arith, length-content v s, (laws v).most_put s.vectors long)))
      (omega (arith, length-content v s))

  module _ (low : s.control < 2 ^ 16) (S : Held s) where
    control_read : number_in (saved_form v s) 5 4 ≡ s.control
    control_read =
        ap (value_from 0) (inside 0 4 (lit≤ tt) ∙ control_there s.control s.pointer s.general s.masks)
        ∙ value_big 4 s.control (omega arith)

    pointer_read : number_in (saved_form v s) 9 8 ≡ s.pointer
    pointer_read =
        ap (value_from 0) (inside 4 8 (lit≤ tt) ∙ pointer_there s.control s.pointer s.general s.masks)
        ∙ value_big 8 s.pointer S.pointer

    registers_read : (at n : ℕ) (values : List ℕ) → at + 8 * n ≤ 204
        → take (8 * n) (drop at (numbers s.control s.pointer s.general s.masks)) ≡ registers n values
        → length values ≡ n → Each (λ x. x < 2 ^ 64) values → table n (λ k. number_in (saved_form v s) (5 + at + 8 * k) 8) ≡ values
    registers_read at n values h there count each =
        sym (registers_in (saved_form v s) (5 + at) n)
        ∙ ap (λ (l : List ℕ). table n (λ k. number_in l (8 * k) 8)) (inside at (8 * n) h ∙ there)
        ∙ read_registers n values count each

    general_read : table 16 (λ k. number_in (saved_form v s) (17 + 8 * k) 8) ≡ s.general
    general_read =
        registers_read 12 16 s.general (lit≤ tt) (general_there s.control s.pointer s.general s.masks)
        S.general_count S.general

    masks_read : table 8 (λ k. number_in (saved_form v s) (145 + 8 * k) 8) ≡ s.masks
    masks_read =
        registers_read 140 8 s.masks (lit≤ tt) (masks_there s.control s.pointer s.general s.masks)
        S.masks_count S.masks

    vectors_read : (file v).get (drop file_at (saved_form v s)) ≡ s.vectors
    vectors_read = ap (file v).get (file_there v s) ∙ (laws v).get-put s.vectors long

    state_read : loaded_state v (saved_form v s) ≡ s
    unfolding loaded_state
    state_read =
        λ i. record {
          vectors = vectors_read i;
          masks = masks_read i;
          general = general_read i;
          control = control_read i;
          pointer = pointer_read i;
        }

    pub state_back : state_in (saved_form v s) ≡ s
    state_back = ap (λ (w : Version). loaded_state w (saved_form v s)) version_back ∙ state_read

    pub source_right : NoneHolds (source_conditions (saved_form v s))
    unfolding source_conditions wrong_size wrong_length wrong_file high_control_bit form_size
    source_right = (
      rw number_there (has_version v),
      (
        rw (version_back, file_there v s)
            (same (length (saved_form v s)) _ (length_saved v s ∙ ap (λ (k : ℕ). file_at + k) ((laws v).length-put s.vectors long))),
        (
          same (size_at (saved_form v s)) (length (saved_form v s)) (field_there ∙ sym (length_saved v s)),
          (
            ap₂ (λ (w : Version) (l : List ℕ). (file w).wrong l) version_back (file_there v s) ∙ (laws v).right_put s.vectors long,
            (rw state_back (lt-leb (2 ^ 16) s.control low), tt),
          ),
        ),
      ),
    )

-- ---- from bytes to a state and back

module _ (bytes : List ℕ) (passed : NoneHolds (source_conditions bytes)) where
  abbrev version : Version
  version = version_in bytes

  pub named : no_version (version_number bytes) ≡ false
  unfolding source_conditions
  named = passed.0

  byte : version_number bytes ≡ version_byte version
  unfolding no_version
  byte = equal (version_number bytes) (version_byte version) named

  total : length bytes ≡ file_at + (file version).size (drop file_at bytes)
  unfolding source_conditions wrong_size
  total = equal (length bytes) (file_at + (file version).size (drop file_at bytes)) passed.1.0

  field : size_at bytes ≡ length bytes
  unfolding source_conditions wrong_length
  field = equal (size_at bytes) (length bytes) passed.1.1.0

  right : (file version).wrong (drop file_at bytes) ≡ false
  unfolding source_conditions wrong_file
  right = passed.1.1.1.0

  pub low_control : high_control_bit (state_in bytes) ≡ false
  unfolding source_conditions
  low_control = passed.1.1.1.1.0

  pub file_size : length (drop file_at bytes) ≡ (file version).size (drop file_at bytes)
  file_size = omega (arith, length-drop file_at bytes, total)

  pub vectors_long : length (state_in bytes).vectors ≡ 2048
  unfolding loaded_state
  vectors_long = (laws version).length-get (drop file_at bytes) file_size

  module _ (small : Bytes bytes) where
    part : (at n : ℕ) → at + n ≤ 209 → (length (take n (drop at bytes)) ≡ n) × Bytes (take n (drop at bytes))
    part at n h = (length_part at n bytes (omega (arith, total)), each_part (λ b. b < 256) at n bytes small)

    number_back : (at n : ℕ) → at + n ≤ 209 → big n (number_in bytes at n) ≡ take n (drop at bytes)
    number_back at n h = big_value n (take n (drop at bytes)) (part at n h).0 (part at n h).1

    number_held : (at n : ℕ) → at + n ≤ 209 → number_in bytes at n < 256 ^ n
    number_held at n h = rw (part at n h).0 at (value_below (take n (drop at bytes)) (part at n h).1)

    registers_back : (at n : ℕ) → at + 8 * n ≤ 209
        → registers n (table n (λ k. number_in bytes (at + 8 * k) 8)) ≡ take (8 * n) (drop at bytes)
    registers_back at n h =
        ap (registers n) (sym (registers_in bytes at n))
        ∙ write_registers n (take (8 * n) (drop at bytes)) (part at (8 * n) h).0 (part at (8 * n) h).1

    registers_held : (at n : ℕ) → at + 8 * n ≤ 209 → Each (λ x. x < 2 ^ 64) (table n (λ k. number_in bytes (at + 8 * k) 8))
    registers_held at n h =
        each_table (λ x. x < 2 ^ 64) n (λ k. number_in bytes (at + 8 * k) 8) (λ k l. number_held (at + 8 * k) 8 (omega arith))

    -- registers of 64 bits hold it
    pub held : Held (state_in bytes)
    unfolding loaded_state
    held =
        record {
          masks_count = length-table 8 _;
          masks = registers_held 145 8 (lit≤ tt);
          general_count = length-table 16 _;
          general = registers_held 17 16 (lit≤ tt);
          pointer = number_held 9 8 (lit≤ tt);
        }

    numbers_back : numbers (state_in bytes).control (state_in bytes).pointer (state_in bytes).general (state_in bytes).masks
        ≡ take 204 (drop 5 bytes)
    unfolding numbers loaded_state
    numbers_back =
        rw (number_back 5 4 (lit≤ tt), number_back 9 8 (lit≤ tt), registers_back 17 16 (lit≤ tt), registers_back 145 8 (lit≤ tt))
        (rw (part_next 5 4 8 bytes, part_next 5 12 128 bytes) (part_next 5 140 64 bytes))

    file_back : (file version).put (state_in bytes).vectors ≡ drop file_at bytes
    unfolding loaded_state
    file_back = (laws version).put-get (drop file_at bytes) (each_drop (λ b. b < 256) file_at bytes small) file_size right

    content_back : content version (state_in bytes) ≡ drop 4 bytes
    unfolding content
    content_back =
        let behind : drop 5 bytes ≡ take 204 (drop 5 bytes) ++ drop file_at bytes =
        sym (rw (← drop-drop 204 5 bytes) (take-append-drop 204 (drop 5 bytes))) in
        ap₂ ◌∷◌ (sym byte) (ap₂ ◌++◌ numbers_back file_back ∙ sym behind) ∙ sym (drop-cons bytes 4 0 (omega (arith, total)))

    pub bytes_back : saved_form version (state_in bytes) ≡ bytes
    unfolding saved_form size_at
    bytes_back =
        let long : length (content version (state_in bytes)) ≡ number_in bytes 0 4 =
        ap length content_back ∙ length-drop 4 bytes ∙ omega (arith, field) in
        rw (long, number_back 0 4 (lit≤ tt), content_back) (take-append-drop 4 bytes)
