-- Where the parts of the saved form stand: the code writes them there one after another, and they are read there again.
-- Assumes nothing.
use Prim.Native.Nat.{ℕ, ◌+◌}
use mathlib.Core.Path.{◌≡◌, sym, ap, ◌∙◌}
use mathlib.Core.List.{List, [], ◌∷◌, ◌++◌}
use native.Mathlib.Omega.{arith}
use lib.ListN.{length, take, drop, length-append}
use lib.Seq.{take_all, take_at, drop_at, drop-drop}
use Rattle.machine.specs.State.{State}
use Rattle.forms.specs.declared.Version.{Version}
use Rattle.forms.specs.Version.{version_byte}
use Rattle.forms.specs.Numbers.{big, registers}
use Rattle.forms.specs.Form.{numbers, file, content, saved_form, form_size}
use Rattle.forms.proofs.Slices.{part_first, part_second}
use Rattle.forms.proofs.Numbers.{length-big}
use Rattle.forms.proofs.Registers.{length-registers}

-- ---- the numbers

module _ (control pointer : ℕ) (general masks : List ℕ) where
  to_pointer : length (big 4 control ++ big 8 pointer) ≡ 12
  to_pointer = length-append (big 4 control) (big 8 pointer) ∙ rw (length-big 4 control, length-big 8 pointer)

  to_general : length (big 4 control ++ big 8 pointer ++ registers 16 general) ≡ 140
  to_general = length-append (big 4 control ++ big 8 pointer) (registers 16 general) ∙ rw (to_pointer, length-registers 16 general)

  pub length-numbers : length (numbers control pointer general masks) ≡ 204
  unfolding numbers
  length-numbers =
      length-append (big 4 control ++ big 8 pointer ++ registers 16 general) (registers 8 masks) ∙ rw (to_general, length-registers 8 masks)

  pub control_there : take 4 (drop 0 (numbers control pointer general masks)) ≡ big 4 control
  unfolding numbers
  control_there =
      part_first 0 4 (big 4 control ++ big 8 pointer ++ registers 16 general) (registers 8 masks) (omega (arith, to_general))
      ∙ part_first 0 4 (big 4 control ++ big 8 pointer) (registers 16 general) (omega (arith, to_pointer))
      ∙ part_first 0 4 (big 4 control) (big 8 pointer) (omega (arith, length-big 4 control))
      ∙ take_all 4 (big 4 control) (omega (arith, length-big 4 control))

  pub pointer_there : take 8 (drop 4 (numbers control pointer general masks)) ≡ big 8 pointer
  unfolding numbers
  pointer_there =
      part_first 4 8 (big 4 control ++ big 8 pointer ++ registers 16 general) (registers 8 masks) (omega (arith, to_general))
      ∙ part_first 4 8 (big 4 control ++ big 8 pointer) (registers 16 general) (omega (arith, to_pointer))
      ∙ part_second 4 8 (big 4 control) (big 8 pointer) (length-big 4 control) (length-big 8 pointer)

  pub general_there : take 128 (drop 12 (numbers control pointer general masks)) ≡ registers 16 general
  unfolding numbers
  general_there =
      part_first 12 128 (big 4 control ++ big 8 pointer ++ registers 16 general) (registers 8 masks) (omega (arith, to_general))
      ∙ part_second 12 128 (big 4 control ++ big 8 pointer) (registers 16 general) to_pointer (length-registers 16 general)

  pub masks_there : take 64 (drop 140 (numbers control pointer general masks)) ≡ registers 8 masks
  unfolding numbers
  masks_there =
      part_second 140 64 (big 4 control ++ big 8 pointer ++ registers 16 general) (registers 8 masks) to_general (length-registers 8 masks)

-- ---- the saved form

module _ (v : Version) (s : State) where
  abbrev all_numbers : List ℕ
  all_numbers = numbers s.control s.pointer s.general s.masks

  abbrev bytes_of_file : List ℕ
  bytes_of_file = (file v).put s.vectors

  pub length-content : length (content v s) ≡ 205 + length bytes_of_file
  unfolding content
  length-content =
      omega (arith, length-append all_numbers bytes_of_file, length-numbers s.control s.pointer s.general s.masks)

  length_first : length (big 4 (length (content v s))) ≡ 4
  length_first = length-big 4 (length (content v s))

  pub length_saved : length (saved_form v s) ≡ form_size v s.vectors
  unfolding saved_form form_size
  length_saved = length-append (big 4 (length (content v s))) (content v s) ∙ omega (arith, length_first, length-content)

  pub length_there : take 4 (drop 0 (saved_form v s)) ≡ big 4 (length (content v s))
  unfolding saved_form
  length_there = take_at (big 4 (length (content v s))) (content v s) 4 length_first

  pub version_there : take 1 (drop 4 (saved_form v s)) ≡ version_byte v ∷ []
  unfolding saved_form content
  version_there = ap (take 1) (drop_at (big 4 (length (content v s))) (content v s) 4 length_first)

  behind_version : drop 5 (saved_form v s) ≡ all_numbers ++ bytes_of_file
  unfolding saved_form content
  behind_version =
      sym (drop-drop 1 4 (saved_form v s)) ∙ ap (drop 1) (drop_at (big 4 (length (content v s))) (content v s) 4 length_first)

  pub numbers_there : take 204 (drop 5 (saved_form v s)) ≡ numbers s.control s.pointer s.general s.masks
  numbers_there =
      rw behind_version (take_at all_numbers bytes_of_file 204 (length-numbers s.control s.pointer s.general s.masks))

  pub file_there : drop 209 (saved_form v s) ≡ (file v).put s.vectors
  file_there =
      sym (drop-drop 204 5 (saved_form v s))
      ∙ rw behind_version (drop_at all_numbers bytes_of_file 204 (length-numbers s.control s.pointer s.general s.masks))
