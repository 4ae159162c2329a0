-- docs/RULES.md, R9.1 and R9.3: the saved form of a state, once for every version.
use Rattle.std.specs.Prelude.{ℕ, ◌+◌, ◌*◌, List, [], ◌∷◌, ◌++◌, length, drop}
use Rattle.lists.specs.Lists.{table}
use Rattle.machine.specs.State.{State}
use Rattle.forms.specs.declared.Version.{Version}
use Rattle.forms.specs.Version.{version_byte, is_packed}
use Rattle.forms.specs.Numbers.{big, number_in, registers}
use Rattle.forms.specs.File.{FileForm, file_form}

-- ---- R9.1

-- what stands between the version and the vector file
unfoldable pub numbers : ℕ → ℕ → List ℕ → List ℕ → List ℕ
numbers control pointer general masks = big 4 control ++ big 8 pointer ++ registers 16 general ++ registers 8 masks

-- where the vector file begins: behind 4 bytes of length, 1 of version, 4 of control word, 8 of pointer, 16 * 8 and 8 * 8 of registers
abbrev pub file_at : ℕ
file_at = 209

module _ (v : Version) where
  abbrev pub file : FileForm
  file = file_form (is_packed v)

  -- what follows the length
  unfoldable pub content : State → List ℕ
  content s =
      (version_byte v ∷ []) ++ numbers s.control s.pointer s.general s.masks ++ file.put s.vectors

  -- the whole
  unfoldable pub saved_form : State → List ℕ
  saved_form s = big 4 (length (content s)) ++ content s

  -- R9.9: how many bytes it has, by the vector file
  unfoldable pub form_size : List ℕ → ℕ
  form_size vectors = file_at + length (file.put vectors)

  -- R9.3: the same places read back
  unfoldable pub loaded_state : List ℕ → State
  loaded_state bytes =
      record {
        control = number_in bytes 5 4;
        pointer = number_in bytes 9 8;
        general = table 16 (λ k. number_in bytes (17 + 8 * k) 8);
        masks = table 8 (λ k. number_in bytes (145 + 8 * k) 8);
        vectors = file.get (drop file_at bytes);
      }
