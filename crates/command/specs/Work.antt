-- What the code finds of the input before it loads. No clause: used by the code, nothing to believe.
use Rattle.std.specs.Prelude.{ℕ, ◌≡◌, true, List, take}
use Rattle.forms.specs.Saved.{size_at}
use Rattle.command.specs.Command.{code_of, memory_of, is_laid_out}
use Rattle.command.specs.declared.Parts.{Parts}

-- the parts of input that is laid out
pub record AreParts (input : List ℕ) (parts : Parts) : Type 0 where
  pub laid_out : is_laid_out input ≡ true
  pub form : parts.form.now ≡ take (size_at input) input
  pub code : parts.code.now ≡ code_of input
  pub memory : parts.memory.now ≡ memory_of input
