-- `parts::packing::size_in` meets its contract: the size by the word that was read.
use mathlib.Core.Path.{◌∙◌}
use Rattle.forms.specs.File.{packed_size}
use Rattle.parts.proofs.packing.size_in.Goals as goal

pub returns : goal.returns
unfolding packed_size
returns c = (c.size_by.ensures.0 ∙ rw c.word_in.ensures, c.size_by.ensures.1)
