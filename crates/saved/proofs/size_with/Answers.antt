-- `saved::size_with` meets its contract: the size by the file's word.
use mathlib.Core.Path.{◌∙◌}
use Rattle.saved.proofs.Saving.{size_by_word}
use Rattle.saved.proofs.size_with.Goals as goal

pub returns : goal.returns
returns c =
    size_by_word c.args.version c.args.vectors.now c.told-vectors
    (c.file_word.ensures ∙ rw c.is_packed.ensures) c.form_size.ensures
