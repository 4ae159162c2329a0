-- `parts::clear` meets its contract: as many zeros as the part has bytes. Assumes nothing.
use lib.ListN.{length, replicate}
use mathlib.Core.Path.{◌∙◌}
use Rattle.std.proofs.lemmas.List.{length-replicate, get_or-replicate}
use Rattle.lists.proofs.Tables.{is_table}
use Rattle.parts.proofs.clear.Goals as goal

pub returns : goal.returns
returns c =
    let n = length c.args.part.now in
    c.fill.ensures.after (λ y e. e) ∙ is_table n (λ k. 0) 0 (replicate n 0) (length-replicate n 0) (λ k h. get_or-replicate n k 0 0 h)
