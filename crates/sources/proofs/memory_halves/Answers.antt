-- `sources::memory_halves` meets its contract: the loop fills the halves lane by lane, and no lane is on behind them.
use Rattle.std.proofs.Common.{sym, ◌∙◌, le_trans}
use lib.ListN.{get_or-replicate}
use Rattle.evex.proofs.Bitwise.{bit_above}
use Rattle.machine.specs.Lanes.{memory_halves}
use Rattle.lists.proofs.Filling.{all}
use Rattle.sources.proofs.memory_halves.Goals as goal

pub returns : goal.returns
unfolding memory_halves
returns c =
    all c.loop-j.invariant
    (λ k h l. get_or-replicate 32 k 0 0 l ∙ sym (rw (bit_above _ _ k c.end_of-end.ensures.0 (le_trans c.loop-j-test.false h))))
