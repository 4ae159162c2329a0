-- `sources::address::words_outside` meets its contract: all words up to the last are inside, or the loop has found what the lanes that it
-- passed find; no lane is on behind them.
use Rattle.std.proofs.Common.{◌-◌, ◌&&◌, leb}
use Rattle.evex.specs.Bits.{is_set}
use Rattle.lists.specs.Lists.{some}
use Rattle.machine.specs.Memory.{word_from, word_bytes}
use Rattle.lists.proofs.Filling.{Found}
use Rattle.sources.proofs.address.words_outside.Given as goal

abbrev pub invariant-loop-j : goal.invariant-loop-j
invariant-loop-j l = Found 32 (λ k. is_set l.on k && some (λ a. leb l.length a) (word_bytes (word_from l.at l.broadcast k))) l.found l.j

abbrev pub decreases-loop-j : goal.decreases-loop-j
decreases-loop-j l = l.end - l.j
