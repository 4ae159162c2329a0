-- `sources::memory_halves` meets its contract: the loop fills the halves lane by lane, and no lane is on behind them.
use Rattle.std.proofs.Common.{◌-◌, cond}
use Rattle.lists.specs.Lists.{number_at}
use Rattle.evex.specs.Bits.{is_set}
use Rattle.machine.specs.Memory.{word_from, word_bytes}
use Rattle.lists.proofs.Filling.{Filled}
use Rattle.sources.proofs.memory_halves.Given as goal

abbrev pub invariant-loop-j : goal.invariant-loop-j
invariant-loop-j l = Filled (λ k. cond (is_set l.on k) (number_at l.memory (word_bytes (word_from l.at l.broadcast k))) 0) 32 l.initial.halves l.halves l.j

abbrev pub decreases-loop-j : goal.decreases-loop-j
decreases-loop-j l = l.end - l.j
