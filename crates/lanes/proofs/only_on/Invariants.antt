-- `lanes::only_on` meets its contract: the loop fills the lanes, and or-s them.
use mathlib.Core.Bool.{cond}
use lib.ListN.{get_or}
use Rattle.lists.proofs.Filling.{Filled, Ored}
use Rattle.evex.specs.Bits.{is_set}
use Rattle.lanes.proofs.only_on.Given as goal

abbrev pub invariant-loop-j : goal.invariant-loop-j
invariant-loop-j l = Filled (λ k. cond (is_set l.on k) (get_or l.halves k 0) 0) 32 l.initial.lanes l.lanes l.j × Ored (λ k. cond (is_set l.on k) (get_or l.halves k 0) 0) l.joined l.j
