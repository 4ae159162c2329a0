-- `lanes::one_by_one` meets its contract: the loop fills the results lane by lane, and or-s the halves and the flags; no lane is on
-- behind them.
use mathlib.Core.Bool.{cond}
use Rattle.evex.specs.Bits.{is_set}
use Rattle.machine.specs.Lanes.{element_at}
use Rattle.lists.proofs.Filling.{Filled, Ored}
use Rattle.lanes.proofs.one_by_one.Given as goal

abbrev pub invariant-loop-j : goal.invariant-loop-j
invariant-loop-j l =
    let element = element_at l.operation l.e (record { destination = l.d; first = l.f; second = l.x }) in
    Filled (λ k. cond (is_set l.on k) (element k).value 0) 32 l.initial.halves l.halves l.j
    × Ored (λ k. cond (is_set l.on k) (element k).value 0) l.joined l.j
    × Ored (λ k. cond (is_set l.on k) (element k).flags 0) l.flags l.j
