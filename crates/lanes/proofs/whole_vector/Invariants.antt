-- `lanes::whole_vector` meets its contract: the loop fills the results lane by lane, and or-s the halves and the flags.
use Rattle.lists.proofs.Filling.{Filled, Ored}
use Rattle.lanes.specs.Work.{picked_at}
use Rattle.lanes.proofs.whole_vector.Given as goal

abbrev pub invariant-loop-j : goal.invariant-loop-j
invariant-loop-j l =
    let lane = picked_at l.p l.f l.x in
    Filled (λ k. (lane k).value) 32 l.initial.halves l.halves l.j
    × Ored (λ k. (lane k).value) l.joined l.j
    × Ored (λ k. (lane k).flags) l.flags l.j
