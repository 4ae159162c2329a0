use mathlib.Core.Path.{sym}
use Rattle.half.proofs.Places.{place_two}
use Rattle.half.proofs.sum.place_of_sum.Goals as goal

pub returns-then-k-eq1 : goal.returns-then-k-eq1
returns-then-k-eq1 c = rw c.if-k-eq1.true (sym (place_two c.args.m))
