use Rattle.half.proofs.Places.{twice_lt, place_whole, place_rest}
use Rattle.half.proofs.rounding.place_of.Goals as goal

pub overflow_mul-result : goal.overflow_mul-result
overflow_mul-result c = record { fits = twice_lt c.args.t c.args.k c.ranges.t.fits c.requires.0 }

pub returns-then-q-k : goal.returns-then-q-k
returns-then-q-k c = place_whole c.args.t c.args.k c.ranges.t.fits c.if-q-k.true

pub returns-else-q-k : goal.returns-else-q-k
returns-else-q-k c = place_rest c.args.t c.args.k c.ranges.t.fits c.if-q-k.false
