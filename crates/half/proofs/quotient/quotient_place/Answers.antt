use Rattle.half.proofs.Quotients.{place_even, place_odd}
use Rattle.half.proofs.quotient.quotient_place.Goals as goal

pub returns-then-n-y-eq0 : goal.returns-then-n-y-eq0
returns-then-n-y-eq0 c = place_even c.args.n c.args.y c.if-n-y-eq0.true

pub returns-else-n-y-eq0 : goal.returns-else-n-y-eq0
returns-else-n-y-eq0 c = place_odd c.args.n c.args.y c.if-n-y-eq0.false
