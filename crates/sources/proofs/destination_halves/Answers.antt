-- `sources::destination_halves` meets its contract: by the kind of destination, and by the column.
use Rattle.std.proofs.Common.{◌≡◌, ℕ, Bool, false, cond, List}
use Rattle.lists.specs.Lists.{table}
use Rattle.machine.specs.Lanes.{no_halves}
use Rattle.sources.proofs.destination_halves.Goals as goal

pub returns-in_default : goal.returns-in_default
unfolding table
returns-in_default c = rw c.in_default.is

-- no source
is_none : (t : Bool) (whole : List ℕ) → t ≡ false → no_halves ≡ cond t whole no_halves
is_none t whole e = rw e

pub returns : goal.returns
unfolding table
returns c = rw c.in-Vector.is (is_none c.args.accumulates _ c.if-accumulates.false)
