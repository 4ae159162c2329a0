-- `lanes::way_of` meets its contract: three operations are what a predicate picks.
use Rattle.lanes.proofs.AtOnce.{minimum_serves, maximum_serves, compare_serves}
use Rattle.lanes.proofs.way_of.Goals as goal

pub returns-in-Minimum : goal.returns-in-Minimum
returns-in-Minimum c = minimum_serves c.args.e c.in-Minimum.is c.predicate_of.ensures

pub returns-in-Maximum : goal.returns-in-Maximum
returns-in-Maximum c = maximum_serves c.args.e c.in-Maximum.is c.predicate_of-in-Maximum.ensures

pub returns-in-Compare : goal.returns-in-Compare
returns-in-Compare c = compare_serves c.args.e c.in-Compare.is c.predicate_of-in-Compare.ensures
