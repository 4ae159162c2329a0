use Rattle.std.proofs.Common.{refl}
use Rattle.lists.specs.Lists.{table}
use Rattle.forms.specs.Saved.{blank}
use Rattle.saved.proofs.zeroed.Goals as goal

pub returns : goal.returns
unfolding blank table
returns c = refl
