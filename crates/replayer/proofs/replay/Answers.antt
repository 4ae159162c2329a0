-- `replayer::replay` meets its contract: the saved form is cut, does not load, or loads (Loading.antt).
-- Assumes nothing.
use mathlib.Core.Path.{refl}
use Rattle.forms.proofs.Refusals.{some_number}
use Rattle.saved.proofs.Moving.{from_blank}
use Rattle.replayer.proofs.Loading.{cut, not_loaded, replays}
use Rattle.replayer.proofs.replay.Goals as goal

pub returns-in_default : goal.returns-in_default
returns-in_default c = cut c.args.recording.now c.size_at.ensures.0 c.in_default.ensures.cases

pub returns-in_default-load_own : goal.returns-in_default-load_own
returns-in_default-load_own c =
    not_loaded c.args.recording.now c.size_at.ensures.0 c.in-Some.ensures.cases
    (from_blank _ c.zeroed-own.ensures c.in_default-load_own.ensures) (some_number _)

pub returns : goal.returns
returns c =
    replays c.args.recording.now c.size_at.ensures.0 c.in-Some.ensures.cases (from_blank _ c.zeroed-own.ensures c.in-Ok.ensures) refl
    c.replay_items.ensures
