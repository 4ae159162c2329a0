-- `replayer::destination::shown_bytes` meets its contract: by the number, and by what the code is decoded to.
-- Assumes nothing.
use mathlib.Core.Path.{sym, ◌∙◌}
use Rattle.lists.specs.Lists.{table}
use Rattle.evex.proofs.Bounds.{bounds}
use Rattle.replayer.proofs.Showing.{shows_nothing, shows_refused, shows}
use Rattle.replayer.proofs.destination.shown_bytes.Goals as goal

pub returns-then-not-has_destination : goal.returns-then-not-has_destination
unfolding table
returns-then-not-has_destination c =
    shows_nothing c.args.code.now c.args.number c.args.vectors.now c.args.masks.now (sym c.has_destination.ensures ∙ c.if-not-has_destination.true)

pub returns-in_default : goal.returns-in_default
unfolding table
returns-in_default c =
    let has_destination = c.has_destination in
    let if1 = c.if-not-has_destination in
    let decode = c.decode-decoded in
    shows_refused c.args.code.now c.args.number c.args.vectors.now c.args.masks.now (sym
    has_destination.ensures ∙ if1.false) (sym decode.ensures ∙ c.in_default.is)

pub held_bytes-requires : goal.held_bytes-requires
held_bytes-requires c =
    let decode = c.decode-decoded in
    (bounds c.args.code.now (sym decode.ensures ∙ c.in-Ok.is)).destination

pub returns : goal.returns
returns c =
    let has_destination = c.has_destination in
    let if1 = c.if-not-has_destination in
    let decode = c.decode-decoded in
    shows c.args.code.now c.args.number c.args.vectors.now c.args.masks.now (sym has_destination.ensures ∙ if1.false) (sym decode.ensures ∙ c.in-Ok.is) c.held_bytes.ensures
