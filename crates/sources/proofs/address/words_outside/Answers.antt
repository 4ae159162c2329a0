-- `sources::address::words_outside` meets its contract: all words up to the last are inside, or the loop has found what the lanes that it
-- passed find; no lane is on behind them.
use Rattle.std.proofs.Common.{sym, ◌∙◌, le_trans, arith, leb-true}
use Rattle.evex.proofs.Bitwise.{bit_above}
use Rattle.machine.specs.Memory.{outside}
use Rattle.lists.proofs.Filling.{found_none, found_more, found_all}
use Rattle.sources.proofs.Words.{none_outside}
use Rattle.sources.proofs.address.words_outside.Goals as goal

pub returns-then-words_inside : goal.returns-then-words_inside
returns-then-words_inside c =
    let args = c.args in
    let end = c.end_of-end in
    none_outside args.on args.length args.at args.broadcast end.result end.ensures.0
    c.ranges.length.fits
    (leb-true _ _ (rw (← c.words_below.ensures) (sym c.words_inside.ensures ∙ c.if-words_inside.true)))

pub loop-j-init : goal.loop-j-init
loop-j-init c = found_none

pub loop-j-preserved : goal.loop-j-preserved
loop-j-preserved c = found_more c.loop-j.invariant (omega (arith, c.end_of-end.ensures.1)) c.lane_outside-found.ensures

pub returns : goal.returns
unfolding outside
returns c =
    let end = c.end_of-end in
    found_all c.loop-j.invariant (λ k h. rw (bit_above _ _ k end.ensures.0 (le_trans c.loop-j-test.false h)))
