-- `text::put_hex` meets its contract: after k turns the first k digits are put. Assumes nothing.
use Prim.Native.Nat.{◌+◌, ◌-◌, ◌<◌}
use mathlib.Core.Path.{◌≡◌}
use mathlib.Core.List.{append_assoc}
use native.Mathlib.Omega.{arith}
use lib.Seq.{drop-drop}
use Rattle.text.specs.Text.{hex8}
use Rattle.lists.proofs.Filling.{more, full}
use Rattle.text.proofs.Digits.{hex_shift, hex_eight}
use Rattle.text.proofs.put_hex.Goals as goal

pub loop-k-preserved : goal.loop-k-preserved
loop-k-preserved c =
    let h : c.loop-k.k < 8 = omega (arith, c.loop-k.invariant.size) in
    more c.loop-k.invariant h (rw (← hex_shift c.loop-k.k h) c.hex_digit.ensures)

pub returns : goal.returns
unfolding hex8
returns c =
    let e : c.loop-k.digit-items ≡ hex8 c.args.x = full c.loop-k.invariant (omega (arith, c.loop-k.invariant.size)) in
    let n : (c.args.at + 8) - c.args.at ≡ 8 = omega arith in
    rw (e, n) (record { place = rw (hex_eight c.args.x); buffer = rw (hex_eight c.args.x, drop-drop, append_assoc) })
