-- `text::put_hex` meets its contract: after k turns the first k digits are put. Assumes nothing.
use Prim.Native.Nat.{◌-◌, ◌/◌, ◌%◌, ◌^◌}
use Rattle.lists.proofs.Filling.{Filled}
use Rattle.text.specs.Text.{hex_digit}
use Rattle.text.proofs.put_hex.Given as goal

abbrev pub invariant-loop-k : goal.invariant-loop-k
invariant-loop-k l = Filled (λ j. hex_digit (l.x / 16 ^ (7 - j) % 16)) 8 l.initial.digit-items l.digit-items l.k
