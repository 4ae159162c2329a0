-- `store::mask_of` meets its contract: sixteen bits, and sixteen above them.
use Prim.Native.Nat.{◌%◌, ◌^◌, ◌<◌}
use mathlib.Core.Path.{ap, ◌∙◌}
use lib.Bits.{bit_or}
use lib.Dec.{lit≤}
use lib.ListN.{get_or}
use lib.Pow.{shl_exact}
use Rattle.lists.proofs.Binary.{from_halves}
use borrow.Author.Rules.{rules}
use Rattle.store.proofs.mask_of.Goals as goal

pub returns : goal.returns
returns c =
    let low : c.sixteen_bits.result < 2 ^ 16 = search rules in
    let high : c.sixteen_bits-2.result < 2 ^ 16 = search rules in
    rw (c.from.ensures, c.from-2.ensures)
    (ap (bit_or c.sixteen_bits.result) (shl_exact 16 16 32 high (lit≤ tt))
    ∙ from_halves (λ j. get_or c.args.halves j 0 % 2) c.sixteen_bits.ensures c.sixteen_bits-2.ensures low)
