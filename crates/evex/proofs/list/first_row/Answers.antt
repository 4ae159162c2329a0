-- `evex::list::first_row` meets its contract: the search passes the rows before it.
use Prim.Native.Nat.{◌+◌}
use lib.ListN.{take}
use Rattle.evex.specs.List.{rows}
use Rattle.evex.proofs.Search.{skips, without}
use Rattle.evex.proofs.list.first_row.Goals as goal

pub returns-then-prefix-eq2 : goal.returns-then-prefix-eq2
returns-then-prefix-eq2 c =
    λ map w.
    rw c.if-prefix-eq2.true
    (skips rows (c.start_of-number.result + 8) 2 map w c.args.opcode c.start_of-number.ensures.1)

pub returns : goal.returns
returns c =
    λ map w.
    let args = c.args in
    let number = c.start_of-number.result in
    skips rows number args.prefix map w args.opcode
    (without (take number rows) args.prefix args.opcode c.start_of-number.ensures.0)
