-- `evex::list::find` meets its contract: what is left of the list, searched, gives what the whole list gives.
use mathlib.Core.Path.{◌≡◌}
use lib.ListN.{drop}
use Rattle.evex.specs.List.{rows, find}
use Rattle.evex.proofs.list.find.Given as goal

abbrev pub invariant-loop-i : goal.invariant-loop-i
invariant-loop-i l = find (drop l.i rows) l.prefix l.map l.w l.opcode ≡ find rows l.prefix l.map l.w l.opcode
