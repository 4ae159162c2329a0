-- `saved::size_at` meets its contract: the number of the first four bytes, or of as many as there are.
use native.Mathlib.Omega.{arith}
use Rattle.saved.proofs.Loading.{field}
use Rattle.saved.proofs.size_at.Goals as goal

pub overflow_add-result : goal.overflow_add-result
overflow_add-result c = omega (arith, (field c.args.bytes.now c.min-end.ensures c.read_number.ensures).1)

pub returns : goal.returns
returns c = field c.args.bytes.now c.min-end.ensures c.read_number.ensures
