-- `store::store_vector` meets its contract: by the column.
use Rattle.store.proofs.store_vector.Goals as goal

pub returns-then-shape : goal.returns-then-shape
returns-then-shape c =
    rw (
      c.store_scalar.ensures,
      c.upper_from.ensures.0,
      c.lanes_kept-kept.ensures,
      c.if-shape.true,
    )

pub returns : goal.returns
returns c =
    rw (
      c.store_packed.ensures,
      c.lanes_kept-kept.ensures,
      c.if-shape.false,
    )
