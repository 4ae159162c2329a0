-- `evex::decode_row` meets its contract: each `return` is a case of the law of Order.antt.
use borrow.Author.Tests.{lt-ltb, le-ltb}
use Rattle.evex.specs.Decode.{bytes_missing}
use Rattle.evex.proofs.Order.{after_list}
use Rattle.evex.proofs.decode_row.Goals as goal

pub returns-then-is_reserved : goal.returns-then-is_reserved
returns-then-is_reserved c =
    rw (after_list c.args.code.now c.args.form.head c.args.form.row, ← c.is_reserved.ensures, c.if-is_reserved.true)

pub returns-then-code-size : goal.returns-then-code-size
unfolding bytes_missing
returns-then-code-size c =
    rw (
      after_list c.args.code.now c.args.form.head c.args.form.row,
      ← c.is_reserved.ensures,
      c.if-is_reserved.false,
      ← c.size.ensures,
      lt-ltb _ _ c.if-code-size.true,
    )

pub returns : goal.returns
unfolding bytes_missing
returns c =
    rw (
      c.instruction.ensures,
      after_list c.args.code.now c.args.form.head c.args.form.row,
      ← c.is_reserved.ensures,
      c.if-is_reserved.false,
      ← c.size.ensures,
      le-ltb _ _ c.if-code-size.false,
    )
