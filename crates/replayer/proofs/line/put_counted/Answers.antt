-- `replayer::line::put_counted` meets its contract: one text behind the other, of which the second has 20 digits at most.
-- Assumes nothing.
use native.Mathlib.Omega.{arith}
use Rattle.text.proofs.Digits.{decimal_most}
use Rattle.text.proofs.Writing.{followed}
use Rattle.replayer.proofs.line.put_counted.Goals as goal

pub returns : goal.returns
returns c =
    let put_text = c.put_text-next in
    let put_decimal = c.put_decimal in (
      followed (omega arith) put_text.ensures put_decimal.ensures,
      omega (
        arith,
        decimal_most c.args.n,
        put_text.ensures.place,
        put_decimal.ensures.place,
        c.requires,
      ),
    )
