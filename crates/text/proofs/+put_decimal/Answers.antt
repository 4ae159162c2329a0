-- `text::put_decimal` meets its contract: the last digit stands behind those of a tenth of the number.
use Rattle.std.proofs.Common.{◌≤◌, ◌/◌, length, arith}
use Rattle.text.specs.Text.{decimal}
use Rattle.text.proofs.Digits.{decimal_small, decimal_large, decimal_shorter}
use Rattle.text.proofs.Writing.{one, followed}
use Rattle.text.proofs.+put_decimal.Goals as goal

pub returns-then-x-lt10 : goal.returns-then-x-lt10
returns-then-x-lt10 t c = rw (decimal_small c.args.x c.if-x-lt10.true) (one c.args.out.now c.args.at _ (omega arith))

pub returns : goal.returns
returns t c =
    let shorter : length (decimal (c.args.x / 10)) ≤ 19 = decimal_shorter c.args.x c.if-x-lt10.false c.ranges.x.fits in
    rw (decimal_large c.args.x c.if-x-lt10.false c.ranges.x.fits)
    (followed (omega arith) c.put_decimal-last.ensures
    (one c.put_decimal-last.new.out c.put_decimal-last.result _
    (omega (arith, c.put_decimal-last.auto.out, c.put_decimal-last.ensures.place))))

pub bounds-out-last : goal.bounds-out-last
bounds-out-last t c =
    omega (
      arith,
      decimal_shorter c.args.x c.if-x-lt10.false c.ranges.x.fits,
      c.put_decimal-last.auto.out,
      c.put_decimal-last.ensures.place,
    )
