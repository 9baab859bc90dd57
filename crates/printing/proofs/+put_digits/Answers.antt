-- The digits of a tenth, and the last digit behind them.
use Rattle.std.proofs.Common.{arith}
use Rattle.printing.proofs.Storing.{digits_length, one_digit, more_digits}
use Rattle.printing.proofs.+put_digits.Goals as goal

pub returns-then-n-lt10 : goal.returns-then-n-lt10
returns-then-n-lt10 t c = one_digit c.args.n c.if-n-lt10.true c.store.ensures

pub put_digits-next-requires : goal.put_digits-next-requires
put_digits-next-requires t c = (omega arith, omega (arith, digits_length c.args.n c.if-n-lt10.false))

pub overflow_add-result-2 : goal.overflow_add-result-2
overflow_add-result-2 t c = omega (arith, c.put_digits-next.ensures.next, digits_length c.args.n c.if-n-lt10.false)

pub returns : goal.returns
returns t c = more_digits c.args.n c.if-n-lt10.false c.put_digits-next.ensures c.store-2.ensures
