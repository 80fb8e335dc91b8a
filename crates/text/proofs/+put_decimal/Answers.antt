-- Below 10 it is one digit; else the digits of n / 10 are written first, and n / 10 is smaller.
use Rattle.std.proofs.Common.{arith}
use Rattle.text.proofs.Laws.{decimal_one, decimal_more, decimal_long, decimal_short, then}
use borrow.Author.Rules.{rules}
use Rattle.text.proofs.+put_decimal.Goals as goal

pub put_byte-requires : goal.put_byte-requires
put_byte-requires t c = omega (arith, decimal_short c.args.n c.if-n-lt10.true)

pub returns-then-n-lt10 : goal.returns-then-n-lt10
returns-then-n-lt10 t c = rw (decimal_one c.args.n c.if-n-lt10.true) c.put_byte.ensures

pub put_decimal-last-requires : goal.put_decimal-last-requires
put_decimal-last-requires t c = (search rules, omega (arith, decimal_long c.args.n c.if-n-lt10.false))

pub put_byte-requires-2 : goal.put_byte-requires-2
put_byte-requires-2 t c = omega (arith, decimal_long c.args.n c.if-n-lt10.false, c.put_decimal-last.auto.out)

pub returns : goal.returns
returns t c = rw (decimal_more c.args.n c.if-n-lt10.false) (then c.put_decimal-last.ensures c.put_byte-2.ensures)
