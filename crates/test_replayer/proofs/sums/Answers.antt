-- Four bytes are compared as a number with the sum; another number of bytes is no sum.
use Rattle.test_replayer.specs.Laws.{sum_compared, sum_other}
use Rattle.test_replayer.proofs.sums.Goals as goal

pub returns-then-expected-eq4 : goal.returns-then-expected-eq4
returns-then-expected-eq4 c = sum_compared _ _ c.if-expected-eq4.true c.bytes_4.ensures.0 c.lookup3.ensures

pub returns : goal.returns
returns c = sum_other _ _ c.if-expected-eq4.false
