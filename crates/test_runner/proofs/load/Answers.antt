-- A read counts no more bytes than the buffer has, and not all of them are counted here.
use Rattle.std.proofs.Common.{arith}
use Rattle.test_runner.proofs.load.Goals as goal

pub returns : goal.returns
returns g c = omega arith
