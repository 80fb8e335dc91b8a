-- Each case has its line: the figures, or the refusal's number.
use Rattle.test_replayer.specs.Checks.{check_line}
use Rattle.test_replayer.proofs.put_checked.Goals as goal

pub returns-in-Ok : goal.returns-in-Ok
unfolding check_line
returns-in-Ok c = rw c.in-Ok.is c.put_passed.ensures

pub returns-in-Err : goal.returns-in-Err
unfolding check_line
returns-in-Err c = rw (c.in-Err.is, ← c.number-number.ensures) c.put_refused.ensures
