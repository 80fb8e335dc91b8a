-- After each turn the tally is that of the cases so far, and the rest of the file begins here.
use Rattle.std.proofs.Common.{length, ◌-◌}
use Rattle.test_replayer.specs.Passes.{Says}
use Rattle.test_runner.specs.Runs.{Going}
use Rattle.test_runner.proofs.run.Given as goal

abbrev pub invariant-loop-at : goal.invariant-loop-at
invariant-loop-at g l = Going (Says l.against) l.cases l.at l.tally

abbrev pub decreases-loop-at : goal.decreases-loop-at
decreases-loop-at g l = length l.cases - l.at
