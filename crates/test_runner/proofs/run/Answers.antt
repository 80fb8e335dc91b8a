-- Each turn runs the case that begins here, and its parts stand in the file in their order.
use Rattle.test_runner.specs.Runs.{going_begins, going_on}
use Rattle.test_runner.proofs.run.Goals as goal

pub loop-at-init : goal.loop-at-init
loop-at-init g c = going_begins _ _

pub loop-at-preserved : goal.loop-at-preserved
loop-at-preserved g c = rw c.count-tally.ensures (going_on _ _ c.loop-at.invariant c.in-Some.ensures.step_is)
