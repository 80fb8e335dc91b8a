-- The ends of the three parts give the input and what is expected, and the call compares them.
use Rattle.test_runner.specs.Laws.{input_is, expected_is}
use Rattle.test_runner.proofs.run_case.Goals as goal

pub returns-clause-step_is : goal.returns-clause-step_is
returns-clause-step_is c =
    let h = c.in_ok-case.ensures.case_out in
    (h, rw (← input_is h, ← expected_is h) c.passes-passed.ensures)
