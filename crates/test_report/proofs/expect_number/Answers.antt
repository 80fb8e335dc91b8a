-- The two figures are met one after another.
use Rattle.test_report.specs.Report.{number_line}
use Rattle.test_report.specs.FollowsLaws.{then}
use Rattle.test_report.proofs.expect_number.Goals as goal

pub returns : goal.returns
unfolding number_line
returns c = then c.expect_field-met.ensures c.expect_field.ensures
