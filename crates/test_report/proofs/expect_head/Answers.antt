-- The four figures are met one after another.
use Rattle.test_report.specs.Report.{head_of}
use Rattle.test_report.specs.FollowsLaws.{then}
use Rattle.test_report.proofs.expect_head.Goals as goal

pub returns : goal.returns
unfolding head_of
returns c = then c.expect_field-met.ensures (then c.expect_field-met-2.ensures (then c.expect_field-met-3.ensures c.expect_field.ensures))
