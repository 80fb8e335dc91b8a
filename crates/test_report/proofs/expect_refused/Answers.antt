-- The bytes that are compared are the text.
use Rattle.test_report.specs.Report.{refused_of}
use Rattle.test_report.proofs.expect_refused.Goals as goal

pub returns : goal.returns
unfolding refused_of
returns c = c.expect_bytes.ensures
