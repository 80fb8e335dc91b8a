-- The head, the two pieces and what stands between them are met one after another.
use Rattle.test_report.specs.Report.{row_line}
use Rattle.test_report.specs.FollowsLaws.{then}
use Rattle.test_report.proofs.expect_row.Goals as goal

pub returns : goal.returns
unfolding row_line
returns c = then c.expect_head-met.ensures (then c.expect_piece-met.ensures (then c.expect_bytes-met.ensures (then c.expect_piece-met-2.ensures c.expect_bytes.ensures)))
