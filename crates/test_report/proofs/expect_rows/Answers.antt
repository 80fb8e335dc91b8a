-- Each call meets the line of one row.
use Rattle.test_report.specs.Report.{row_line}
use Rattle.std.proofs.Common.{rules}
use Rattle.test_report.specs.FollowsLaws.{each}
use Rattle.test_report.proofs.expect_rows.Goals as goal

pub returns : goal.returns
returns c = each c.args.expected.now (row_line c.args.file.now) _ _ _ c.expect_each.ensures (λ m r n w. search rules)
