-- Each call meets the line of one row.
use Rattle.test_report.specs.Report.{number_line}
use Rattle.std.proofs.Common.{rules}
use Rattle.test_report.specs.FollowsLaws.{each}
use Rattle.test_report.proofs.expect_row_numbers.Goals as goal

pub returns : goal.returns
returns c = each c.args.expected.now number_line _ _ _ c.expect_each.ensures (λ m r n w. search rules)
