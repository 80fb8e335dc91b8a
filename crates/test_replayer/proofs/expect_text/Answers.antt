-- By the text.
use Rattle.test_replayer.proofs.expect_text.Goals as goal

pub returns-in-Report : goal.returns-in-Report
returns-in-Report c = rw c.in-Report.is c.expect_report.ensures

pub returns-in-Numbers : goal.returns-in-Numbers
returns-in-Numbers c = rw c.in-Numbers.is c.expect_numbers.ensures
