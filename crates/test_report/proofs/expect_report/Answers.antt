-- The first word tells a refusal from a reading; then the parts are met one after another.
use Rattle.test_report.specs.Report.{answer_of, report_of}
use Rattle.test_report.specs.FollowsLaws.{then}
use borrow.Author.Tests.{ne_eqb, eq-eqb}
use Rattle.test_report.proofs.expect_report.Goals as goal

pub returns-then-words-ne0 : goal.returns-then-words-ne0
unfolding report_of
returns-then-words-ne0 c = rw (ne_eqb _ _ c.if-words-ne0.true) c.expect_refused.ensures

pub returns : goal.returns
unfolding report_of answer_of
returns c = rw (eq-eqb _ _ c.if-words-ne0.false) (then c.expect_bytes-met.ensures (then c.expect_words-met.ensures (then c.expect_rows-met.ensures (then c.expect_records-met.ensures c.expect_data.ensures))))
