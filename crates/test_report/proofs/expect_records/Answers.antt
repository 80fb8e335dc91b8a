-- Each record's word and its figures are met one after another.
use Rattle.test_report.specs.Report.{records_of}
use Rattle.test_report.specs.FollowsLaws.{then}
use Rattle.test_report.proofs.expect_records.Goals as goal

pub returns : goal.returns
unfolding records_of
returns c = then c.expect_bytes-met.ensures (then c.expect_words-met.ensures (then c.expect_bytes-met-2.ensures (then c.expect_words-met-2.ensures (then c.expect_bytes-met-3.ensures (then c.expect_words-met-3.ensures (then c.expect_bytes-met-4.ensures (then c.expect_words-met-4.ensures (then c.expect_bytes-met-5.ensures (then c.expect_words-met-5.ensures (then c.expect_bytes-met-6.ensures c.expect_words.ensures))))))))))
