-- The word, the piece and the newline are met one after another.
use Rattle.test_report.specs.Report.{data_of}
use Rattle.test_report.specs.FollowsLaws.{then}
use Rattle.test_report.proofs.expect_data.Goals as goal

pub returns : goal.returns
unfolding data_of
returns c = then c.expect_bytes-met.ensures (then c.expect_piece-met.ensures c.expect_bytes.ensures)
