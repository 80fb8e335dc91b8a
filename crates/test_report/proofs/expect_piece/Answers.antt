-- A hyphen is met, or the length of the part and then its bytes, one after the other.
use Rattle.test_report.specs.Report.{piece_of}
use Rattle.test_report.specs.FollowsLaws.{then}
use Rattle.test_report.proofs.expect_piece.Goals as goal

pub returns-in-None : goal.returns-in-None
unfolding piece_of
returns-in-None c = rw c.in-None.is c.expect_field.ensures

pub returns-in-Some : goal.returns-in-Some
unfolding piece_of
returns-in-Some c = rw c.in-Some.is (then c.expect_field-met.ensures (rw (← c.layout_data-bytes.ensures) c.expect_bytes.ensures))
