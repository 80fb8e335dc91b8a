-- A text that was met is all that is expected just where no byte is left; one that differs never is.
use Rattle.test_report.specs.FollowsLaws.{whole_at, whole_not}
use Rattle.test_report.proofs.ends.Goals as goal

pub returns-in-Some : goal.returns-in-Some
returns-in-Some c = rw c.in-Some.is (whole_at _ _)

pub returns-in-None : goal.returns-in-None
returns-in-None c = rw c.in-None.is (whole_not _)
