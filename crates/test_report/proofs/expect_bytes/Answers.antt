-- The bytes stand next just where what is left begins with them.
use Rattle.test_report.specs.FollowsLaws.{behind_end, next_is, next_is_not}
use Rattle.std.proofs.Common.{rules, ◌<◌, length}
use Rattle.test_report.proofs.expect_bytes.Goals as goal

pub returns-in_err-rest : goal.returns-in_err-rest
returns-in_err-rest c =
    let h : length c.args.expected.now < c.in_ok-at.at = search rules in
    rw (c.in_ok-at.was, c.from_residual-in_err-rest.ensures) (behind_end _ _ _ h (search rules))

pub returns-then-starts_with : goal.returns-then-starts_with
returns-then-starts_with c = rw c.in_ok-at.was (next_is _ _ _ _ c.in_ok-rest.ensures.lookup.0.2 _ c.starts_with.ensures.value c.if-starts_with.true)

pub returns-else-starts_with : goal.returns-else-starts_with
returns-else-starts_with c = rw c.in_ok-at.was (next_is_not _ _ _ _ c.in_ok-rest.ensures.lookup.0.2 _ c.starts_with.ensures.value c.if-starts_with.false)
