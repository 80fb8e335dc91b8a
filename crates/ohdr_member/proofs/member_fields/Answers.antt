-- The version chooses the fields, and what the call reads is the answer.
use Rattle.ohdr_member.specs.Members.{member_fields}
use borrow.Author.Tests.{eq-eqb, ne_eqb}
use Rattle.ohdr_member.proofs.member_fields.Goals as goal

pub returns-then-version-eq3 : goal.returns-then-version-eq3
unfolding member_fields
returns-then-version-eq3 c = rw (eq-eqb _ _ c.if-version-eq3.true) c.member_3.ensures

pub returns-else-version-eq3 : goal.returns-else-version-eq3
unfolding member_fields
returns-else-version-eq3 c = rw (ne_eqb _ _ c.if-version-eq3.false) c.member_1.ensures
