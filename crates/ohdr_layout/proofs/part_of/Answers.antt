-- Empty or not: the test is that of the definition.
use borrow.Author.Tests.{ne_eqb}
use Rattle.ohdr_layout.proofs.part_of.Goals as goal

pub returns-then-size-eq0 : goal.returns-then-size-eq0
returns-then-size-eq0 c = rw c.if-size-eq0.true

pub returns-else-size-eq0 : goal.returns-else-size-eq0
returns-else-size-eq0 c = rw (ne_eqb _ _ c.if-size-eq0.false)
