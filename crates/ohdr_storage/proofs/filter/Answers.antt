-- The version chooses the filter, and what the call reads is the answer.
use Rattle.ohdr_storage.specs.Storage.{filter_of}
use borrow.Author.Tests.{ne_eqb}
use Rattle.ohdr_storage.proofs.filter.Goals as goal

pub returns-then-version-eq1 : goal.returns-then-version-eq1
unfolding filter_of
returns-then-version-eq1 c = rw c.if-version-eq1.true c.filter_1.ensures

pub returns-else-version-eq1 : goal.returns-else-version-eq1
unfolding filter_of
returns-else-version-eq1 c = rw (ne_eqb _ _ c.if-version-eq1.false) c.filter_2.ensures
