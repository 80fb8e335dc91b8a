-- Where they are present, what the call reads is the answer; else there are none.
use Rattle.ohdr_dataspace.specs.DataSpaces.{maximum_sizes}
use Rattle.format.specs.Steps.{read_done}
use Rattle.ohdr_dataspace.proofs.maximum_sizes.Goals as goal

pub returns-then-present : goal.returns-then-present
unfolding maximum_sizes
returns-then-present c = rw c.if-present.true c.dimensions.ensures

pub returns : goal.returns
unfolding maximum_sizes
returns c = rw (c.if-present.false, c.default.ensures, read_done)
