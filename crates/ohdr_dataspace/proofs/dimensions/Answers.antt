-- The reading of the sizes from the start is the reading of those left from here, turn by turn.
use Rattle.ohdr_dataspace.specs.Facts.{dimensions_from_none, dimensions_from_more}
use Rattle.ohdr_dataspace.specs.DataSpaces.{dimensions}
use Rattle.helpers.specs.Facts.{handed_on}
use Rattle.format.specs.Steps.{read_bind, read_done}
use borrow.Author.Rules.{rules}
use native.Mathlib.Nat.{sub-zero}
use Rattle.ohdr_dataspace.proofs.dimensions.Goals as goal

pub loop-i-init : goal.loop-i-init
loop-i-init c = (search rules, rw sub-zero)

pub returns-in_err-size : goal.returns-in_err-size
unfolding dimensions
returns-in_err-size c = rw (read_bind, c.loop-i.invariant.1, dimensions_from_more _ _ _ _ _ c.loop-i-test.true, read_bind, ← c.dimension.ensures, c.in_err-size.was, handed_on c.from_residual.result c.in_err-size.field-0.0 c.from_residual.ensures.1)

pub loop-i-preserved : goal.loop-i-preserved
loop-i-preserved c = (search rules, rw (c.loop-i.invariant.1, dimensions_from_more _ _ _ _ _ c.loop-i-test.true, read_bind, ← c.dimension.ensures, c.in_ok-size.was))

pub returns : goal.returns
unfolding dimensions
returns c = rw (read_bind, c.loop-i.invariant.1, dimensions_from_none _ _ _ _ _ c.loop-i-test.false, read_done, read_done)
