-- The size is tested as the format tests it, and then that many bytes are passed over.
use Rattle.helpers.specs.Facts.{handed_on}
use Rattle.ohdr_attribute.specs.Attributes.{list_value}
use Rattle.format.specs.Steps.{read_skip, read_refuse, read_done}
use borrow.Author.Tests.{le-leb, lt-leb}
use Rattle.ohdr_attribute.proofs.list_value.Goals as goal

pub returns-then-size-gt12 : goal.returns-then-size-gt12
unfolding list_value
returns-then-size-gt12 c = rw (lt-leb _ _ c.if-size-gt12.true, read_refuse)

pub returns-in_err-next : goal.returns-in_err-next
unfolding list_value
returns-in_err-next c = rw (le-leb _ _ c.if-size-gt12.false, read_skip, ← c.take.ensures, c.in_err-next.was, handed_on c.from_residual.result c.in_err-next.field-0.0 c.from_residual.ensures.1)

pub returns : goal.returns
unfolding list_value
returns c = rw (le-leb _ _ c.if-size-gt12.false, read_skip, ← c.take.ensures, c.in_ok-next.was, read_done)
