-- The size is one step of the format, and so are the bytes passed over.
use Rattle.helpers.specs.Facts.{handed_on}
use Rattle.ohdr_layout.specs.DataLayouts.{compact}
use Rattle.format.specs.Steps.{read_number, read_skip, read_done}
use Rattle.ohdr_layout.proofs.layout_compact.Goals as goal

pub returns-in_err-size : goal.returns-in_err-size
unfolding compact
returns-in_err-size c = rw (read_number, ← c.le_u16.ensures, c.in_err-size.was, handed_on c.from_residual.result c.in_err-size.field-0.0 c.from_residual.ensures.1)

pub returns-in_err-next : goal.returns-in_err-next
unfolding compact
returns-in_err-next c = rw (read_number, ← c.le_u16.ensures, c.in_ok-size.was, read_skip, ← c.take.ensures, c.in_err-next.was, handed_on c.from_residual-in_err-next.result c.in_err-next.field-0.0 c.from_residual-in_err-next.ensures.1)

pub returns : goal.returns
unfolding compact
returns c = rw (read_number, ← c.le_u16.ensures, c.in_ok-size.was, read_skip, ← c.take.ensures, c.in_ok-next.was, read_done)
