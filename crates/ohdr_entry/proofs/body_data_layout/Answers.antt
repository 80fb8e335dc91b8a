-- What the layout's reading gives is shown as its part, or it is refused alike.
use Rattle.helpers.specs.Facts.{handed_on}
use Rattle.ohdr_entry.specs.Entries.{layout_body}
use Rattle.format.specs.Steps.{read_bind, read_done}
use Rattle.ohdr_entry.proofs.body_data_layout.Goals as goal

pub returns-in_err-layout : goal.returns-in_err-layout
unfolding layout_body
returns-in_err-layout c = rw (read_bind, ← c.message_data_layout.ensures, c.in_err-layout.was, handed_on c.from_residual.result c.in_err-layout.field-0.0 c.from_residual.ensures.1)

pub returns : goal.returns
unfolding layout_body
returns c = rw (read_bind, ← c.message_data_layout.ensures, c.in_ok-layout.was, read_done)
