-- The size is one step of the format, and so are the bytes passed over.
use Rattle.helpers.specs.Facts.{handed_on}
use Rattle.ohdr_storage.specs.Storage.{fill_value}
use Rattle.format.specs.Steps.{read_number}
use Rattle.ohdr_storage.proofs.message_data_fill_old.Goals as goal

pub returns-in_err-size : goal.returns-in_err-size
unfolding fill_value
returns-in_err-size c = rw (read_number, ← c.le_u32.ensures, c.in_err-size.was, handed_on c.from_residual.result c.in_err-size.field-0.0 c.from_residual.ensures.1)

pub returns : goal.returns
unfolding fill_value
returns c = rw (read_number, ← c.le_u32.ensures, c.in_ok-size.was, ← c.take.ensures)
