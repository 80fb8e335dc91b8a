-- Each of the four numbers is one step of the format, so the answer is its reading.
use Rattle.helpers.specs.Facts.{handed_on}
use Rattle.format.specs.Steps.{read_number, read_done}
use Rattle.test_replayer.specs.Leads.{lead}
use Rattle.test_replayer.proofs.read_lead.Goals as goal

pub returns-in_err-offsets : goal.returns-in_err-offsets
unfolding lead
returns-in_err-offsets c = rw (read_number, ← c.le_u8.ensures, c.in_err-offsets.was, handed_on c.from_residual.result c.in_err-offsets.field-0.0 c.from_residual.ensures.1)

pub returns-in_err-lengths : goal.returns-in_err-lengths
unfolding lead
returns-in_err-lengths c = rw (read_number, ← c.le_u8.ensures, c.in_ok-offsets.was, read_number, ← c.le_u8-2.ensures, c.in_err-lengths.was, handed_on c.from_residual-in_err-lengths.result c.in_err-lengths.field-0.0 c.from_residual-in_err-lengths.ensures.1)

pub returns-in_err-end_of_file : goal.returns-in_err-end_of_file
unfolding lead
returns-in_err-end_of_file c = rw (read_number, ← c.le_u8.ensures, c.in_ok-offsets.was, read_number, ← c.le_u8-2.ensures, c.in_ok-lengths.was, read_number, ← c.le_u64.ensures, c.in_err-end_of_file.was, handed_on c.from_residual-in_err-end_of_file.result c.in_err-end_of_file.field-0.0 c.from_residual-in_err-end_of_file.ensures.1)

pub returns-in_err-position : goal.returns-in_err-position
unfolding lead
returns-in_err-position c = rw (read_number, ← c.le_u8.ensures, c.in_ok-offsets.was, read_number, ← c.le_u8-2.ensures, c.in_ok-lengths.was, read_number, ← c.le_u64.ensures, c.in_ok-end_of_file.was, read_number, ← c.le_u64-2.ensures, c.in_err-position.was, handed_on c.from_residual-in_err-position.result c.in_err-position.field-0.0 c.from_residual-in_err-position.ensures.1)

pub returns : goal.returns
unfolding lead
returns c = rw (read_number, ← c.le_u8.ensures, c.in_ok-offsets.was, read_number, ← c.le_u8-2.ensures, c.in_ok-lengths.was, read_number, ← c.le_u64.ensures, c.in_ok-end_of_file.was, read_number, ← c.le_u64-2.ensures, c.in_ok-position.was, read_done)
