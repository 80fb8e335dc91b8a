-- Each field, the padded name and the padded values are one step of the format.
use Rattle.helpers.specs.Facts.{handed_on}
use Rattle.ohdr_storage.specs.Storage.{filter1}
use borrow.Author.Tests.{lt-leb, le-leb}
use Rattle.format.specs.Steps.{read_number, read_skip, read_refuse}
use Rattle.ohdr_storage.proofs.filter_1.Goals as goal

pub returns-in_err-length_at : goal.returns-in_err-length_at
unfolding filter1
returns-in_err-length_at c = rw (read_number, ← c.le_u16.ensures, c.in_err-length_at.was, handed_on c.from_residual.result c.in_err-length_at.field-0.0 c.from_residual.ensures.1)

pub returns-in_err-name_length : goal.returns-in_err-name_length
unfolding filter1
returns-in_err-name_length c = rw (read_number, ← c.le_u16.ensures, c.in_ok-length_at.was, read_number, ← c.le_u16-2.ensures, c.in_err-name_length.was, handed_on c.from_residual-in_err-name_length.result c.in_err-name_length.field-0.0 c.from_residual-in_err-name_length.ensures.1)

pub returns-in_err-values_at : goal.returns-in_err-values_at
unfolding filter1
returns-in_err-values_at c = rw (read_number, ← c.le_u16.ensures, c.in_ok-length_at.was, read_number, ← c.le_u16-2.ensures, c.in_ok-name_length.was, read_number, ← c.le_u16-3.ensures, c.in_err-values_at.was, handed_on c.from_residual-in_err-values_at.result c.in_err-values_at.field-0.0 c.from_residual-in_err-values_at.ensures.1)

pub returns-in_err-values : goal.returns-in_err-values
unfolding filter1
returns-in_err-values c = rw (read_number, ← c.le_u16.ensures, c.in_ok-length_at.was, read_number, ← c.le_u16-2.ensures, c.in_ok-name_length.was, read_number, ← c.le_u16-3.ensures, c.in_ok-values_at.was, read_number, ← c.le_u16-4.ensures, c.in_err-values.was, handed_on c.from_residual-in_err-values.result c.in_err-values.field-0.0 c.from_residual-in_err-values.ensures.1)

pub returns-then-values-gt4096 : goal.returns-then-values-gt4096
unfolding filter1
returns-then-values-gt4096 c = rw (read_number, ← c.le_u16.ensures, c.in_ok-length_at.was, read_number, ← c.le_u16-2.ensures, c.in_ok-name_length.was, read_number, ← c.le_u16-3.ensures, c.in_ok-values_at.was, read_number, ← c.le_u16-4.ensures, c.in_ok-values.was, lt-leb _ _ c.if-values-gt4096.true, read_refuse)

pub returns-in_err-data_at : goal.returns-in_err-data_at
unfolding filter1
returns-in_err-data_at c = rw (read_number, ← c.le_u16.ensures, c.in_ok-length_at.was, read_number, ← c.le_u16-2.ensures, c.in_ok-name_length.was, read_number, ← c.le_u16-3.ensures, c.in_ok-values_at.was, read_number, ← c.le_u16-4.ensures, c.in_ok-values.was, le-leb _ _ c.if-values-gt4096.false, read_skip, ← c.take.ensures, c.in_err-data_at.was, handed_on c.from_residual-in_err-data_at.result c.in_err-data_at.field-0.0 c.from_residual-in_err-data_at.ensures.1)

pub returns-in_err-padding_at : goal.returns-in_err-padding_at
unfolding filter1
returns-in_err-padding_at c = rw (read_number, ← c.le_u16.ensures, c.in_ok-length_at.was, read_number, ← c.le_u16-2.ensures, c.in_ok-name_length.was, read_number, ← c.le_u16-3.ensures, c.in_ok-values_at.was, read_number, ← c.le_u16-4.ensures, c.in_ok-values.was, le-leb _ _ c.if-values-gt4096.false, read_skip, ← c.take.ensures, c.in_ok-data_at.was, read_skip, ← c.take-2.ensures, c.in_err-padding_at.was, handed_on c.from_residual-in_err-padding_at.result c.in_err-padding_at.field-0.0 c.from_residual-in_err-padding_at.ensures.1)

pub returns : goal.returns
unfolding filter1
returns c = rw (read_number, ← c.le_u16.ensures, c.in_ok-length_at.was, read_number, ← c.le_u16-2.ensures, c.in_ok-name_length.was, read_number, ← c.le_u16-3.ensures, c.in_ok-values_at.was, read_number, ← c.le_u16-4.ensures, c.in_ok-values.was, le-leb _ _ c.if-values-gt4096.false, read_skip, ← c.take.ensures, c.in_ok-data_at.was, read_skip, ← c.take-2.ensures, c.in_ok-padding_at.was, ← c.take-3.ensures)
