-- Each field and the values are one step of the format.
use Rattle.helpers.specs.Facts.{handed_on}
use Rattle.ohdr_storage.specs.Storage.{filter2}
use borrow.Author.Tests.{lt-leb, le-leb}
use Rattle.format.specs.Steps.{read_number, read_refuse}
use Rattle.ohdr_storage.proofs.filter_2.Goals as goal

pub returns-in_err-flags_at : goal.returns-in_err-flags_at
unfolding filter2
returns-in_err-flags_at c = rw (read_number, ← c.le_u16.ensures, c.in_err-flags_at.was, handed_on c.from_residual.result c.in_err-flags_at.field-0.0 c.from_residual.ensures.1)

pub returns-in_err-values_at : goal.returns-in_err-values_at
unfolding filter2
returns-in_err-values_at c = rw (read_number, ← c.le_u16.ensures, c.in_ok-flags_at.was, read_number, ← c.le_u16-2.ensures, c.in_err-values_at.was, handed_on c.from_residual-in_err-values_at.result c.in_err-values_at.field-0.0 c.from_residual-in_err-values_at.ensures.1)

pub returns-in_err-values : goal.returns-in_err-values
unfolding filter2
returns-in_err-values c = rw (read_number, ← c.le_u16.ensures, c.in_ok-flags_at.was, read_number, ← c.le_u16-2.ensures, c.in_ok-values_at.was, read_number, ← c.le_u16-3.ensures, c.in_err-values.was, handed_on c.from_residual-in_err-values.result c.in_err-values.field-0.0 c.from_residual-in_err-values.ensures.1)

pub returns-then-values-gt4096 : goal.returns-then-values-gt4096
unfolding filter2
returns-then-values-gt4096 c = rw (read_number, ← c.le_u16.ensures, c.in_ok-flags_at.was, read_number, ← c.le_u16-2.ensures, c.in_ok-values_at.was, read_number, ← c.le_u16-3.ensures, c.in_ok-values.was, lt-leb _ _ c.if-values-gt4096.true, read_refuse)

pub returns : goal.returns
unfolding filter2
returns c = rw (read_number, ← c.le_u16.ensures, c.in_ok-flags_at.was, read_number, ← c.le_u16-2.ensures, c.in_ok-values_at.was, read_number, ← c.le_u16-3.ensures, c.in_ok-values.was, le-leb _ _ c.if-values-gt4096.false, ← c.take.ensures)
