-- Each of the two fields is one step of the format, so the answer is its reading.
use Rattle.helpers.specs.Facts.{handed_on}
use Rattle.format.specs.Steps.{read_done, read_number}
use Rattle.ohdr_datatype.specs.DataTypes.{fixed_properties}
use Rattle.ohdr_datatype.proofs.fixed_properties.Goals as goal

pub returns-in_err-bit_offset : goal.returns-in_err-bit_offset
unfolding fixed_properties
returns-in_err-bit_offset c = rw (read_number, ← c.le_u16.ensures, c.in_err-bit_offset.was, handed_on c.from_residual.result c.in_err-bit_offset.field-0.0 c.from_residual.ensures.1)

pub returns-in_err-bit_precision : goal.returns-in_err-bit_precision
unfolding fixed_properties
returns-in_err-bit_precision c = rw (read_number, ← c.le_u16.ensures, c.in_ok-bit_offset.was, read_number, ← c.le_u16-2.ensures, c.in_err-bit_precision.was, handed_on c.from_residual-in_err-bit_precision.result c.in_err-bit_precision.field-0.0 c.from_residual-in_err-bit_precision.ensures.1)

pub returns : goal.returns
unfolding fixed_properties
returns c = rw (read_number, ← c.le_u16.ensures, c.in_ok-bit_offset.was, read_number, ← c.le_u16-2.ensures, c.in_ok-bit_precision.was, read_done)
