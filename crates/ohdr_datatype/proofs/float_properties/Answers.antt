-- Each of the seven fields is one step of the format, so the answer is its reading.
use Rattle.helpers.specs.Facts.{handed_on}
use Rattle.format.specs.Steps.{read_done, read_number}
use Rattle.ohdr_datatype.specs.DataTypes.{float_properties}
use Rattle.ohdr_datatype.proofs.float_properties.Goals as goal

pub returns-in_err-bit_offset : goal.returns-in_err-bit_offset
unfolding float_properties
returns-in_err-bit_offset c = rw (read_number, ← c.le_u16.ensures, c.in_err-bit_offset.was, handed_on c.from_residual.result c.in_err-bit_offset.field-0.0 c.from_residual.ensures.1)

pub returns-in_err-bit_precision : goal.returns-in_err-bit_precision
unfolding float_properties
returns-in_err-bit_precision c = rw (read_number, ← c.le_u16.ensures, c.in_ok-bit_offset.was, read_number, ← c.le_u16-2.ensures, c.in_err-bit_precision.was, handed_on c.from_residual-in_err-bit_precision.result c.in_err-bit_precision.field-0.0 c.from_residual-in_err-bit_precision.ensures.1)

pub returns-in_err-exponent_location : goal.returns-in_err-exponent_location
unfolding float_properties
returns-in_err-exponent_location c = rw (read_number, ← c.le_u16.ensures, c.in_ok-bit_offset.was, read_number, ← c.le_u16-2.ensures, c.in_ok-bit_precision.was, read_number, ← c.le_u8.ensures, c.in_err-exponent_location.was, handed_on c.from_residual-in_err-exponent_location.result c.in_err-exponent_location.field-0.0 c.from_residual-in_err-exponent_location.ensures.1)

pub returns-in_err-exponent_size : goal.returns-in_err-exponent_size
unfolding float_properties
returns-in_err-exponent_size c = rw (read_number, ← c.le_u16.ensures, c.in_ok-bit_offset.was, read_number, ← c.le_u16-2.ensures, c.in_ok-bit_precision.was, read_number, ← c.le_u8.ensures, c.in_ok-exponent_location.was, read_number, ← c.le_u8-2.ensures, c.in_err-exponent_size.was, handed_on c.from_residual-in_err-exponent_size.result c.in_err-exponent_size.field-0.0 c.from_residual-in_err-exponent_size.ensures.1)

pub returns-in_err-mantissa_location : goal.returns-in_err-mantissa_location
unfolding float_properties
returns-in_err-mantissa_location c = rw (read_number, ← c.le_u16.ensures, c.in_ok-bit_offset.was, read_number, ← c.le_u16-2.ensures, c.in_ok-bit_precision.was, read_number, ← c.le_u8.ensures, c.in_ok-exponent_location.was, read_number, ← c.le_u8-2.ensures, c.in_ok-exponent_size.was, read_number, ← c.le_u8-3.ensures, c.in_err-mantissa_location.was, handed_on c.from_residual-in_err-mantissa_location.result c.in_err-mantissa_location.field-0.0 c.from_residual-in_err-mantissa_location.ensures.1)

pub returns-in_err-mantissa_size : goal.returns-in_err-mantissa_size
unfolding float_properties
returns-in_err-mantissa_size c = rw (read_number, ← c.le_u16.ensures, c.in_ok-bit_offset.was, read_number, ← c.le_u16-2.ensures, c.in_ok-bit_precision.was, read_number, ← c.le_u8.ensures, c.in_ok-exponent_location.was, read_number, ← c.le_u8-2.ensures, c.in_ok-exponent_size.was, read_number, ← c.le_u8-3.ensures, c.in_ok-mantissa_location.was, read_number, ← c.le_u8-4.ensures, c.in_err-mantissa_size.was, handed_on c.from_residual-in_err-mantissa_size.result c.in_err-mantissa_size.field-0.0 c.from_residual-in_err-mantissa_size.ensures.1)

pub returns-in_err-exponent_bias : goal.returns-in_err-exponent_bias
unfolding float_properties
returns-in_err-exponent_bias c = rw (read_number, ← c.le_u16.ensures, c.in_ok-bit_offset.was, read_number, ← c.le_u16-2.ensures, c.in_ok-bit_precision.was, read_number, ← c.le_u8.ensures, c.in_ok-exponent_location.was, read_number, ← c.le_u8-2.ensures, c.in_ok-exponent_size.was, read_number, ← c.le_u8-3.ensures, c.in_ok-mantissa_location.was, read_number, ← c.le_u8-4.ensures, c.in_ok-mantissa_size.was, read_number, ← c.le_u32.ensures, c.in_err-exponent_bias.was, handed_on c.from_residual-in_err-exponent_bias.result c.in_err-exponent_bias.field-0.0 c.from_residual-in_err-exponent_bias.ensures.1)

pub returns : goal.returns
unfolding float_properties
returns c = rw (read_number, ← c.le_u16.ensures, c.in_ok-bit_offset.was, read_number, ← c.le_u16-2.ensures, c.in_ok-bit_precision.was, read_number, ← c.le_u8.ensures, c.in_ok-exponent_location.was, read_number, ← c.le_u8-2.ensures, c.in_ok-exponent_size.was, read_number, ← c.le_u8-3.ensures, c.in_ok-mantissa_location.was, read_number, ← c.le_u8-4.ensures, c.in_ok-mantissa_size.was, read_number, ← c.le_u32.ensures, c.in_ok-exponent_bias.was, read_done)
