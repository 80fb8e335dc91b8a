-- Each field is one step of the format, and each test is the format's own.
use Rattle.helpers.specs.Facts.{handed_on}
use Rattle.format.specs.Steps.{read_done, read_refuse, read_number}
use Rattle.ohdr_datatype.specs.DataTypes.{data_type_header}
use borrow.Author.Tests.{lt-ltb, le-ltb}
use Rattle.ohdr_datatype.proofs.data_type_header.Goals as goal

pub returns-in_err-class_and_version : goal.returns-in_err-class_and_version
unfolding data_type_header
returns-in_err-class_and_version c = rw (read_number, ← c.le_u8.ensures, c.in_err-class_and_version.was, handed_on c.from_residual.result c.in_err-class_and_version.field-0.0 c.from_residual.ensures.1)

pub returns-then-not-known_type : goal.returns-then-not-known_type
unfolding data_type_header
returns-then-not-known_type c = rw (read_number, ← c.le_u8.ensures, c.in_ok-class_and_version.was, ← c.known_type.ensures, c.if-not-known_type.true, read_refuse)

pub returns-in_err-class_bit_field : goal.returns-in_err-class_bit_field
unfolding data_type_header
returns-in_err-class_bit_field c = rw (read_number, ← c.le_u8.ensures, c.in_ok-class_and_version.was, ← c.known_type.ensures, c.if-not-known_type.false, read_number, ← c.le_u24.ensures, c.in_err-class_bit_field.was, handed_on c.from_residual-in_err-class_bit_field.result c.in_err-class_bit_field.field-0.0 c.from_residual-in_err-class_bit_field.ensures.1)

pub returns-in_err-size : goal.returns-in_err-size
unfolding data_type_header
returns-in_err-size c = rw (read_number, ← c.le_u8.ensures, c.in_ok-class_and_version.was, ← c.known_type.ensures, c.if-not-known_type.false, read_number, ← c.le_u24.ensures, c.in_ok-class_bit_field.was, read_number, ← c.le_u32.ensures, c.in_err-size.was, handed_on c.from_residual-in_err-size.result c.in_err-size.field-0.0 c.from_residual-in_err-size.ensures.1)

pub returns-then-size-ge64 : goal.returns-then-size-ge64
unfolding data_type_header
returns-then-size-ge64 c = rw (read_number, ← c.le_u8.ensures, c.in_ok-class_and_version.was, ← c.known_type.ensures, c.if-not-known_type.false, read_number, ← c.le_u24.ensures, c.in_ok-class_bit_field.was, read_number, ← c.le_u32.ensures, c.in_ok-size.was, le-ltb _ _ c.if-size-ge64.true, read_refuse)

pub returns : goal.returns
unfolding data_type_header
returns c = rw (read_number, ← c.le_u8.ensures, c.in_ok-class_and_version.was, ← c.known_type.ensures, c.if-not-known_type.false, read_number, ← c.le_u24.ensures, c.in_ok-class_bit_field.was, read_number, ← c.le_u32.ensures, c.in_ok-size.was, lt-ltb _ _ c.if-size-ge64.false, read_done)
