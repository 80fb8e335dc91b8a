-- Each field is one step of the format, and each test is the format's own.
use Rattle.helpers.specs.Facts.{handed_on}
use Rattle.ohdr_attribute.specs.Attributes.{attribute_fields}
use Rattle.format.specs.Steps.{read_number, read_bind, read_refuse, read_done}
use borrow.Author.Tests.{le-leb, lt-leb}
use Rattle.ohdr_attribute.proofs.attribute_fields.Goals as goal

pub returns-in_err-version : goal.returns-in_err-version
unfolding attribute_fields
returns-in_err-version c = rw (read_number, ← c.le_u8.ensures, c.in_err-version.was, handed_on c.from_residual.result c.in_err-version.field-0.0 c.from_residual.ensures.1)

pub returns-then-not-known_version : goal.returns-then-not-known_version
unfolding attribute_fields
returns-then-not-known_version c = rw (read_number, ← c.le_u8.ensures, c.in_ok-version.was, ← c.known_version.ensures, c.if-not-known_version.true, read_refuse)

pub returns-in_err-name_size_at : goal.returns-in_err-name_size_at
unfolding attribute_fields
returns-in_err-name_size_at c = rw (read_number, ← c.le_u8.ensures, c.in_ok-version.was, ← c.known_version.ensures, c.if-not-known_version.false, read_number, ← c.le_u8-2.ensures, c.in_err-name_size_at.was, handed_on c.from_residual-in_err-name_size_at.result c.in_err-name_size_at.field-0.0 c.from_residual-in_err-name_size_at.ensures.1)

pub returns-in_err-name_size : goal.returns-in_err-name_size
unfolding attribute_fields
returns-in_err-name_size c = rw (read_number, ← c.le_u8.ensures, c.in_ok-version.was, ← c.known_version.ensures, c.if-not-known_version.false, read_number, ← c.le_u8-2.ensures, c.in_ok-name_size_at.was, read_number, ← c.le_u16.ensures, c.in_err-name_size.was, handed_on c.from_residual-in_err-name_size.result c.in_err-name_size.field-0.0 c.from_residual-in_err-name_size.ensures.1)

pub returns-then-name_size-gt4096 : goal.returns-then-name_size-gt4096
unfolding attribute_fields
returns-then-name_size-gt4096 c = rw (read_number, ← c.le_u8.ensures, c.in_ok-version.was, ← c.known_version.ensures, c.if-not-known_version.false, read_number, ← c.le_u8-2.ensures, c.in_ok-name_size_at.was, read_number, ← c.le_u16.ensures, c.in_ok-name_size.was, lt-leb _ _ c.if-name_size-gt4096.true, read_refuse)

pub returns-in_err-space_size_at : goal.returns-in_err-space_size_at
unfolding attribute_fields
returns-in_err-space_size_at c = rw (read_number, ← c.le_u8.ensures, c.in_ok-version.was, ← c.known_version.ensures, c.if-not-known_version.false, read_number, ← c.le_u8-2.ensures, c.in_ok-name_size_at.was, read_number, ← c.le_u16.ensures, c.in_ok-name_size.was, le-leb _ _ c.if-name_size-gt4096.false, read_number, ← c.le_u16-2.ensures, c.in_err-space_size_at.was, handed_on c.from_residual-in_err-space_size_at.result c.in_err-space_size_at.field-0.0 c.from_residual-in_err-space_size_at.ensures.1)

pub returns-in_err-encoding_at : goal.returns-in_err-encoding_at
unfolding attribute_fields
returns-in_err-encoding_at c = rw (read_number, ← c.le_u8.ensures, c.in_ok-version.was, ← c.known_version.ensures, c.if-not-known_version.false, read_number, ← c.le_u8-2.ensures, c.in_ok-name_size_at.was, read_number, ← c.le_u16.ensures, c.in_ok-name_size.was, le-leb _ _ c.if-name_size-gt4096.false, read_number, ← c.le_u16-2.ensures, c.in_ok-space_size_at.was, read_number, ← c.le_u16-3.ensures, c.in_err-encoding_at.was, handed_on c.from_residual-in_err-encoding_at.result c.in_err-encoding_at.field-0.0 c.from_residual-in_err-encoding_at.ensures.1)

pub returns-in_err-next : goal.returns-in_err-next
unfolding attribute_fields
returns-in_err-next c = rw (read_number, ← c.le_u8.ensures, c.in_ok-version.was, ← c.known_version.ensures, c.if-not-known_version.false, read_number, ← c.le_u8-2.ensures, c.in_ok-name_size_at.was, read_number, ← c.le_u16.ensures, c.in_ok-name_size.was, le-leb _ _ c.if-name_size-gt4096.false, read_number, ← c.le_u16-2.ensures, c.in_ok-space_size_at.was, read_number, ← c.le_u16-3.ensures, c.in_ok-encoding_at.was, read_bind, ← c.encoding_byte.ensures, c.in_err-next.was, handed_on c.from_residual-in_err-next.result c.in_err-next.field-0.0 c.from_residual-in_err-next.ensures.1)

pub returns : goal.returns
unfolding attribute_fields
returns c = rw (read_number, ← c.le_u8.ensures, c.in_ok-version.was, ← c.known_version.ensures, c.if-not-known_version.false, read_number, ← c.le_u8-2.ensures, c.in_ok-name_size_at.was, read_number, ← c.le_u16.ensures, c.in_ok-name_size.was, le-leb _ _ c.if-name_size-gt4096.false, read_number, ← c.le_u16-2.ensures, c.in_ok-space_size_at.was, read_number, ← c.le_u16-3.ensures, c.in_ok-encoding_at.was, read_bind, ← c.encoding_byte.ensures, c.in_ok-next.was, read_done)
