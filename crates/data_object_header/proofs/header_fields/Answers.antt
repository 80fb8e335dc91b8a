-- Signature, version, flags, times and chunk size are each one step of the format.
use Rattle.helpers.specs.Facts.{handed_on}
use Rattle.format.specs.Steps.{read_number, read_skip, read_bind, read_done, read_refuse}
use borrow.Author.Tests.{eq-eqb, ne_eqb, le-leb, lt-leb}
use Rattle.format.specs.Bits.{bit_set, bit_clear}
use Rattle.data_object_header.specs.Headers.{ohdr, header_fields}
use Rattle.data_object_header.proofs.header_fields.Goals as goal

pub returns-in_err-version_at : goal.returns-in_err-version_at
unfolding header_fields ohdr
returns-in_err-version_at c = rw (read_bind, ← c.signature.ensures, c.in_err-version_at.was, handed_on c.from_residual.result c.in_err-version_at.field-0.0 c.from_residual.ensures.1)

pub returns-in_err-version : goal.returns-in_err-version
unfolding header_fields ohdr
returns-in_err-version c = rw (read_bind, ← c.signature.ensures, c.in_ok-version_at.was, read_number, ← c.le_u8.ensures, c.in_err-version.was, handed_on c.from_residual-in_err-version.result c.in_err-version.field-0.0 c.from_residual-in_err-version.ensures.1)

pub returns-then-version-ne2 : goal.returns-then-version-ne2
unfolding header_fields ohdr
returns-then-version-ne2 c = rw (read_bind, ← c.signature.ensures, c.in_ok-version_at.was, read_number, ← c.le_u8.ensures, c.in_ok-version.was, ne_eqb _ _ c.if-version-ne2.true, read_refuse)

pub returns-in_err-flags : goal.returns-in_err-flags
unfolding header_fields ohdr
returns-in_err-flags c = rw (read_bind, ← c.signature.ensures, c.in_ok-version_at.was, read_number, ← c.le_u8.ensures, c.in_ok-version.was, eq-eqb _ _ c.if-version-ne2.false, read_number, ← c.le_u8-2.ensures, c.in_err-flags.was, handed_on c.from_residual-in_err-flags.result c.in_err-flags.field-0.0 c.from_residual-in_err-flags.ensures.1)

pub returns-then-flags-ne0 : goal.returns-then-flags-ne0
unfolding header_fields ohdr
returns-then-flags-ne0 c = rw (read_bind, ← c.signature.ensures, c.in_ok-version_at.was, read_number, ← c.le_u8.ensures, c.in_ok-version.was, eq-eqb _ _ c.if-version-ne2.false, read_number, ← c.le_u8-2.ensures, c.in_ok-flags.was, bit_set c.in_ok-flags.flags 4 c.if-flags-ne0.true, read_refuse)

pub returns-in_err-size_at : goal.returns-in_err-size_at
unfolding header_fields ohdr
returns-in_err-size_at c = rw (read_bind, ← c.signature.ensures, c.in_ok-version_at.was, read_number, ← c.le_u8.ensures, c.in_ok-version.was, eq-eqb _ _ c.if-version-ne2.false, read_number, ← c.le_u8-2.ensures, c.in_ok-flags.was, bit_clear c.in_ok-flags.flags 4 c.if-flags-ne0.false, ← c.times_size.ensures, read_skip, ← c.take.ensures, c.in_err-size_at.was, handed_on c.from_residual-in_err-size_at.result c.in_err-size_at.field-0.0 c.from_residual-in_err-size_at.ensures.1)

pub returns-in_err-size : goal.returns-in_err-size
unfolding header_fields ohdr
returns-in_err-size c = rw (read_bind, ← c.signature.ensures, c.in_ok-version_at.was, read_number, ← c.le_u8.ensures, c.in_ok-version.was, eq-eqb _ _ c.if-version-ne2.false, read_number, ← c.le_u8-2.ensures, c.in_ok-flags.was, bit_clear c.in_ok-flags.flags 4 c.if-flags-ne0.false, ← c.times_size.ensures, read_skip, ← c.take.ensures, c.in_ok-size_at.was, ← c.chunk_size_width.ensures.0, read_number, ← c.varint.ensures, c.in_err-size.was, handed_on c.from_residual-in_err-size.result c.in_err-size.field-0.0 c.from_residual-in_err-size.ensures.1)

pub returns-then-size-gt16777216 : goal.returns-then-size-gt16777216
unfolding header_fields ohdr
returns-then-size-gt16777216 c = rw (read_bind, ← c.signature.ensures, c.in_ok-version_at.was, read_number, ← c.le_u8.ensures, c.in_ok-version.was, eq-eqb _ _ c.if-version-ne2.false, read_number, ← c.le_u8-2.ensures, c.in_ok-flags.was, bit_clear c.in_ok-flags.flags 4 c.if-flags-ne0.false, ← c.times_size.ensures, read_skip, ← c.take.ensures, c.in_ok-size_at.was, ← c.chunk_size_width.ensures.0, read_number, ← c.varint.ensures, c.in_ok-size.was, lt-leb _ _ c.if-size-gt16777216.true, read_refuse)

pub returns : goal.returns
unfolding header_fields ohdr
returns c = rw (read_bind, ← c.signature.ensures, c.in_ok-version_at.was, read_number, ← c.le_u8.ensures, c.in_ok-version.was, eq-eqb _ _ c.if-version-ne2.false, read_number, ← c.le_u8-2.ensures, c.in_ok-flags.was, bit_clear c.in_ok-flags.flags 4 c.if-flags-ne0.false, ← c.times_size.ensures, read_skip, ← c.take.ensures, c.in_ok-size_at.was, ← c.chunk_size_width.ensures.0, read_number, ← c.varint.ensures, c.in_ok-size.was, le-leb _ _ c.if-size-gt16777216.false, read_done)
