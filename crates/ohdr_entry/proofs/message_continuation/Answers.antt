-- Offset and length are each one step of the format, and each test is the format's own.
use Rattle.helpers.specs.Facts.{handed_on}
use borrow.Author.Tests.{lt-leb, le-leb}
use Rattle.format.specs.Steps.{read_number, read_bind, read_done, read_refuse}
use Rattle.helpers.specs.Addresses.{defined_address}
use Rattle.ohdr_entry.specs.Continuations.{continuation}
use Rattle.ohdr_entry.specs.Facts.{before_end, ends_past, ends_inside}
use Rattle.ohdr_entry.proofs.message_continuation.Goals as goal

pub returns-in_err-address : goal.returns-in_err-address
unfolding continuation defined_address
returns-in_err-address c = rw (read_bind, read_bind, ← c.address.ensures, c.in_err-address.was, handed_on c.from_residual.result c.in_err-address.field-0.0 c.from_residual.ensures.1)

pub returns-in_default : goal.returns-in_default
unfolding continuation defined_address
returns-in_default c = rw (read_bind, read_bind, ← c.address.ensures, c.in_ok-address.was, c.in_default.is, read_refuse)

pub returns-then-not-is_address_valid : goal.returns-then-not-is_address_valid
unfolding continuation defined_address
returns-then-not-is_address_valid c = rw (read_bind, read_bind, ← c.address.ensures, c.in_ok-address.was, c.in-Number.is, read_done, ← c.is_address_valid.ensures, c.if-not-is_address_valid.true, read_refuse)

pub returns-in_err-length : goal.returns-in_err-length
unfolding continuation defined_address
returns-in_err-length c = rw (read_bind, read_bind, ← c.address.ensures, c.in_ok-address.was, c.in-Number.is, read_done, ← c.is_address_valid.ensures, c.if-not-is_address_valid.false, read_number, ← c.varint.ensures, c.in_err-length.was, handed_on c.from_residual-in_err-length.result c.in_err-length.field-0.0 c.from_residual-in_err-length.ensures.1)

pub returns-then-length-lt8 : goal.returns-then-length-lt8
unfolding continuation defined_address
returns-then-length-lt8 c = rw (read_bind, read_bind, ← c.address.ensures, c.in_ok-address.was, c.in-Number.is, read_done, ← c.is_address_valid.ensures, c.if-not-is_address_valid.false, read_number, ← c.varint.ensures, c.in_ok-length.was, lt-leb _ _ c.if-length-lt8.true, read_refuse)

pub overflow_sub-end : goal.overflow_sub-end
overflow_sub-end c = before_end c.args.state _ c.is_address_valid.ensures (c.if-not-is_address_valid.false)

pub returns-then-end-offset : goal.returns-then-end-offset
unfolding continuation defined_address
returns-then-end-offset c = rw (read_bind, read_bind, ← c.address.ensures, c.in_ok-address.was, c.in-Number.is, read_done, ← c.is_address_valid.ensures, c.if-not-is_address_valid.false, read_number, ← c.varint.ensures, c.in_ok-length.was, le-leb _ _ c.if-length-lt8.false, ends_past _ _ _ c.if-end-offset.true, read_refuse)

pub returns : goal.returns
unfolding continuation defined_address
returns c = rw (read_bind, read_bind, ← c.address.ensures, c.in_ok-address.was, c.in-Number.is, read_done, ← c.is_address_valid.ensures, c.if-not-is_address_valid.false, read_number, ← c.varint.ensures, c.in_ok-length.was, le-leb _ _ c.if-length-lt8.false, ends_inside _ _ _ c.if-length-lt8.false c.if-end-offset.false, read_done)
