-- Address, size and data are steps of the format, and the test of the size is the format's own.
use Rattle.helpers.specs.Facts.{handed_on}
use Rattle.ohdr_layout.specs.DataLayouts.{contiguous}
use borrow.Author.Tests.{lt-ltb, le-ltb}
use Rattle.format.specs.Steps.{read_number, read_bind, read_refuse, read_done}
use Rattle.ohdr_layout.proofs.layout_contiguous.Goals as goal

pub returns-in_err-address : goal.returns-in_err-address
unfolding contiguous
returns-in_err-address c = rw (read_bind, ← c.address.ensures, c.in_err-address.was, handed_on c.from_residual.result c.in_err-address.field-0.0 c.from_residual.ensures.1)

pub returns-in_err-size : goal.returns-in_err-size
unfolding contiguous
returns-in_err-size c = rw (read_bind, ← c.address.ensures, c.in_ok-address.was, read_number, ← c.varint.ensures, c.in_err-size.was, handed_on c.from_residual-in_err-size.result c.in_err-size.field-0.0 c.from_residual-in_err-size.ensures.1)

pub returns-then-size-ge268435456 : goal.returns-then-size-ge268435456
unfolding contiguous
returns-then-size-ge268435456 c = rw (read_bind, ← c.address.ensures, c.in_ok-address.was, read_number, ← c.varint.ensures, c.in_ok-size.was, le-ltb _ _ c.if-size-ge268435456.true, read_refuse)

pub returns-in_err-data : goal.returns-in_err-data
unfolding contiguous
returns-in_err-data c = rw (read_bind, ← c.address.ensures, c.in_ok-address.was, read_number, ← c.varint.ensures, c.in_ok-size.was, lt-ltb _ _ c.if-size-ge268435456.false, read_bind, ← c.raw_data.ensures, c.in_err-data.was, handed_on c.from_residual-in_err-data.result c.in_err-data.field-0.0 c.from_residual-in_err-data.ensures.1)

pub returns : goal.returns
unfolding contiguous
returns c = rw (read_bind, ← c.address.ensures, c.in_ok-address.was, read_number, ← c.varint.ensures, c.in_ok-size.was, lt-ltb _ _ c.if-size-ge268435456.false, read_bind, ← c.raw_data.ensures, c.in_ok-data.was, read_done)
