-- The size is one step of the format, and the tests of it are the format's own.
use Rattle.helpers.specs.Facts.{handed_on}
use borrow.Author.Tests.{eq-eqb, ne_eqb, le-leb, lt-leb}
use Rattle.format.specs.Steps.{read_done, read_refuse, read_number}
use Rattle.ohdr_dataspace.specs.DataSpaces.{dimension}
use Rattle.ohdr_dataspace.proofs.dimension.Goals as goal

pub returns-in_err-size : goal.returns-in_err-size
unfolding dimension
returns-in_err-size c = rw (read_number, ← c.varint.ensures, c.in_err-size.was, handed_on c.from_residual.result c.in_err-size.field-0.0 c.from_residual.ensures.1)

pub returns-then-size-le1000000 : goal.returns-then-size-le1000000
unfolding dimension
returns-then-size-le1000000 c = rw (read_number, ← c.varint.ensures, c.in_ok-size.was, le-leb _ _ c.if-size-le1000000.true, read_done)

pub returns-then-not-maximum : goal.returns-then-not-maximum
unfolding dimension
returns-then-not-maximum c = rw (read_number, ← c.varint.ensures, c.in_ok-size.was, lt-leb _ _ c.if-size-le1000000.false, c.if-not-maximum.true, read_refuse)

pub returns-then-size-all_ones : goal.returns-then-size-all_ones
unfolding dimension
returns-then-size-all_ones c = rw (read_number, ← c.varint.ensures, c.in_ok-size.was, lt-leb _ _ c.if-size-le1000000.false, c.if-not-maximum.false, ← c.all_ones.ensures, eq-eqb _ _ c.if-size-all_ones.true, read_done)

pub returns-else-size-all_ones : goal.returns-else-size-all_ones
unfolding dimension
returns-else-size-all_ones c = rw (read_number, ← c.varint.ensures, c.in_ok-size.was, lt-leb _ _ c.if-size-le1000000.false, c.if-not-maximum.false, ← c.all_ones.ensures, ne_eqb _ _ c.if-size-all_ones.false, read_refuse)
