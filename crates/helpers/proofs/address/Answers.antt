-- The number is read by the call, and its test is the format's own.
use Rattle.helpers.specs.Facts.{handed_on}
use Rattle.format.specs.Steps.{read_number, read_done}
use borrow.Author.Tests.{eq-eqb, ne_eqb}
use Rattle.helpers.specs.Addresses.{address}
use Rattle.helpers.proofs.address.Goals as goal

pub returns-in_err-value : goal.returns-in_err-value
unfolding address
returns-in_err-value c = rw (read_number, ← c.varint.ensures, c.in_err-value.was, handed_on c.from_residual.result c.in_err-value.field-0.0 c.from_residual.ensures.1)

pub returns-then-value-all_ones : goal.returns-then-value-all_ones
unfolding address
returns-then-value-all_ones c = rw (read_number, ← c.varint.ensures, c.in_ok-value.was, ← c.all_ones.ensures, eq-eqb _ _ c.if-value-all_ones.true, read_done)

pub returns : goal.returns
unfolding address
returns c = rw (read_number, ← c.varint.ensures, c.in_ok-value.was, ← c.all_ones.ensures, ne_eqb _ _ c.if-value-all_ones.false, read_done)
