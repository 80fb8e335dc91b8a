-- The four bytes are one number of the format, and the test is the format's own.
use Rattle.helpers.specs.Facts.{handed_on}
use Rattle.format.specs.Steps.{read_number, read_refuse, read_done}
use borrow.Author.Tests.{eq-eqb, ne_eqb}
use Rattle.helpers.proofs.signature.Goals as goal

pub returns-in_err-value : goal.returns-in_err-value
returns-in_err-value c = rw (read_number, ← c.le_u32.ensures, c.in_err-value.was, handed_on c.from_residual.result c.in_err-value.field-0.0 c.from_residual.ensures.1)

pub returns-then-value-mark : goal.returns-then-value-mark
returns-then-value-mark c = rw (read_number, ← c.le_u32.ensures, c.in_ok-value.was, ne_eqb _ _ c.if-value-mark.true, read_refuse)

pub returns : goal.returns
returns c = rw (read_number, ← c.le_u32.ensures, c.in_ok-value.was, eq-eqb _ _ c.if-value-mark.false, read_done)
