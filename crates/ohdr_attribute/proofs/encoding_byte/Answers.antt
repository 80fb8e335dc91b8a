-- Only version 3 has the byte, which is one step of the format.
use Rattle.helpers.specs.Facts.{handed_on}
use Rattle.ohdr_attribute.specs.Attributes.{encoding}
use Rattle.format.specs.Steps.{read_number, read_done}
use borrow.Author.Tests.{eq-eqb, ne_eqb}
use Rattle.ohdr_attribute.proofs.encoding_byte.Goals as goal

pub returns-then-version-ne3 : goal.returns-then-version-ne3
unfolding encoding
returns-then-version-ne3 c = rw (ne_eqb _ _ c.if-version-ne3.true, read_done)

pub returns-in_err-next : goal.returns-in_err-next
unfolding encoding
returns-in_err-next c = rw (eq-eqb _ _ c.if-version-ne3.false, read_number, ← c.le_u8.ensures, c.in_err-next.was, handed_on c.from_residual.result c.in_err-next.field-0.0 c.from_residual.ensures.1)

pub returns : goal.returns
unfolding encoding
returns c = rw (eq-eqb _ _ c.if-version-ne3.false, read_number, ← c.le_u8.ensures, c.in_ok-next.was, read_done)
