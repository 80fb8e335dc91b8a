-- Only version 1 has the six bytes, which are one number of the format and must be zero.
use Rattle.helpers.specs.Facts.{handed_on}
use Rattle.ohdr_storage.specs.Storage.{reserved}
use borrow.Author.Tests.{ne_eqb, eq-eqb}
use Rattle.format.specs.Steps.{read_number, read_refuse, read_done}
use Rattle.ohdr_storage.proofs.pipeline_reserved.Goals as goal

pub returns-then-version-ne1 : goal.returns-then-version-ne1
unfolding reserved
returns-then-version-ne1 c = rw (ne_eqb _ _ c.if-version-ne1.true, read_done)

pub returns-in_err-value : goal.returns-in_err-value
unfolding reserved
returns-in_err-value c = rw (c.if-version-ne1.false, read_number, ← c.varint.ensures, c.in_err-value.was, handed_on c.from_residual.result c.in_err-value.field-0.0 c.from_residual.ensures.1)

pub returns-then-value-ne0 : goal.returns-then-value-ne0
unfolding reserved
returns-then-value-ne0 c = rw (c.if-version-ne1.false, read_number, ← c.varint.ensures, c.in_ok-value.was, ne_eqb _ _ c.if-value-ne0.true, read_refuse)

pub returns : goal.returns
unfolding reserved
returns c = rw (c.if-version-ne1.false, read_number, ← c.varint.ensures, c.in_ok-value.was, eq-eqb _ _ c.if-value-ne0.false, read_done)
