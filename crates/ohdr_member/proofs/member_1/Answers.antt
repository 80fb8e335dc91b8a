-- The name, its padding and the fields of a version 1 member are each one step of the format; the unused ones at the end are one step.
use Rattle.helpers.specs.Facts.{handed_on}
use Rattle.format.specs.Steps.{read_refuse, read_number, read_skip, read_name}
use Rattle.ohdr_member.specs.Members.{member1}
use Rattle.ohdr_member.specs.Facts.{padding, unused1_read}
use borrow.Author.Tests.{eq-eqb, ne_eqb}
use Rattle.ohdr_member.proofs.member_1.Goals as goal

pub returns-in_err-length : goal.returns-in_err-length
unfolding member1
returns-in_err-length c = rw (read_name, ← c.take_till.ensures, c.in_err-length.was, handed_on c.from_residual.result c.in_err-length.field-0.0 c.from_residual.ensures.1)

pub returns-in_err-padding_at : goal.returns-in_err-padding_at
unfolding member1
returns-in_err-padding_at c = rw (read_name, ← c.take_till.ensures, c.in_ok-length.was, read_skip, ← c.take.ensures, c.in_err-padding_at.was, handed_on c.from_residual-in_err-padding_at.result c.in_err-padding_at.field-0.0 c.from_residual-in_err-padding_at.ensures.1)

pub returns-in_err-offset_at : goal.returns-in_err-offset_at
unfolding member1
returns-in_err-offset_at c = rw (read_name, ← c.take_till.ensures, c.in_ok-length.was, read_skip, ← c.take.ensures, c.in_ok-padding_at.was, padding, ← c.to_multiple_of_8.ensures, read_skip, ← c.take-2.ensures, c.in_err-offset_at.was, handed_on c.from_residual-in_err-offset_at.result c.in_err-offset_at.field-0.0 c.from_residual-in_err-offset_at.ensures.1)

pub returns-in_err-dimensionality_at : goal.returns-in_err-dimensionality_at
unfolding member1
returns-in_err-dimensionality_at c = rw (read_name, ← c.take_till.ensures, c.in_ok-length.was, read_skip, ← c.take.ensures, c.in_ok-padding_at.was, padding, ← c.to_multiple_of_8.ensures, read_skip, ← c.take-2.ensures, c.in_ok-offset_at.was, read_number, ← c.le_u32.ensures, c.in_err-dimensionality_at.was, handed_on c.from_residual-in_err-dimensionality_at.result c.in_err-dimensionality_at.field-0.0 c.from_residual-in_err-dimensionality_at.ensures.1)

pub returns-in_err-dimensionality : goal.returns-in_err-dimensionality
unfolding member1
returns-in_err-dimensionality c = rw (read_name, ← c.take_till.ensures, c.in_ok-length.was, read_skip, ← c.take.ensures, c.in_ok-padding_at.was, padding, ← c.to_multiple_of_8.ensures, read_skip, ← c.take-2.ensures, c.in_ok-offset_at.was, read_number, ← c.le_u32.ensures, c.in_ok-dimensionality_at.was, read_number, ← c.le_u8.ensures, c.in_err-dimensionality.was, handed_on c.from_residual-in_err-dimensionality.result c.in_err-dimensionality.field-0.0 c.from_residual-in_err-dimensionality.ensures.1)

pub returns-then-dimensionality-ne0 : goal.returns-then-dimensionality-ne0
unfolding member1
returns-then-dimensionality-ne0 c = rw (read_name, ← c.take_till.ensures, c.in_ok-length.was, read_skip, ← c.take.ensures, c.in_ok-padding_at.was, padding, ← c.to_multiple_of_8.ensures, read_skip, ← c.take-2.ensures, c.in_ok-offset_at.was, read_number, ← c.le_u32.ensures, c.in_ok-dimensionality_at.was, read_number, ← c.le_u8.ensures, c.in_ok-dimensionality.was, ne_eqb _ _ c.if-dimensionality-ne0.true, read_refuse)

pub returns : goal.returns
unfolding member1
returns c = rw (read_name, ← c.take_till.ensures, c.in_ok-length.was, read_skip, ← c.take.ensures, c.in_ok-padding_at.was, padding, ← c.to_multiple_of_8.ensures, read_skip, ← c.take-2.ensures, c.in_ok-offset_at.was, read_number, ← c.le_u32.ensures, c.in_ok-dimensionality_at.was, read_number, ← c.le_u8.ensures, c.in_ok-dimensionality.was, eq-eqb _ _ c.if-dimensionality-ne0.false, unused1_read, ← c.take-3.ensures)
