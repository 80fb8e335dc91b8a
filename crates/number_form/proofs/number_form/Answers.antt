-- The format chooses the test, and the class must be the format's.
use borrow.Author.Tests.{ne_eqb}
use lib.Bits.{and_mask}
use Rattle.number_form.specs.Forms.{number_form}
use Rattle.number_form.proofs.number_form.Goals as goal

pub returns-in_err-bit_offset : goal.returns-in_err-bit_offset
unfolding number_form
returns-in_err-bit_offset c = rw (c.in_err-bit_offset.was, c.from_residual.ensures)

pub returns-then-class-ne0 : goal.returns-then-class-ne0
unfolding number_form
returns-then-class-ne0 c = rw (c.in_ok-bit_offset.was, c.in-Fixed.is, ← and_mask _ 4, ne_eqb _ _ c.if-class-ne0.true)

pub returns-then-class-ne1 : goal.returns-then-class-ne1
unfolding number_form
returns-then-class-ne1 c = rw (c.in_ok-bit_offset.was, c.in-Float.is, ← and_mask _ 4, ne_eqb _ _ c.if-class-ne1.true)

pub returns-else-class-ne0 : goal.returns-else-class-ne0
unfolding number_form
returns-else-class-ne0 c = rw (c.in_ok-bit_offset.was, c.in-Fixed.is, ← and_mask _ 4, c.if-class-ne0.false) c.fixed_form.ensures

pub returns-else-class-ne1 : goal.returns-else-class-ne1
unfolding number_form
returns-else-class-ne1 c = rw (c.in_ok-bit_offset.was, c.in-Float.is, ← and_mask _ 4, c.if-class-ne1.false) c.float_form.ensures
