-- Each test is the form's, in its order; the masks are its bits.
use borrow.Author.Tests.{eq-eqb, ne_eqb}
use Prim.Native.Nat.{◌/◌}
use lib.Bits.{and_mask}
use Rattle.format.specs.Bits.{bit_set, bit_clear}
use Rattle.number_form.specs.Forms.{is_float}
use Rattle.number_form.proofs.is_float.Goals as goal

pub returns-then-bit_precision-width : goal.returns-then-bit_precision-width
unfolding is_float
returns-then-bit_precision-width c = rw (ne_eqb _ _ c.if-bit_precision-width.true)

pub returns-then-size-width : goal.returns-then-size-width
unfolding is_float
returns-then-size-width c = rw (eq-eqb _ _ c.if-bit_precision-width.false, ne_eqb _ _ c.if-size-width.true)

pub returns-then-bits-ne0 : goal.returns-then-bits-ne0
unfolding is_float
returns-then-bits-ne0 c = rw (eq-eqb _ _ c.if-bit_precision-width.false, eq-eqb _ _ c.if-size-width.false, bit_set c.args.bits 6 c.if-bits-ne0.true)

pub returns-then-bits-ne2 : goal.returns-then-bits-ne2
unfolding is_float
returns-then-bits-ne2 c = rw (eq-eqb _ _ c.if-bit_precision-width.false, eq-eqb _ _ c.if-size-width.false, bit_clear c.args.bits 6 c.if-bits-ne0.false, ← and_mask (c.args.bits / 16) 2, ne_eqb _ _ c.if-bits-ne2.true)

pub returns : goal.returns
unfolding is_float
returns c = rw (eq-eqb _ _ c.if-bit_precision-width.false, eq-eqb _ _ c.if-size-width.false, bit_clear c.args.bits 6 c.if-bits-ne0.false, ← and_mask (c.args.bits / 16) 2, eq-eqb _ _ c.if-bits-ne2.false, ← and_mask (c.args.bits / 256) 8)
