-- Each test is the form's, in its order.
use mathlib.Core.Path.{sym, ◌∙◌}
use native.Mathlib.Omega.{arith}
use borrow.Author.Tests.{eq-eqb, ne_eqb}
use Rattle.format.specs.Bits.{bit_set, bit_clear}
use Rattle.number_form.specs.Sizes.{small_size}
use Rattle.number_form.specs.Forms.{fixed_form}
use Rattle.number_form.proofs.fixed_form.Goals as goal

pub returns-then-not-whole_size : goal.returns-then-not-whole_size
unfolding fixed_form
returns-then-not-whole_size c = rw (← c.whole_size.ensures, c.if-not-whole_size.true)

pub returns-then-bit_offset-ne0 : goal.returns-then-bit_offset-ne0
unfolding fixed_form
returns-then-bit_offset-ne0 c = rw (← c.whole_size.ensures, c.if-not-whole_size.false, ne_eqb _ _ c.if-bit_offset-ne0.true)

pub overflow_mul-size : goal.overflow_mul-size
overflow_mul-size c = record { fits = omega (arith, small_size (sym c.whole_size.ensures ∙ c.if-not-whole_size.false)) }

pub returns-then-bit_precision-size : goal.returns-then-bit_precision-size
unfolding fixed_form
returns-then-bit_precision-size c = rw (← c.whole_size.ensures, c.if-not-whole_size.false, eq-eqb _ _ c.if-bit_offset-ne0.false, ne_eqb _ _ c.if-bit_precision-size.true)

pub returns-then-bits-eq0 : goal.returns-then-bits-eq0
unfolding fixed_form
returns-then-bits-eq0 c = rw (← c.whole_size.ensures, c.if-not-whole_size.false, eq-eqb _ _ c.if-bit_offset-ne0.false, eq-eqb _ _ c.if-bit_precision-size.false, bit_clear c.args.bits 3 c.if-bits-eq0.true)

pub returns : goal.returns
unfolding fixed_form
returns c = rw (← c.whole_size.ensures, c.if-not-whole_size.false, eq-eqb _ _ c.if-bit_offset-ne0.false, eq-eqb _ _ c.if-bit_precision-size.false, bit_set c.args.bits 3 c.if-bits-eq0.false)
