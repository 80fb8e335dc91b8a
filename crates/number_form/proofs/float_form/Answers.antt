-- A single, a double, or neither.
use Rattle.number_form.specs.Forms.{float_form}
use Rattle.number_form.proofs.float_form.Goals as goal

pub returns-then-is_float : goal.returns-then-is_float
unfolding float_form
returns-then-is_float c = rw (← c.is_float.ensures, c.if-is_float.true)

pub returns-then-is_float-2 : goal.returns-then-is_float-2
unfolding float_form
returns-then-is_float-2 c = rw (← c.is_float.ensures, c.if-is_float.false, ← c.is_float-2.ensures, c.if-is_float-2.true)

pub returns : goal.returns
unfolding float_form
returns c = rw (← c.is_float.ensures, c.if-is_float.false, ← c.is_float-2.ensures, c.if-is_float-2.false)
