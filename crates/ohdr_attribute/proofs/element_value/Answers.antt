-- The form is the datatype's, and so are its sizes; without one the bytes are passed.
use Rattle.helpers.specs.Facts.{handed_on}
use Rattle.element_count.specs.Facts.{count_fits}
use Rattle.number_form.specs.Sizes.{form_sized}
use Rattle.format.specs.Steps.{read_bind, read_done}
use native.Mathlib.Omega.{arith}
use mathlib.Core.Path.{sym, ◌∙◌}
use Rattle.ohdr_attribute.proofs.element_value.Goals as goal

pub returns-in_default : goal.returns-in_default
returns-in_default c = rw (← c.number_form.ensures, c.in_default.is) (c.other_value.ensures _ (sym (count_fits _ (omega arith))))

pub number_value-requires : goal.number_value-requires
number_value-requires c = form_sized c.args.datatype _ (sym c.number_form.ensures ∙ c.in-Some.is)

pub returns-in_err-number : goal.returns-in_err-number
returns-in_err-number c = rw (← c.number_form.ensures, c.in-Some.is, read_bind, ← c.number_value.ensures, c.in_err-number.was, handed_on c.from_residual.result c.in_err-number.field-0.0 c.from_residual.ensures.1)

pub returns : goal.returns
returns c = rw (← c.number_form.ensures, c.in-Some.is, read_bind, ← c.number_value.ensures, c.in_ok-number.was, read_done)
