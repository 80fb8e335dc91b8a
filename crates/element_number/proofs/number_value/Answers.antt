-- The element is read, and its number made of it.
use Rattle.helpers.specs.Facts.{handed_on}
use Rattle.format.specs.Steps.{read_bind, read_done}
use Rattle.element_number.specs.Values.{number_value}
use Rattle.number_form.specs.Sizes.{sized_whole}
use Rattle.element_number.proofs.number_value.Goals as goal

pub element-requires : goal.element-requires
element-requires c = sized_whole c.args.form c.args.size c.requires

pub returns-in_err-v : goal.returns-in_err-v
unfolding number_value
returns-in_err-v c = rw (read_bind, ← c.element.ensures.0, c.in_err-v.was, handed_on c.from_residual.result c.in_err-v.field-0.0 c.from_residual.ensures.1)

pub number_of-requires : goal.number_of-requires
number_of-requires c = (c.requires, rw c.in_ok-v.was at c.element.ensures.1)

pub returns : goal.returns
unfolding number_value
returns c = rw (read_bind, ← c.element.ensures.0, c.in_ok-v.was, read_done, c.number_of.ensures)
