-- The space and its padding are steps of the format, and the call reads the value.
use Rattle.helpers.specs.Facts.{handed_on}
use Rattle.ohdr_dataspace.specs.DataSpaces.{data_space}
use Rattle.format.specs.Standing.{read_forward}
use Rattle.ohdr_attribute.specs.Attributes.{space_value}
use Rattle.format.specs.Steps.{read_here, read_bind, read_skip}
use Rattle.ohdr_attribute.proofs.space_and_value.Goals as goal

pub returns-in_err-space : goal.returns-in_err-space
unfolding space_value
returns-in_err-space c = rw (read_here, read_bind, ← c.message_data_space.ensures.result_value, c.in_err-space.was, handed_on c.from_residual.result c.in_err-space.field-0.0 c.from_residual.ensures.1)

pub overflow_sub-upto : goal.overflow_sub-upto
overflow_sub-upto c = read_forward c.args.file.now (data_space c.args.state) c.args.at c.in_ok-space.upto c.in_ok-space.space (rw (← c.message_data_space.ensures.result_value, c.in_ok-space.was))

pub returns-in_err-value_at : goal.returns-in_err-value_at
unfolding space_value
returns-in_err-value_at c = rw (read_here, read_bind, ← c.message_data_space.ensures.result_value, c.in_ok-space.was, read_here, read_skip, ← c.eight_padding.ensures, ← c.take.ensures, c.in_err-value_at.was, handed_on c.from_residual-in_err-value_at.result c.in_err-value_at.field-0.0 c.from_residual-in_err-value_at.ensures.1)

pub attribute_value-requires : goal.attribute_value-requires
attribute_value-requires c = rw c.in_ok-space.was at c.message_data_space.ensures.true_space

pub returns : goal.returns
unfolding space_value
returns c = rw (read_here, read_bind, ← c.message_data_space.ensures.result_value, c.in_ok-space.was, read_here, read_skip, ← c.eight_padding.ensures, ← c.take.ensures, c.in_ok-value_at.was) c.attribute_value.ensures
