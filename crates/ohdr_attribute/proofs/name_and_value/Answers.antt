-- The format tries type, space and value, and where one fails it goes back to where the type began.
use Rattle.format.specs.Steps.{read_attempt, read_here, read_bind, read_skip, read_done}
use Rattle.ohdr_datatype.specs.DataTypes.{data_type}
use Rattle.format.specs.Standing.{read_forward}
use Rattle.ohdr_attribute.specs.Attributes.{name_and_value, type_space_value}
use Rattle.ohdr_attribute.proofs.name_and_value.Goals as goal

pub returns-in_default : goal.returns-in_default
unfolding name_and_value type_space_value
returns-in_default c = rw (read_attempt, read_here, read_bind, ← c.message_data_type.ensures, c.in_default.is, read_done) c.without_value.ensures

pub overflow_sub-upto : goal.overflow_sub-upto
overflow_sub-upto c = read_forward c.args.file.now (data_type 32) c.args.at c.in-Ok.upto c.in-Ok.datatype (rw (← c.message_data_type.ensures, c.in-Ok.is))

pub returns-in_default-take : goal.returns-in_default-take
unfolding name_and_value type_space_value
returns-in_default-take c = rw (read_attempt, read_here, read_bind, ← c.message_data_type.ensures, c.in-Ok.is, read_here, read_skip, ← c.eight_padding.ensures, ← c.take.ensures, c.in_default-take.is, read_done) c.without_value-in_default-take.ensures

pub returns-in_default-space_and_value : goal.returns-in_default-space_and_value
unfolding name_and_value type_space_value
returns-in_default-space_and_value c = rw (read_attempt, read_here, read_bind, ← c.message_data_type.ensures, c.in-Ok.is, read_here, read_skip, ← c.eight_padding.ensures, ← c.take.ensures, c.in-Ok-take.is, ← c.space_and_value.ensures, c.in_default-space_and_value.is, read_done) c.without_value-in_default-space_and_value.ensures

pub returns : goal.returns
unfolding name_and_value type_space_value
returns c = rw (read_attempt, read_here, read_bind, ← c.message_data_type.ensures, c.in-Ok.is, read_here, read_skip, ← c.eight_padding.ensures, ← c.take.ensures, c.in-Ok-take.is, ← c.space_and_value.ensures, c.in-Ok-space_and_value.is, read_done)
