-- The fields, the name and its padding are steps of the format, and the call reads the rest.
use Rattle.helpers.specs.Facts.{handed_on}
use Rattle.ohdr_attribute.specs.Attributes.{attribute}
use Rattle.format.specs.Steps.{read_here, read_bind, read_text, read_skip}
use Rattle.ohdr_attribute.proofs.message_attribute.Goals as goal

pub returns-in_err-fields : goal.returns-in_err-fields
unfolding attribute
returns-in_err-fields c = rw (read_bind, ← c.attribute_fields.ensures, c.in_err-fields.was, handed_on c.from_residual.result c.in_err-fields.field-0.0 c.from_residual.ensures.1)

pub returns-in_err-length : goal.returns-in_err-length
unfolding attribute
returns-in_err-length c = rw (read_bind, ← c.attribute_fields.ensures, c.in_ok-fields.was, read_here, read_text, ← c.trim_end.ensures, c.in_err-length.was, handed_on c.from_residual-in_err-length.result c.in_err-length.field-0.0 c.from_residual-in_err-length.ensures.1)

pub returns-in_err-type_at : goal.returns-in_err-type_at
unfolding attribute
returns-in_err-type_at c = rw (read_bind, ← c.attribute_fields.ensures, c.in_ok-fields.was, read_here, read_text, ← c.trim_end.ensures, c.in_ok-length.was, read_skip, ← c.eight_padding.ensures, ← c.take.ensures, c.in_err-type_at.was, handed_on c.from_residual-in_err-type_at.result c.in_err-type_at.field-0.0 c.from_residual-in_err-type_at.ensures.1)

pub returns : goal.returns
unfolding attribute
returns c = rw (read_bind, ← c.attribute_fields.ensures, c.in_ok-fields.was, read_here, read_text, ← c.trim_end.ensures, c.in_ok-length.was, read_skip, ← c.eight_padding.ensures, ← c.take.ensures, c.in_ok-type_at.was) c.name_and_value.ensures
