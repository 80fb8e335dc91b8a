-- What the attribute's reading gives is shown as its name, its part and its number, or it is refused alike.
use Rattle.helpers.specs.Facts.{handed_on}
use Rattle.ohdr_entry.specs.Entries.{attribute_body}
use Rattle.format.specs.Steps.{read_bind, read_done}
use Rattle.ohdr_entry.proofs.body_attribute.Goals as goal

pub returns-in_err-attribute : goal.returns-in_err-attribute
unfolding attribute_body
returns-in_err-attribute c = rw (read_bind, ← c.message_attribute.ensures, c.in_err-attribute.was, handed_on c.from_residual.result c.in_err-attribute.field-0.0 c.from_residual.ensures.1)

pub returns : goal.returns
unfolding attribute_body
returns c = rw (read_bind, ← c.message_attribute.ensures, c.in_ok-attribute.was, read_done, c.text.ensures, c.number_case.ensures, c.number_bits.ensures)
