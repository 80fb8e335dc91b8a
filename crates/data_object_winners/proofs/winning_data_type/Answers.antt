-- No row and a refused reading both give the default; else the datatype is what was read.
use Rattle.data_object_winners.specs.Facts.{read_or_default}
use Rattle.data_object_winners.proofs.winning_data_type.Goals as goal

pub returns-in_default : goal.returns-in_default
returns-in_default c = rw (c.default.ensures, ← c.last_body.ensures, c.in_default.is)

pub returns : goal.returns
returns c = rw (← c.last_body.ensures, c.in-Some.is) (read_or_default _ c.message_data_type.result c.value_or_default.result c.message_data_type.ensures c.value_or_default.ensures)
