-- No row and a refused reading both give the default; else the dataspace is what was read. In each case it is true.
use Rattle.data_object_winners.specs.Facts.{read_or_default, space_or_default, true_or_default}
use Rattle.data_object_winners.proofs.winning_data_space.Goals as goal

pub returns-in_default-clause-value : goal.returns-in_default-clause-value
returns-in_default-clause-value c = rw (c.default.ensures.0, ← c.last_body.ensures, c.in_default.is)

pub returns-in_default-clause-true_space : goal.returns-in_default-clause-true_space
returns-in_default-clause-true_space c = c.default.ensures.1

pub returns-clause-value : goal.returns-clause-value
returns-clause-value c = rw (← c.last_body.ensures, c.in-Some.is) (let r = c.message_data_space.result in let v = c.value_or_default.result in read_or_default _ r v c.message_data_space.ensures.result_value (space_or_default r v c.value_or_default.ensures))

pub returns-clause-true_space : goal.returns-clause-true_space
returns-clause-true_space c = true_or_default c.message_data_space.result c.value_or_default.result c.message_data_space.ensures.true_space c.value_or_default.ensures
