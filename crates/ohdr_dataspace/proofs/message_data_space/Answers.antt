-- The fields go on with the sizes, which the call reads.
use Rattle.helpers.specs.Facts.{handed_on}
use Rattle.ohdr_dataspace.proofs.message_data_space.Goals as goal

pub data_space_sizes-requires : goal.data_space_sizes-requires
data_space_sizes-requires c = (rw c.in_ok-fields.was at c.data_space_fields.ensures.few, c.requires.lengths)

pub returns-clause-result_value : goal.returns-clause-result_value
returns-clause-result_value c = rw (← c.data_space_fields.ensures.result_value c.args.state, c.in_ok-fields.was) c.data_space_sizes.ensures.result_value

pub returns-in_err-fields-clause-result_value : goal.returns-in_err-fields-clause-result_value
returns-in_err-fields-clause-result_value c = rw (← c.data_space_fields.ensures.result_value c.args.state, c.in_err-fields.was, handed_on c.from_residual.result c.in_err-fields.field-0.0 c.from_residual.ensures.1)
