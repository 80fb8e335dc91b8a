-- The sizes and the maximum sizes are each one step of the format.
use Rattle.helpers.specs.Facts.{handed_on}
use Rattle.format.specs.Bits.{bit_test}
use Rattle.format.specs.Steps.{read_bind, read_done}
use Rattle.ohdr_dataspace.specs.Answers.{data_space_sizes}
use Rattle.ohdr_dataspace.proofs.data_space_sizes.Goals as goal

pub returns-in_err-dimension_size-clause-result_value : goal.returns-in_err-dimension_size-clause-result_value
unfolding data_space_sizes
returns-in_err-dimension_size-clause-result_value c = rw (read_bind, ← c.dimensions.ensures, c.in_err-dimension_size.was, handed_on c.from_residual.result c.in_err-dimension_size.field-0.0 c.from_residual.ensures.1)

pub returns-in_err-dimension_max_size-clause-result_value : goal.returns-in_err-dimension_max_size-clause-result_value
unfolding data_space_sizes
returns-in_err-dimension_max_size-clause-result_value c = rw (read_bind, ← c.dimensions.ensures, c.in_ok-dimension_size.was, read_bind, ← bit_test c.args.fields.flags 0, ← c.maximum_sizes.ensures, c.in_err-dimension_max_size.was, handed_on c.from_residual-in_err-dimension_max_size.result c.in_err-dimension_max_size.field-0.0 c.from_residual-in_err-dimension_max_size.ensures.1)

pub returns-clause-result_value : goal.returns-clause-result_value
unfolding data_space_sizes
returns-clause-result_value c = rw (read_bind, ← c.dimensions.ensures, c.in_ok-dimension_size.was, read_bind, ← bit_test c.args.fields.flags 0, ← c.maximum_sizes.ensures, c.in_ok-dimension_max_size.was, read_done, c.elements-elements.ensures)
