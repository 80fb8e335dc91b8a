-- The version is one step of the format, and chooses the table.
use Rattle.helpers.specs.Facts.{handed_on}
use borrow.Author.Tests.{ne_eqb}
use Rattle.format.specs.Steps.{read_number, read_refuse}
use Rattle.ohdr_dataspace.specs.DataSpaces.{data_space}
use native.Mathlib.Omega.{arith}
use Rattle.ohdr_dataspace.proofs.data_space_fields.Goals as goal

pub returns-in_err-version-clause-result_value : goal.returns-in_err-version-clause-result_value
unfolding data_space
returns-in_err-version-clause-result_value c = λ state. rw (read_number, ← c.le_u8.ensures, c.in_err-version.was, handed_on c.from_residual.result c.in_err-version.field-0.0 c.from_residual.ensures.1)

pub returns-in-1-clause-result_value : goal.returns-in-1-clause-result_value
unfolding data_space
returns-in-1-clause-result_value c = λ state. rw (read_number, ← c.le_u8.ensures, c.in_ok-version.was, c.in-1.is) (c.data_space_1.ensures.by_index state.size_of_lengths)

pub returns-in-2-clause-result_value : goal.returns-in-2-clause-result_value
unfolding data_space
returns-in-2-clause-result_value c = λ state. rw (read_number, ← c.le_u8.ensures, c.in_ok-version.was, c.in-2.is) (c.data_space_2.ensures.by_index state.size_of_lengths)

pub returns-in_default-clause-result_value : goal.returns-in_default-clause-result_value
unfolding data_space
returns-in_default-clause-result_value c = λ state. rw (read_number, ← c.le_u8.ensures, c.in_ok-version.was, ne_eqb c.in_ok-version.version 1 (omega arith), ne_eqb c.in_ok-version.version 2 (omega arith), read_refuse)
