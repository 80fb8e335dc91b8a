-- Each field is one step of version 2's table, and the test is the table's own.
use Rattle.helpers.specs.Facts.{handed_on}
use borrow.Author.Tests.{le-leb, lt-leb}
use Rattle.format.specs.Steps.{read_number, read_refuse}
use Rattle.ohdr_dataspace.specs.DataSpaces.{data_space2}
use Rattle.ohdr_dataspace.specs.Answers.{data_space_sizes}
use Rattle.ohdr_dataspace.proofs.data_space_2.Goals as goal

pub returns-in_err-dimensionality-clause-by_index : goal.returns-in_err-dimensionality-clause-by_index
unfolding data_space2
returns-in_err-dimensionality-clause-by_index c = λ width. rw (read_number, ← c.le_u8.ensures, c.in_err-dimensionality.was, handed_on c.from_residual.result c.in_err-dimensionality.field-0.0 c.from_residual.ensures.1)

pub returns-then-dimensionality-gt4-clause-by_index : goal.returns-then-dimensionality-gt4-clause-by_index
unfolding data_space2
returns-then-dimensionality-gt4-clause-by_index c = λ width. rw (read_number, ← c.le_u8.ensures, c.in_ok-dimensionality.was, lt-leb _ _ c.if-dimensionality-gt4.true, read_refuse)

pub returns-in_err-flags-clause-by_index : goal.returns-in_err-flags-clause-by_index
unfolding data_space2
returns-in_err-flags-clause-by_index c = λ width. rw (read_number, ← c.le_u8.ensures, c.in_ok-dimensionality.was, le-leb _ _ c.if-dimensionality-gt4.false, read_number, ← c.le_u8-2.ensures, c.in_err-flags.was, handed_on c.from_residual-in_err-flags.result c.in_err-flags.field-0.0 c.from_residual-in_err-flags.ensures.1)

pub returns-in_err-kind-clause-by_index : goal.returns-in_err-kind-clause-by_index
unfolding data_space2
returns-in_err-kind-clause-by_index c = λ width. rw (read_number, ← c.le_u8.ensures, c.in_ok-dimensionality.was, le-leb _ _ c.if-dimensionality-gt4.false, read_number, ← c.le_u8-2.ensures, c.in_ok-flags.was, read_number, ← c.le_u8-3.ensures, c.in_err-kind.was, handed_on c.from_residual-in_err-kind.result c.in_err-kind.field-0.0 c.from_residual-in_err-kind.ensures.1)

pub returns-clause-by_index : goal.returns-clause-by_index
unfolding data_space2 data_space_sizes
returns-clause-by_index c = λ width. rw (read_number, ← c.le_u8.ensures, c.in_ok-dimensionality.was, le-leb _ _ c.if-dimensionality-gt4.false, read_number, ← c.le_u8-2.ensures, c.in_ok-flags.was, read_number, ← c.le_u8-3.ensures, c.in_ok-kind.was)
