-- The data are read by the call, and the test of the address is the format's own.
use Rattle.helpers.specs.Facts.{handed_on}
use Rattle.format.specs.Steps.{read_there, read_done}
use Rattle.ohdr_layout.specs.DataLayouts.{data_from}
use Rattle.ohdr_layout.proofs.data_from.Goals as goal

pub returns-then-not-is_address_valid : goal.returns-then-not-is_address_valid
unfolding data_from
returns-then-not-is_address_valid c = rw (← c.is_address_valid.ensures, c.if-not-is_address_valid.true, read_done)

pub returns-in_err-data_at : goal.returns-in_err-data_at
unfolding data_from
returns-in_err-data_at c = rw (← c.is_address_valid.ensures, c.if-not-is_address_valid.false, read_there, ← c.data_at.ensures, c.in_err-data_at.was, handed_on c.from_residual.result c.in_err-data_at.field-0.0 c.from_residual.ensures.1)

pub returns : goal.returns
unfolding data_from
returns c = rw (← c.is_address_valid.ensures, c.if-not-is_address_valid.false, read_there, ← c.data_at.ensures, c.in_ok-data_at.was, ← c.part_of.ensures, read_done)
