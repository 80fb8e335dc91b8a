-- Undefined, there are none; else what the call reads.
use Rattle.format.specs.Steps.{read_done}
use Rattle.ohdr_layout.specs.DataLayouts.{raw_data_lem}
use Rattle.ohdr_layout.proofs.raw_data.Goals as goal

pub returns-in-Undefined : goal.returns-in-Undefined
unfolding raw_data_lem
returns-in-Undefined c = rw (c.in-Undefined.is, read_done)

pub returns-in-Number : goal.returns-in-Number
unfolding raw_data_lem
returns-in-Number c = rw c.in-Number.is c.data_from.ensures
