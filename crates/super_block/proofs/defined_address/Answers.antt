-- The address is read by the call, and its case is the format's own.
use Rattle.helpers.specs.Facts.{handed_on}
use Rattle.format.specs.Steps.{read_bind, read_refuse, read_done}
use Rattle.helpers.specs.Addresses.{defined_address}
use Rattle.super_block.proofs.defined_address.Goals as goal

pub returns-in_err-stored : goal.returns-in_err-stored
unfolding defined_address
returns-in_err-stored c = rw (read_bind, ← c.address.ensures, c.in_err-stored.was, handed_on c.from_residual.result c.in_err-stored.field-0.0 c.from_residual.ensures.1)

pub returns-in-Undefined : goal.returns-in-Undefined
unfolding defined_address
returns-in-Undefined c = rw (read_bind, ← c.address.ensures, c.in_ok-stored.was, c.in-Undefined.is, read_refuse)

pub returns-in-Number : goal.returns-in-Number
unfolding defined_address
returns-in-Number c = rw (read_bind, ← c.address.ensures, c.in_ok-stored.was, c.in-Number.is, read_done)
