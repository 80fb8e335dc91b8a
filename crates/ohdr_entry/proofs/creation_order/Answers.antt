-- The mask 4 tests header flag bit 2, and the order is one step of the format.
use Rattle.helpers.specs.Facts.{handed_on}
use Rattle.ohdr_entry.specs.Entries.{creation_order}
use Rattle.format.specs.Steps.{read_number, read_done}
use Rattle.format.specs.Bits.{bit_set, bit_clear}
use Rattle.ohdr_entry.proofs.creation_order.Goals as goal

pub returns-then-header_flags-eq0 : goal.returns-then-header_flags-eq0
unfolding creation_order
returns-then-header_flags-eq0 c = rw (bit_clear _ 2 c.if-header_flags-eq0.true, read_done)

pub returns-in_err-next : goal.returns-in_err-next
unfolding creation_order
returns-in_err-next c = rw (bit_set _ 2 c.if-header_flags-eq0.false, read_number, ← c.le_u16.ensures, c.in_err-next.was, handed_on c.from_residual.result c.in_err-next.field-0.0 c.from_residual.ensures.1)

pub returns : goal.returns
unfolding creation_order
returns c = rw (bit_set _ 2 c.if-header_flags-eq0.false, read_number, ← c.le_u16.ensures, c.in_ok-next.was, read_done)
