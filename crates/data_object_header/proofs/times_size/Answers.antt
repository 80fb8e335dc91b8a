-- The mask 32 tests flag bit 5, set or clear.
use Rattle.format.specs.Bits.{bit_set, bit_clear}
use Rattle.data_object_header.proofs.times_size.Goals as goal

pub returns-then-flags-ne0 : goal.returns-then-flags-ne0
returns-then-flags-ne0 c = rw (bit_set _ 5 c.if-flags-ne0.true)

pub returns-else-flags-ne0 : goal.returns-else-flags-ne0
returns-else-flags-ne0 c = rw (bit_clear _ 5 c.if-flags-ne0.false)
