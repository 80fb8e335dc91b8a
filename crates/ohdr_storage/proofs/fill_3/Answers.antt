-- The flags are one step of the format, and the mask 32 tests the bit that brings the value.
use Rattle.helpers.specs.Facts.{handed_on}
use Rattle.ohdr_storage.specs.Storage.{fill3}
use Rattle.format.specs.Bits.{bit_set, bit_clear}
use Rattle.format.specs.Steps.{read_number, read_done}
use Rattle.ohdr_storage.proofs.fill_3.Goals as goal

pub returns-in_err-flags : goal.returns-in_err-flags
unfolding fill3
returns-in_err-flags c = rw (read_number, ← c.le_u8.ensures, c.in_err-flags.was, handed_on c.from_residual.result c.in_err-flags.field-0.0 c.from_residual.ensures.1)

pub returns-then-flags-ne0 : goal.returns-then-flags-ne0
unfolding fill3
returns-then-flags-ne0 c = rw (read_number, ← c.le_u8.ensures, c.in_ok-flags.was, bit_set c.in_ok-flags.flags 5 c.if-flags-ne0.true) c.message_data_fill_old.ensures

pub returns : goal.returns
unfolding fill3
returns c = rw (read_number, ← c.le_u8.ensures, c.in_ok-flags.was, bit_clear c.in_ok-flags.flags 5 c.if-flags-ne0.false, read_done)
