-- Each field is one step of the format, and the mask tests the flags that it refuses.
use Rattle.helpers.specs.Facts.{handed_on}
use Rattle.format.specs.Steps.{read_number, read_bind, read_done, read_refuse}
use borrow.Author.Tests.{eq-eqb, ne_eqb}
use Rattle.ohdr_entry.specs.Entries.{prefix}
use Rattle.ohdr_entry.proofs.entry_prefix.Goals as goal

pub returns-in_err-kind : goal.returns-in_err-kind
unfolding prefix
returns-in_err-kind c = rw (read_number, ← c.le_u8.ensures, c.in_err-kind.was, handed_on c.from_residual.result c.in_err-kind.field-0.0 c.from_residual.ensures.1)

pub returns-in_err-size : goal.returns-in_err-size
unfolding prefix
returns-in_err-size c = rw (read_number, ← c.le_u8.ensures, c.in_ok-kind.was, read_number, ← c.le_u16.ensures, c.in_err-size.was, handed_on c.from_residual-in_err-size.result c.in_err-size.field-0.0 c.from_residual-in_err-size.ensures.1)

pub returns-in_err-flags : goal.returns-in_err-flags
unfolding prefix
returns-in_err-flags c = rw (read_number, ← c.le_u8.ensures, c.in_ok-kind.was, read_number, ← c.le_u16.ensures, c.in_ok-size.was, read_number, ← c.le_u8-2.ensures, c.in_err-flags.was, handed_on c.from_residual-in_err-flags.result c.in_err-flags.field-0.0 c.from_residual-in_err-flags.ensures.1)

pub returns-then-flags-ne0 : goal.returns-then-flags-ne0
unfolding prefix
returns-then-flags-ne0 c = rw (read_number, ← c.le_u8.ensures, c.in_ok-kind.was, read_number, ← c.le_u16.ensures, c.in_ok-size.was, read_number, ← c.le_u8-2.ensures, c.in_ok-flags.was, ne_eqb _ _ c.if-flags-ne0.true, read_refuse)

pub returns-in_err-next : goal.returns-in_err-next
unfolding prefix
returns-in_err-next c = rw (read_number, ← c.le_u8.ensures, c.in_ok-kind.was, read_number, ← c.le_u16.ensures, c.in_ok-size.was, read_number, ← c.le_u8-2.ensures, c.in_ok-flags.was, eq-eqb _ _ c.if-flags-ne0.false, read_bind, ← c.creation_order.ensures, c.in_err-next.was, handed_on c.from_residual-in_err-next.result c.in_err-next.field-0.0 c.from_residual-in_err-next.ensures.1)

pub returns : goal.returns
unfolding prefix
returns c = rw (read_number, ← c.le_u8.ensures, c.in_ok-kind.was, read_number, ← c.le_u16.ensures, c.in_ok-size.was, read_number, ← c.le_u8-2.ensures, c.in_ok-flags.was, eq-eqb _ _ c.if-flags-ne0.false, read_bind, ← c.creation_order.ensures, c.in_ok-next.was, read_done)
