-- The prefix is one step of the format, and its type chooses which call reads the rest.
use Rattle.helpers.specs.Facts.{handed_on}
use Rattle.ohdr_entry.specs.Entries.{entry}
use Rattle.format.specs.Steps.{read_bind, read_here}
use borrow.Author.Tests.{eq-eqb, ne_eqb}
use Rattle.ohdr_entry.proofs.entry_alone.Goals as goal

pub returns-in_err-prefix : goal.returns-in_err-prefix
unfolding entry
returns-in_err-prefix c = rw (read_bind, ← c.entry_prefix.ensures, c.in_err-prefix.was, handed_on c.from_residual.result c.in_err-prefix.field-0.0 c.from_residual.ensures.1)

pub returns-then-prefix-eq16 : goal.returns-then-prefix-eq16
unfolding entry
returns-then-prefix-eq16 c = rw (read_bind, ← c.entry_prefix.ensures, c.in_ok-prefix.was, read_here, eq-eqb _ _ c.if-prefix-eq16.true) c.entry_continuation.ensures

pub returns-else-prefix-eq16 : goal.returns-else-prefix-eq16
unfolding entry
returns-else-prefix-eq16 c = rw (read_bind, ← c.entry_prefix.ensures, c.in_ok-prefix.was, read_here, ne_eqb _ _ c.if-prefix-eq16.false) c.entry_message.ensures
