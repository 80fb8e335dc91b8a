-- The continuation and the rest of the size are each one step of the format.
use Rattle.helpers.specs.Facts.{handed_on}
use Rattle.ohdr_entry.specs.Facts.{seen_closed}
use Rattle.helpers.specs.Answers.{out}
use Rattle.ohdr_entry.specs.Entries.{continuation_held}
use Rattle.format.specs.Steps.{read_bind, read_done}
use Rattle.format.specs.Standing.{read_forward}
use mathlib.Core.Path.{sym, ◌∙◌, ap}
use Rattle.ohdr_entry.proofs.entry_continuation.Goals as goal

pub returns-in_err-continuation : goal.returns-in_err-continuation
unfolding continuation_held
returns-in_err-continuation c = rw (seen_closed, read_bind, ← c.message_continuation.ensures, c.in_err-continuation.was, handed_on c.from_residual.result c.in_err-continuation.field-0.0 c.from_residual.ensures.1)

pub close_entry-requires : goal.close_entry-requires
close_entry-requires c = read_forward _ _ _ _ _ (sym c.message_continuation.ensures ∙ ap out c.in_ok-continuation.was)

pub returns-in_err-next : goal.returns-in_err-next
unfolding continuation_held
returns-in_err-next c = rw (seen_closed, read_bind, ← c.message_continuation.ensures, c.in_ok-continuation.was, read_done, ← c.close_entry.ensures, c.in_err-next.was, handed_on c.from_residual-in_err-next.result c.in_err-next.field-0.0 c.from_residual-in_err-next.ensures.1)

pub returns : goal.returns
unfolding continuation_held
returns c = rw (seen_closed, read_bind, ← c.message_continuation.ensures, c.in_ok-continuation.was, read_done, ← c.close_entry.ensures, c.in_ok-next.was)
