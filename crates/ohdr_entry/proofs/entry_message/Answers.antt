-- The body and the rest of the size are each one step, and the row holds what they gave.
use Rattle.helpers.specs.Facts.{handed_on}
use mathlib.Core.Path.{sym, ◌∙◌, ap}
use Rattle.helpers.specs.Answers.{out}
use Rattle.ohdr_entry.specs.Facts.{body_forward, seen_closed, seen_message}
use Rattle.ohdr_entry.proofs.entry_message.Goals as goal

pub returns-in-Err : goal.returns-in-Err
returns-in-Err c = rw (seen_closed, seen_message, ← c.message_kind.ensures, c.in-Err.is)

pub close_entry-requires : goal.close_entry-requires
close_entry-requires c = body_forward _ _ _ _ _ _ (sym c.message_kind.ensures ∙ ap out c.in-Ok.is)

pub returns-in_err-next-in-Ok : goal.returns-in_err-next-in-Ok
returns-in_err-next-in-Ok c = rw (seen_closed, seen_message, ← c.message_kind.ensures, c.in-Ok.is, ← c.close_entry.ensures, c.in_err-next-in-Ok.was, handed_on c.from_residual.result c.in_err-next-in-Ok.field-0.0 c.from_residual.ensures.1)

pub returns-in_ok-next-in-Ok : goal.returns-in_ok-next-in-Ok
returns-in_ok-next-in-Ok c = rw (seen_closed, seen_message, ← c.message_kind.ensures, c.in-Ok.is, ← c.close_entry.ensures, c.in_ok-next-in-Ok.was)
