-- The name, its closing zero and the offset of a version 3 member are each one step of the format.
use Rattle.helpers.specs.Facts.{handed_on}
use Rattle.format.specs.Steps.{read_done, read_number, read_skip, read_name}
use Rattle.ohdr_member.specs.Members.{member3}
use borrow.Author.Tests.{lt-ltb, le-ltb}
use Rattle.ohdr_member.proofs.member_3.Goals as goal

pub returns-in_err-closing_at : goal.returns-in_err-closing_at
unfolding member3
returns-in_err-closing_at c = rw (read_name, ← c.take_till.ensures, c.in_err-closing_at.was, handed_on c.from_residual.result c.in_err-closing_at.field-0.0 c.from_residual.ensures.1)

pub returns-in_err-offset_at : goal.returns-in_err-offset_at
unfolding member3
returns-in_err-offset_at c = rw (read_name, ← c.take_till.ensures, c.in_ok-closing_at.was, read_skip, ← c.take.ensures, c.in_err-offset_at.was, handed_on c.from_residual-in_err-offset_at.result c.in_err-offset_at.field-0.0 c.from_residual-in_err-offset_at.ensures.1)

pub returns-in_err-next : goal.returns-in_err-next
unfolding member3
returns-in_err-next c = rw (read_name, ← c.take_till.ensures, c.in_ok-closing_at.was, read_skip, ← c.take.ensures, c.in_ok-offset_at.was, lt-ltb _ _ c.if-size-gt0.true, read_number, ← c.le_u8.ensures, c.in_err-next.was, handed_on c.from_residual-in_err-next.result c.in_err-next.field-0.0 c.from_residual-in_err-next.ensures.1)

pub returns-then-size-gt0 : goal.returns-then-size-gt0
unfolding member3
returns-then-size-gt0 c = rw (read_name, ← c.take_till.ensures, c.in_ok-closing_at.was, read_skip, ← c.take.ensures, c.in_ok-offset_at.was, lt-ltb _ _ c.if-size-gt0.true, read_number, ← c.le_u8.ensures, c.in_ok-next.was, read_done)

pub returns : goal.returns
unfolding member3
returns c = rw (read_name, ← c.take_till.ensures, c.in_ok-closing_at.was, read_skip, ← c.take.ensures, c.in_ok-offset_at.was, le-ltb _ _ c.if-size-gt0.false, read_done)
