-- A size above 8 is refused by the format too; any other is read by the call.
use Rattle.format.specs.Steps.{read_refuse}
use borrow.Author.Tests.{le-leb, lt-leb}
use Rattle.helpers.proofs.varint_size.Goals as goal

pub returns-then-size-gt8 : goal.returns-then-size-gt8
returns-then-size-gt8 c = rw (lt-leb _ _ c.if-size-gt8.true, read_refuse)

pub returns : goal.returns
returns c = rw (le-leb _ _ c.if-size-gt8.false, ← c.varint.ensures)
