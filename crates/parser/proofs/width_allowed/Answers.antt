-- The two tests are those of the definition.
use borrow.Author.Tests.{lt-leb, le-leb}
use Rattle.parser.proofs.width_allowed.Goals as goal

pub returns-then-width-lt2 : goal.returns-then-width-lt2
returns-then-width-lt2 c = rw (lt-leb _ _ c.if-width-lt2.true)

pub returns : goal.returns
returns c = rw (le-leb _ _ c.if-width-lt2.false)
